-- Solving with an honest sender, of sessions and the public calls. What an honest sender sent satisfies all equations, so that the call is
-- never refused; of two sessions the one that knows and holds more allows no more values. Assumes nothing.
use Rattle.std.proofs.Common.{Ok}
use Prim.Native.Nat.{ℕ, ◌+◌}
use mathlib.Core.Path.{◌≡◌, refl, sym, ap, ◌∙◌, subst}
use mathlib.Core.Logic.{⊎_elim}
use mathlib.Core.List.{List}
use lib.ListN.{get_or, get_or-eq_default}
use Rattle.octets.proofs.Laws.{below_or_not}
use Rattle.session.specs.Cells.{Cell, kept_numbers}
use Rattle.session.specs.Held.{held_messages}
use Rattle.session.specs.Honest.{TrueCells}
use Rattle.session.specs.View.{sum}
use Rattle.session_held.specs.Table.{view_of}
use Rattle.session_held.specs.declared.Session.{Session}
use Rattle.session_held.proofs.Laws.{in-ranges-true}
use Rattle.solve.specs.Equations.{padded, Solvable}
use Rattle.solve.specs.Solved.{SolvedTo}
use Rattle.solve.specs.Claims.{Wider}
use Rattle.solve.proofs.Laws.{padded-same, one_known, sent, sent-solution, honest-fill, solved-right, no_less, together-one}
use Rattle.sender.specs.Honest.{HonestSender, packet_at}
use Rattle.session_calls.specs.Receiver.{SeenAs}
use Rattle.session_calls.specs.Solver.{SolveOwes}
use Rattle.session_calls.specs.declared.Returned.{Returned}
use Rattle.session_calls.proofs.SolverClaims as solver
use Rattle.demands.specs.Demand3.Feeding.{place_of, sent_at, Fed}
use Rattle.demands.specs.Demand3.Demand3.{TwoLists}
use Rattle.demands.specs.Requests.Losses.{Losses}
use Rattle.demands.proofs.Sound.{Sound}
use Rattle.demands.proofs.SolvedSound.{honest-view}
use Rattle.demands.proofs.Fed.{fed-sound}
use Rattle.demands.proofs.Lists.{Less, messages-among, views-less}
use Rattle.demands.proofs.Demand3.{fed-seen, takes-seen, takes-fed}

-- ---- what the call came to, where some octets satisfy all equations
record Came (s : Session) (r : Returned (Unit {0})) : Type 0 where
  filled : r.answer ≡ Ok tt
  solved : SolvedTo (view_of s) (view_of r.session)

came : (s : Session) (r : Returned (Unit {0})) → SeenAs (view_of s) s → SolveOwes s r
    → Solvable (view_of s).cells (held_messages (view_of s).held) → Came s r
came s r seen owes some =
    let filled = ((solver.claims).answers.filled s r owes).1 (in-ranges-true seen.within, some) in
    record { filled = filled; solved = (solver.claims).answers.solved_to s r owes filled }

-- ---- an honest sender
module _ {row datagrams : List (List ℕ)} (honest : HonestSender row datagrams) where
  -- a session that it alone feeds
  record SeenSound (s : Session) : Type 0 where
    seen : SeenAs (view_of s) s
    sound : Sound row datagrams (view_of s)

  seen-sound : {s : Session} → Fed row datagrams s → SeenSound s
  seen-sound f =
      let b = fed-seen f in
      record {
        seen = record { within = b.seen.within; view = refl };
        sound = subst (Sound row datagrams) (sym b.seen.view) (fed-sound honest b.fed);
      }

  fed-came : {s : Session} {r : Returned (Unit {0})} → SeenSound s → SolveOwes s r → Came s r
  fed-came {s} {r} b owes =
      let h = honest-view honest b.sound in
      came s r b.seen owes
      (sent (sent_at row (view_of s)) _ _ h, sent-solution (sent_at row (view_of s)) _ _ h)

  -- the base has not moved, so that the sender's packets stand where they stood
  same_sent : {s : Session} {r : Returned (Unit {0})} → Came s r → sent_at row (view_of r.session) ≡ sent_at row (view_of s)
  same_sent c = ap (λ n. λ (p : ℕ). packet_at row (sum n + p)) c.solved.counts

  pub fed-same-sent : {s : Session} {r : Returned (Unit {0})} → Fed row datagrams s → SolveOwes s r
      → sent_at row (view_of r.session) ≡ sent_at row (view_of s)
  fed-same-sent f owes = same_sent (fed-came (seen-sound f) owes)

  -- ---- two lists that the call ends
  module _ {one two : Session} {r q : Returned (Unit {0})} (a : SeenSound one) (b : SeenSound two) (less : Less (view_of one) (view_of two))
      (c : Came one r) (d : Came two q) where
    place_same : place_of (view_of one) ≡ place_of (view_of two)
    place_same = ap sum less.counts

    wider : Wider (view_of one).cells (view_of two).cells
    wider =
        record {
          known = less.known;
          same = λ p k.
              ⊎_elim
              (λ inside.
              padded-same _ _
              (λ j.
              (b.sound.right p (rw b.sound.ranges.kept inside) (less.known p k)).same j
              ∙ sym (ap (λ (n : ℕ). get_or (packet_at row (n + p)) j 0) place_same)
              ∙ sym ((a.sound.right p (rw a.sound.ranges.kept inside) k).same j)))
              (λ outside.
              ap (λ (x : Cell). padded x.octets)
              (get_or-eq_default (view_of two).cells _ {n = p} (rw b.sound.ranges.kept outside)
              ∙ sym (get_or-eq_default (view_of one).cells _ {n = p} (rw a.sound.ranges.kept outside))))
              (below_or_not p kept_numbers);
        }

    two-lists : TwoLists row (view_of r.session) (view_of q.session)
    two-lists =
        record {
          known = λ p small.
              no_less _ _ _ _ _ _ wider (messages-among a.sound b.sound place_same less.marks) c.solved.cells
              d.solved.cells
              p;
          first_right =
              subst (λ (f : ℕ → List ℕ). TrueCells f (view_of r.session).cells) (sym (same_sent c))
              (solved-right (sent_at row (view_of one)) _ _ (honest-view honest a.sound) _ c.solved.cells);
          second_right =
              subst (λ (f : ℕ → List ℕ). TrueCells f (view_of q.session).cells) (sym (same_sent d))
              (solved-right (sent_at row (view_of two)) _ _ (honest-view honest b.sound) _ d.solved.cells);
          same_base = c.solved.base ∙ less.base ∙ sym d.solved.base;
          same_counts = c.solved.counts ∙ less.counts ∙ sym d.solved.counts;
        }

-- ---- each claim
pub losses : Losses
losses =
    record {
      call = solver.claims;
      never_refused = λ row datagrams honest s f r owes. (fed-came honest (seen-sound honest f) owes).filled;
      fills = λ row datagrams honest s f r owes p unknown known.
          let b = seen-sound honest f in
          honest-fill (sent_at row (view_of s)) _ _ (honest-view honest b.sound) _ (fed-came honest b owes).solved.cells p unknown known;
      no_less_known = λ row datagrams honest s f first second one two takes_one takes_two all r q owes also.
          let start = fed-seen f in
          let a = takes-seen start.seen takes_one in
          let b = takes-seen start.seen takes_two in
          let less : Less (view_of one) (view_of two) =
          rw (a.seen.view, b.seen.view) (views-less honest start.fed a.takes b.takes all) in
          let here = seen-sound honest (takes-fed f takes_one) in
          let there = seen-sound honest (takes-fed f takes_two) in
          two-lists honest here there less (fed-came honest here owes) (fed-came honest there also);
      brought_back = λ row datagrams honest s f r owes p small together.
          let b = seen-sound honest f in
          one_known (fed-came honest b owes).solved.cells p
          (together-one (view_of s).cells (held_messages (view_of s).held) p small
          (λ message q held member.
          let h = honest-view honest b.sound in
          rw b.sound.ranges.kept at ((h.messages_honest message held).inside q member))
          together);
    }
