-- What holds of a session that an honest sender feeds still holds after a solve. Assumes nothing.
use Prim.Native.Nat.{ℕ, ◌+◌, ◌-◌, ◌≤◌, ◌<◌}
use mathlib.Core.Path.{◌≡◌, sym, ap, subst, ◌∙◌}
use mathlib.Core.Logic.{⊎_elim}
use mathlib.Core.List.{List, []}
use lib.ListN.{length, get_or, get_or-eq_default}
use native.Mathlib.Omega.{arith}
use Rattle.octets.proofs.Laws.{below_or_not}
use Rattle.datagram.specs.Sizes.{packet_limit}
use Rattle.session.specs.Cells.{kept_before}
use Rattle.session.specs.Held.{Held, held_at, held_messages}
use Rattle.session.specs.Reached.{Known, Closed}
use Rattle.session.specs.Honest.{HonestMessages, TrueCells}
use Rattle.session.specs.View.{View, sum}
use Rattle.session.proofs.Laws.{held-honest}
use Rattle.solve.specs.Solved.{SolvedTo}
use Rattle.solve.specs.Claims.{HonestView}
use Rattle.solve.proofs.Laws.{stays-known, solved-closed, solved-right}
use Rattle.sender.specs.Sending.{history_kept}
use Rattle.sender.specs.Honest.{HonestSender, packet_at}
use Rattle.demands.specs.Demand3.Feeding.{place_of, sent_at}
use Rattle.demands.proofs.InRanges.{distinct-held}
use Rattle.demands.proofs.Sent.{packet_at-before, packet_at-sent, packet-sized, Follows}
use Rattle.demands.proofs.Sound.{Marked, Sound, held-sound}
use Rattle.demands.proofs.SolveDone.{SolveDone, solved-in-ranges}

module _ {row datagrams : List (List ℕ)} (honest : HonestSender row datagrams) where
  -- no packet is over the limit, and before the first and past the last there is none
  packet-short : (p : ℕ) → length (packet_at row p) ≤ packet_limit
  packet-short p =
      ⊎_elim (λ before. rw (packet_at-before row p before) (omega arith))
      (λ past.
      let place : p ≡ history_kept + (p - history_kept) = omega arith in
      subst (λ (x : ℕ). length (packet_at row x) ≤ packet_limit) (sym place)
      (subst (λ (l : List ℕ). length l ≤ packet_limit) (sym (packet_at-sent row (p - history_kept))) (sized (p - history_kept))))
      (below_or_not p history_kept)
    where
      sized : (S : ℕ) → length (get_or row S []) ≤ packet_limit
      sized S =
          ⊎_elim (λ low. (packet-sized honest S low).1)
          (λ past. subst (λ (l : List ℕ). length l ≤ packet_limit) (sym (get_or-eq_default row [] {n = S} past)) (omega arith))
          (below_or_not S (length row))

  pub honest-view : {view : View} → Sound row datagrams view → HonestView (sent_at row view) view.cells (held_messages view.held)
  honest-view {view} s =
      record {
        messages_honest =
            subst (λ (n : ℕ). HonestMessages (sent_at row view) n (held_messages view.held)) (sym s.ranges.kept)
            (held-honest (sent_at row view) view.held (omega (arith, s.ranges.heard))
            (λ j inside. held-sound s j (omega (arith, s.ranges.heard))));
        cells_true = s.right;
        short = λ p inside. packet-short (place_of view + p);
      }

  module _ {view last : View} (s : Sound row datagrams view) (o : SolveDone view last) (t : SolvedTo view last) where
    place : place_of last ≡ place_of view
    place = ap sum t.counts

    kept : (p : ℕ) → Known view.cells p → Known last.cells p
    kept p k = stays-known t.cells p k

    marked-on : (d : ℕ) → Marked row datagrams view d → Marked row datagrams last d
    marked-on d m =
        record {
          carried = m.carried;
          sent = subst (λ (n : ℕ). n + d < length row) (sym place) m.sent;
          follows = subst (λ (n : ℕ). Follows row datagrams (n + d) m.carried) (sym place) m.follows;
          held = ap (λ (h : List Held). held_at h d) t.held ∙ m.held;
          brings = λ p b. kept p (m.brings p b);
        }

    pub solved-to-sound : Sound row datagrams last
    solved-to-sound =
        record {
          ranges = solved-in-ranges o s.ranges;
          right =
              subst (λ (f : ℕ → List ℕ). TrueCells f last.cells) (ap (λ (n : ℕ). λ (p : ℕ). packet_at row (n + p)) (sym place))
              (solved-right (sent_at row view) _ _ (honest-view s) _ t.cells);
          marked = λ d low e. marked-on d (s.marked d low (sym (ap (λ (h : List Held). (held_at h d).accepted) t.held) ∙ e));
          unmarked = λ d low e.
              ap (λ (h : List Held). held_at h d) t.held
              ∙ s.unmarked d low (sym (ap (λ (h : List Held). (held_at h d).accepted) t.held) ∙ e);
          blanks = λ p low. kept p (s.blanks p (subst (λ (n : ℕ). n + p < kept_before) place low));
          closed =
              subst (λ (h : List Held). Closed (held_messages h) (Known last.cells)) (sym t.held)
              (solved-closed t.cells (distinct-held view s.ranges));
        }
