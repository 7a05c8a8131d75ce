-- Solve on plain values: outside the ranges the session is returned unchanged with refusal 17, within them the core's promise is the
-- call's, since the function that the core computes means what the equations mean. Assumes nothing.
use Rattle.std.proofs.Common.{Result, Err}
use Prim.Native.Nat.{ℕ}
use mathlib.Core.Path.{◌≡◌, refl, sym, ap, ◌∙◌, subst}
use mathlib.Core.Bool.{Bool, true, false, cond, false≢true}
use mathlib.Core.List.{List}
use Rattle.octets.proofs.Laws.{and_right}
use Rattle.length.specs.Refusals.{outside_ranges}
use Rattle.length.specs.Answers.{Answer, refused, refuse, afterwards}
use Rattle.length.specs.Promise.{RefusalMade}
use Rattle.length.specs.declared.Refusal.{Refusal}
use Rattle.session.specs.View.{View}
use Rattle.session.specs.Ranges.{in_ranges, Sound}
use Rattle.session.proofs.Laws.{sound-of}
use Rattle.session_held.specs.Table.{lent, lent_by, view_in, view_of}
use Rattle.session_held.specs.Laid.{laid, lent_in_ranges, session_in_ranges}
use Rattle.session_held.specs.declared.Counts.{Counts}
use Rattle.session_held.specs.declared.Session.{Session}
use Rattle.session_held.proofs.Laws.{length-cells, length-held}
use Rattle.solve.specs.Solve.{solve}
use Rattle.solve.specs.Solved.{Solves}
use Rattle.solve.proofs.SolutionsLaws.{means-it}
use Rattle.solve_code.specs.Promise.{Solving}
use Rattle.session_calls.specs.Receiver.{in_ranges_then}
use Rattle.session_calls.specs.Solver.{SolvesAs, SolveOwes}
use Rattle.session_calls.proofs.Called.{session_of, same-session, stands}

-- ---- what the function comes to
pub view-sound : (s : Session) → session_in_ranges s ≡ true → Sound (view_of s)
unfolding lent_in_ranges view_in
view-sound s inside =
    sound-of (view_of s) (and_right (laid (lent_by s)) (in_ranges (view_of s)) inside) (length-cells s.base s.table s.octets)
    (length-held s.base s.table s.messages)

pub solves-as : (s : Session) → SolvesAs s (in_ranges_then solve s)
solves-as s =
    record {
      outside = λ out. ap (λ (b : Bool). cond b (solve (view_of s)) (refuse outside_ranges)) out;
      inside = λ is.
          subst (Solves (view_of s)) (sym (ap (λ (b : Bool). cond b (solve (view_of s)) (refuse outside_ranges)) is))
          (means-it (view_of s) (view-sound s is));
    }

-- ---- the call
module _ {s : Session} {ok : Bool} (e : ok ≡ session_in_ranges s) where
  pub solve-outside : {why : Refusal} → RefusalMade outside_ranges why → ok ≡ false
      → SolveOwes s (record { session = s; answer = (Err why) })
  solve-outside made out =
      let outside : session_in_ranges s ≡ false = sym e ∙ out in
      record {
        wanted = refuse outside_ranges;
        means = record { outside = λ is. refl; inside = λ is. absurd (false≢true (sym outside ∙ is)) };
        answer = ap (λ (x : Refusal). refused x) made.answer;
        state = refl;
      }

  pub solve-inside : {b : ℕ} {c : Counts} {t o g : List ℕ} {answer : Result (Unit {0}) Refusal} → ok ≡ true → Solving (lent_by s) (lent b c t o g) answer
      → SolveOwes s (record { session = session_of b c t o g; answer = answer })
  solve-inside {b} {c} {t} {o} {g} right m =
      let inside : session_in_ranges s ≡ true = sym e ∙ right in
      record {
        wanted = solve (view_of s);
        means =
            record {
              outside = λ is. absurd (false≢true (sym is ∙ inside));
              inside = λ is. means-it (view_of s) (view-sound s inside);
            };
        answer = m.told;
        state =
            stands (solve (view_of s)) (λ v. v) _ s (session_of b c t o g)
            (λ v is. record { within = m.within; view = m.state ∙ ap (λ (x : Answer View). afterwards x (view_of s)) is })
            (λ x is. same-session (m.stays x is))
            (λ v is. is)
            (λ x is. is);
      }

pub ruleset solves = (solve-outside, solve-inside)
