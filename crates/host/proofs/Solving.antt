-- The host's call that solves all held messages together, on plain values: what the library's call promises, encoded as numbers.
-- Assumes nothing.
use Rattle.std.proofs.Common.{Result, Ok, Err}
use Prim.Native.Nat.{ℕ}
use mathlib.Core.Path.{◌≡◌, refl, sym, ap, subst, ◌∙◌}
use mathlib.Core.Bool.{Bool, true, false}
use mathlib.Core.List.{List}
use Rattle.length.specs.Refusals.{outside_ranges, number_of}
use Rattle.length.specs.Answers.{Answer}
use Rattle.length.specs.declared.Refusal.{Refusal}
use Rattle.session.specs.View.{View}
use Rattle.session_held.specs.Table.{lent_by}
use Rattle.session_held.specs.Laid.{InRanges}
use Rattle.session_held.proofs.Laws.{in-ranges-true}
use Rattle.solve_code.specs.Outcome.{solved_outcome}
use Rattle.solve_code.specs.Promise.{Solving}
use Rattle.session_calls.specs.Receiver.{After}
use Rattle.session_calls.proofs.Laws.{solve-outside, solve-inside, after_same, one_answer_lem}
use Rattle.host_answers.specs.Answers.{told}
use Rattle.host_answers.proofs.Laws.{told-mapped}
use Rattle.host.specs.Receiver.{session_in, RangesHosted}
use Rattle.host.specs.Solver.{SolvedTold, SolveHosted, OneSolved}
use Rattle.host_answers.specs.declared.answers.Answered.{Answered}
use Rattle.host.specs.declared.receiver.Head.{Head}
use Rattle.host.proofs.Memory.{same_memory}

pub told-filled : {a : Result (Unit {0}) Refusal} → a ≡ Ok tt → SolvedTold a (record { refusal = 0; place = 0 })
told-filled e = record { is = ap (λ (x : Result (Unit {0}) Refusal). told (solved_outcome x)) (sym e) }

pub told-unsolved : {a : Result (Unit {0}) Refusal} {why : Refusal} {number : ℕ} → a ≡ Err why → number ≡ number_of why.reason
    → SolvedTold a (record { refusal = number; place = why.place })
told-unsolved e is = rw is (record { is = ap (λ (x : Result (Unit {0}) Refusal). told (solved_outcome x)) (sym e) })

pub ruleset telling = (told-filled, told-unsolved)

pub solve-hosted : {h : Head} {t o g t₂ o₂ : List ℕ} {answer : Result (Unit {0}) Refusal} {r : Answered}
    → InRanges (lent_by (session_in h t o g))
    → Solving (lent_by (session_in h t o g)) (lent_by (session_in h t₂ o₂ g)) answer
    → SolvedTold answer r
    → SolveHosted h t o g t₂ o₂ r
solve-hosted {h} {t} {o} {g} within m from =
    let owes = solve-inside {s = session_in h t o g} {ok = true} (sym (in-ranges-true within)) refl m in
    record {
      wanted = owes.wanted;
      means = owes.means;
      answer = from.is ∙ ap told owes.answer ∙ told-mapped (λ (view : View). tt) owes.wanted;
      state = owes.state;
    }

pub solve-refused : {h : Head} {t o g : List ℕ} {ok : Bool} {number : ℕ} → RangesHosted h t o g ok → ok ≡ false
    → number ≡ number_of outside_ranges → SolveHosted h t o g t o (record { refusal = number; place = 0 })
solve-refused {h} {t} {o} {g} e out is =
    let owes = solve-outside {s = session_in h t o g} e.answer (record { answer = refl }) out in
    rw is
    (record {
      wanted = owes.wanted;
      means = owes.means;
      answer = ap told owes.answer ∙ told-mapped (λ (view : View). tt) owes.wanted;
      state = owes.state;
    })

-- ---- two outcomes are equal
pub one-solved : OneSolved
one-solved =
    record {
      solve =
          λ {h} {table} {octets} {messages} a b.
          let s = session_in h table octets messages in
          let same = one_answer_lem s a.wanted b.wanted a.means b.means in
          let one = same_memory h h (after_same b.wanted s (subst (λ (x : Answer View). After x s _) same a.state) b.state) in
          (a.answer ∙ ap told same ∙ sym b.answer, one.1, one.2);
    }
