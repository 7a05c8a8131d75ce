-- Two outcomes of a call are equal: an answer's case follows from the rules' number and values. Assumes nothing.
use Prim.Native.Nat.{ℕ}
use mathlib.Core.Path.{◌≡◌, refl, sym, ap, ap₂, ◌∙◌}
use mathlib.Core.List.{List}
use Rattle.std.proofs.Common.{Result, Ok, Err}
use Rattle.length.specs.Answers.{Answer, done, refused}
use Rattle.length.specs.declared.Refusal.{Refusal}
use Rattle.frame.specs.Promise.{Told, nothing, good_of, bad_of, handed_outcome, FieldOwes, LossOwes, FreshMade}
use Rattle.frame.specs.Claims.{OneOutcome}
use Rattle.frame.specs.declared.Joiner.{Joiner}
use Rattle.frame.specs.declared.Joined.{Joined}
use Rattle.frame.specs.declared.Handed.{Handed}
use Rattle.frame.specs.declared.Handed.TheVariants as handed

-- the answer's case, from what it says
abbrev pub handed_named : Answer Told → Result Handed Refusal
handed_named (done nothing) = Ok handed.Nothing
handed_named (done (good_of n)) = Ok (handed.Good n)
handed_named (done (bad_of n)) = Ok (handed.Bad n)
handed_named (refused r) = Err r

pub named-outcome : (h : Result Handed Refusal) → handed_named (handed_outcome h) ≡ h
named-outcome (Ok handed.Nothing) = refl
named-outcome (Ok (handed.Good n)) = refl
named-outcome (Ok (handed.Bad n)) = refl
named-outcome (Err r) = refl

-- what an answer is, by what it says
pub answer-is : (h : Result Handed Refusal) {a : Answer Told} → handed_outcome h ≡ a → h ≡ handed_named a
answer-is h e = sym (named-outcome h) ∙ ap handed_named e

handed-same : (h k : Result Handed Refusal) {a : Answer Told} → handed_outcome h ≡ a → handed_outcome k ≡ a → h ≡ k
handed-same h k e f = answer-is h e ∙ sym (answer-is k f)

joined_same : {r q : Joined} → r.joiner ≡ q.joiner → r.answer ≡ q.answer → r ≡ q
joined_same e f = ap₂ (λ (j : Joiner) (h : Result Handed Refusal). record { joiner = j; answer = h }) e f

pub one-outcome : OneOutcome
one-outcome =
    record {
      field =
          λ {j} {type} {octets} {old} {new} {other} {r} {q} m n.
          (joined_same (m.state ∙ sym n.state) (handed-same r.answer q.answer m.answer n.answer), m.lent ∙ sym n.lent);
      lost = λ {j} {r} {q} m n. joined_same (m.state ∙ sym n.state) (handed-same r.answer q.answer m.answer n.answer);
      fresh = λ m n. m.state ∙ sym n.state;
    }
