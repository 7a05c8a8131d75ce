-- What a call owes, by what it comes to: on plain values. Assumes nothing.
use Prim.Native.Nat.{ℕ}
use mathlib.Core.Path.{◌≡◌, refl, sym, ap, ap₂, subst, ◌∙◌}
use mathlib.Core.Bool.{Bool, true, false, not, cond}
use mathlib.Core.List.{List, ◌++◌}
use mathlib.Core.Option.{none, some}
use Rattle.std.proofs.Common.{Result, Ok, Err}
use lib.ListN.{length, drop}
use lib.Dec.{eqb}
use Rattle.length.specs.Refusals.{refusal, frame_too_long, number_of}
use Rattle.length.specs.Answers.{done, refuse}
use Rattle.length.specs.declared.Refusal.{Refusal}
use Rattle.length.specs.declared.Reason.{Reason}
use Rattle.frame.specs.Frame.{Joining, Frame, good, bad, field_step}
use Rattle.frame.specs.Joiner.{held_as, joining_of}
use Rattle.frame.specs.Promise.{field_answer, joiner_after, FieldOwes}
use Rattle.frame.specs.declared.Joiner.{Joiner}
use Rattle.frame.specs.declared.Joined.{Joined}
use Rattle.frame.specs.declared.Handed.{Handed}
use Rattle.frame.specs.declared.Handed.TheVariants as handed

abbrev pub joined : Joiner → Result Handed Refusal → Joined
joined k answer = record { joiner = k; answer = answer }

module _ {j : Joiner} {type : ℕ} {octets old : List ℕ} where
  -- refused, and nothing changes
  pub owes-stays : (why : Reason) → field_answer (length old) type octets j ≡ refuse why → eqb (number_of why) (number_of frame_too_long) ≡ false
      → FieldOwes j type octets old old (joined j (Err (refusal why)))
  unfolding joiner_after
  owes-stays why e other = record { answer = rw e; lent = rw e; state = rw (e, other) }

  module _ {k : Joiner} (held : held_as (field_step type octets (joining_of j)).after ≡ k) where
    -- 18
    pub owes-tainted : field_answer (length old) type octets j ≡ refuse frame_too_long
        → FieldOwes j type octets old old (joined k (Err (refusal frame_too_long)))
    unfolding joiner_after
    owes-tainted e = record { answer = rw e; lent = rw e; state = rw e (sym held) }

    pub owes_nothing : field_answer (length old) type octets j ≡ done none → FieldOwes j type octets old old (joined k (Ok handed.Nothing))
    unfolding joiner_after
    owes_nothing e = record { answer = rw e; lent = rw e; state = rw e (sym held) }

    pub owes-good : (frame : List ℕ) → field_answer (length old) type octets j ≡ done (some (good frame))
        → FieldOwes j type octets old (frame ++ drop (length frame) old) (joined k (Ok (handed.Good (length frame))))
    unfolding joiner_after
    owes-good frame e = record { answer = rw e; lent = rw e; state = rw e (sym held) }

    pub owes-bad : (frame : List ℕ) → field_answer (length old) type octets j ≡ done (some (bad frame))
        → FieldOwes j type octets old (frame ++ drop (length frame) old) (joined k (Ok (handed.Bad (length frame))))
    unfolding joiner_after
    owes-bad frame e = record { answer = rw e; lent = rw e; state = rw e (sym held) }
