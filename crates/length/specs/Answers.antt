-- What a call returns: its values, or a refusal (rules 2.24 to 2.26); and what each answer of this crate's calls means (rule 30.10).
-- Definitions only.
use Rattle.std.specs.Prelude.{ℕ, Bool, true, false, cond, List, ◌++◌, length, drop, leb, Result, Ok, Err}
use Rattle.length.specs.Refusals.{refusal, refusal_at, further, ends_early, no_room}
use Rattle.length.specs.declared.Reason.{Reason}
use Rattle.length.specs.declared.Refusal.{Refusal}
use Rattle.length.specs.declared.Length.{Length}

-- the values, or why the call is refused
pub data Answer (A : Type 0) : Type 0 where
  done : A → Answer A
  refused : Refusal → Answer A

-- a refusal with place 0
abbrev pub refuse : {A : Type 0} → Reason → Answer A
refuse why = refused (refusal why)

-- a refusal of an item that begins at the octet `place`
abbrev pub refuse_at : {A : Type 0} → ℕ → Reason → Answer A
refuse_at place why = refused (refusal_at place why)

-- what is read from the octet `start` on: `start` is added to the place of a refusal (rule 2.31)
abbrev pub read_from : {A : Type 0} → ℕ → Answer A → Answer A
read_from start (done a) = done a
read_from start (refused why) = refused (further start why)

-- one step after the other: the first refusal is that of the whole
abbrev pub ◌>>=◌ : {A B : Type 0} → Answer A → (A → Answer B) → Answer B
◌>>=◌ (done a) next = next a
◌>>=◌ (refused r) next = refused r

-- whether a call was done
abbrev pub is_done : {A : Type 0} → Answer A → Bool
is_done (done a) = true
is_done (refused why) = false

-- the answer with its values mapped; a refusal is unchanged
abbrev pub mapped : {A B : Type 0} → (A → B) → Answer A → Answer B
mapped f (done a) = done (f a)
mapped f (refused r) = refused r

-- the state after a call: the new one, or after a refusal the old one, since a refusal changes nothing (rule 2.25)
abbrev pub afterwards : {A : Type 0} → Answer A → A → A
afterwards (done after) before = after
afterwards (refused r) before = before

-- a length as read: its value, and how many octets it has
pub record LengthAnswer : Type 0 where
  pub value : ℕ
  pub size : ℕ

-- each case of the length reader's answer, as the rules' number and values (rule 30.10)
abbrev pub length_outcome : Result Length Refusal → Answer LengthAnswer
length_outcome (Ok l) = done (record { value = l.value; size = l.size })
length_outcome (Err r) = refused r

-- what a refused length says; for a length that is not refused it is 1, which no caller uses
abbrev pub refusal_of : Result Length Refusal → Refusal
refusal_of (Ok l) = refusal ends_early
refusal_of (Err r) = r

-- each case of a writer's answer, as the rules' number and value: how many octets were written (rule 30.10)
abbrev pub written_outcome : Result ℕ Refusal → Answer ℕ
written_outcome (Ok n) = done n
written_outcome (Err r) = refused r

-- 13 if the result is longer than the caller's buffer (rule 2.13)
abbrev pub fitted : Answer (List ℕ) → List ℕ → Answer (List ℕ)
fitted (done octets) old = cond (leb (length octets) (length old)) (done octets) (refuse no_room)
fitted (refused r) old = refused r

-- how many octets a writer reports
abbrev pub size_of : Answer (List ℕ) → Answer ℕ
size_of answer = mapped length answer

-- the caller's buffer after a call: its front is written and the rest is unchanged (rule 2.26); a refusal changes nothing (rule 2.25)
abbrev pub over : Answer (List ℕ) → List ℕ → List ℕ
over (done octets) old = octets ++ drop (length octets) old
over (refused r) old = old
