-- An answer whose refusal names a trace and a line (rule 22.15). Definitions only.
use Rattle.std.specs.Prelude.{ℕ}
use Rattle.length.specs.Answers.{Answer, done, refused}
use Rattle.length.specs.declared.Refusal.{Refusal}

-- a line of a trace: the trace, 1 or 2, and the line, from 1
pub record Where : Type 0 where
  pub trace : ℕ
  pub line : ℕ

-- for a refusal that belongs to no line
abbrev pub no_place : Where
no_place = record { trace = 0; line = 0 }

-- a value, or a refusal and its line
pub data PlacedAnswer (A : Type 0) : Type 0 where
  told : A → PlacedAnswer A
  stopped : Refusal → Where → PlacedAnswer A

-- an answer with the line that it belongs to, or with none
abbrev pub at : {A : Type 0} → Where → Answer A → PlacedAnswer A
at place (done a) = told a
at place (refused why) = stopped why place

-- two steps in sequence: the first refusal is the refusal of both
abbrev pub ◌>>=◌ : {A B : Type 0} → PlacedAnswer A → (A → PlacedAnswer B) → PlacedAnswer B
◌>>=◌ (told a) next = next a
◌>>=◌ (stopped why place) next = stopped why place

-- the answer with a function applied to its value
abbrev pub mapped_placed : {A B : Type 0} → (A → B) → PlacedAnswer A → PlacedAnswer B
mapped_placed f (told a) = told (f a)
mapped_placed f (stopped why place) = stopped why place
