-- What the readers of bits owe: what the description's readers find (rules 5.1, 5.3 to 5.5 and 8.1). Definitions only.
use Rattle.std.specs.Prelude.{Result, Ok, Err, ℕ, ◌+◌, ◌%◌, ◌≡◌, Bool, List}
use Rattle.format.specs.Reading.{Finding, found, stopped}
use Rattle.format.specs.Reading as reading
use Rattle.format.specs.Places.{Place}
use Rattle.length.specs.declared.Refusal.{Refusal}

-- what was found, with a function applied to it
abbrev pub found_as : {A B : Type 0} → (A → B) → Finding A → Finding B
found_as f (found a p) = found (f a) p
found_as f (stopped r) = stopped r

-- each answer as a finding of the description
abbrev pub finding : {A : Type 0} → Result (A × ℕ) Refusal → Finding A
finding (Ok x) = found x.0 x.1
finding (Err r) = stopped r

abbrev pub edge_found : Result ℕ Refusal → Finding (Unit {0})
edge_found (Ok p) = found tt p
edge_found (Err r) = stopped r

-- n bits were taken
abbrev pub Past : ℕ → Place → Result (ℕ × ℕ) Refusal → Type 0
Past n p (Ok x) = x.1 ≡ p + n
Past n p (Err r) = Unit {0}

-- a bit inside the item that begins at the octet i
pub record BitTaken (octets : List ℕ) (i : ℕ) (p : Place) (r : Result (ℕ × ℕ) Refusal) : Type 0 where
  pub answer : reading.bit octets i p ≡ finding r
  pub past : Past 1 p r

pub record BitsTaken (n : ℕ) (octets : List ℕ) (i : ℕ) (p : Place) (r : Result (ℕ × ℕ) Refusal) : Type 0 where
  pub answer : reading.bits n octets i p ≡ finding r
  pub past : Past n p r

pub record FlagTaken (octets : List ℕ) (i : ℕ) (p : Place) (r : Result (Bool × ℕ) Refusal) : Type 0 where
  pub answer : reading.flag octets i p ≡ finding r

abbrev pub OnEdge : Result ℕ Refusal → Type 0
OnEdge (Ok q) = q % 8 ≡ 0
OnEdge (Err r) = Unit {0}

-- padding is an item of its own, inside any item (rule 5.5)
pub record EdgeTaken (octets : List ℕ) (p : Place) (r : Result ℕ Refusal) : Type 0 where
  pub answer : (i : ℕ) → reading.align octets i p ≡ edge_found r
  pub on : OnEdge r
