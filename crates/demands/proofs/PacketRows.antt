-- Laws of the tables of a packet's items: which row refuses, and that how the packet came matters at its end alone. Assumes nothing.
use Prim.Native.Nat.{ℕ}
use mathlib.Core.Path.{◌≡◌, refl, ap, subst}
use mathlib.Core.Logic.{◌⊎◌, inl, inr, ◌≢◌}
use mathlib.Core.Bool.{Bool, true, false, not}
use mathlib.Core.List.{List, [], ◌∷◌, ◌++◌}
use mathlib.Core.Option.{Option, none, some}
use native.Mathlib.Omega.{arith}
use borrow.Author.Tests.{not-true, not-false}
use Rattle.length.specs.Refusals.{left_over}
use Rattle.length.specs.Tables.{when, first}
use Rattle.length.specs.declared.Reason.{Reason}
use Rattle.format.specs.Places.{Place}
use Rattle.packet.specs.Edition.{Edition}
use Rattle.packet.specs.Packet.{may_follow}
use Rattle.packet.specs.declared.types.Ending.{Ending}
use Rattle.demands.specs.Demand1.PacketItems.{Item, first_value, fields_allowed, count_of_fields, header, padding, data_length, field_data}
use Rattle.demands.specs.Demand1.PacketItems.{end}
use Rattle.demands.specs.Demand1.PacketItems.{rows}
use Rattle.demands.specs.Demand1.PacketItems.{octets_from}

-- ---- which row refuses
-- a row that is not given, and what it says that a row is not
pub not-given : (b : Bool) (n : Reason) (table : List (Option Reason)) → b ≡ false → first table ≡ none → first (when b n ∷ table) ≡ none
unfolding first
not-given true n table e rest = let z : ◌≡◌ {A = ℕ} 0 1 = cc in absurd (omega arith)
not-given false n table e rest = rest

pub none-given : (b : Bool) (n : Reason) (table : List (Option Reason)) → first (when b n ∷ table) ≡ none
    → (b ≡ false) × (first table ≡ none)
unfolding first
none-given true n table e = let z : ◌≡◌ {A = ℕ} 0 1 = cc in absurd (omega arith)
none-given false n table e = (refl, e)

pub no_rows : first [] ≡ none
unfolding first
no_rows = refl

-- past a row that is not given
pub past_row : (b : Bool) (m n : Reason) (table : List (Option Reason)) → b ≡ false → first table ≡ some n
    → first (when b m ∷ table) ≡ some n
unfolding first
past_row true m n table off e = let z : ◌≡◌ {A = ℕ} 0 1 = cc in absurd (omega arith)
past_row false m n table off e = e

-- a first row that is not the one given
pub not-cut : (b : Bool) {n : Reason} (table : List (Option Reason)) → first (when b n ∷ table) ≢ some n → b ≡ false
unfolding first
not-cut true table apart = absurd (apart refl)
not-cut false table apart = refl

pub no-row-given : (n : Reason) → first [] ≡ some n → ⊥
unfolding first
no-row-given n e = let z : ◌≡◌ {A = ℕ} 0 1 = cc in omega arith

pub same_reason : {m n : Reason} → some m ≡ some n → m ≡ n
same_reason e = cc

pub not-both : {n : Reason} {o : Option Reason} → o ≡ none → o ≡ some n → ⊥
not-both p q = let z : ◌≡◌ {A = ℕ} 0 1 = cc in omega arith

-- a row that is given
pub given-row : (b : Bool) (n : Reason) (table : List (Option Reason)) → b ≡ true → first (when b n ∷ table) ≡ some n
unfolding first
given-row true n table e = refl
given-row false n table e = let z : ◌≡◌ {A = ℕ} 0 1 = cc in absurd (omega arith)

pub last_row : (b : Bool) (m n : Reason) → first (when b m ∷ []) ≡ some n → (b ≡ true) × (m ≡ n)
unfolding first
last_row true m n e = (refl, same_reason e)
last_row false m n e = absurd (no-row-given n e)

-- of two tables one after the other: the first decides, and where it is passed the second
pub first-front : (table more : List (Option Reason)) (n : Reason) → first table ≡ some n → first (table ++ more) ≡ some n
unfolding first
first-front [] more n e = absurd (no-row-given n e)
first-front (some k ∷ table) more n e = e
first-front (none ∷ table) more n e = first-front table more n e

pub first-later : (table more : List (Option Reason)) → first table ≡ none → first (table ++ more) ≡ first more
unfolding first
first-later [] more e = refl
first-later (some k ∷ table) more e = let z : ◌≡◌ {A = ℕ} 0 1 = cc in absurd (omega arith)
first-later (none ∷ table) more e = first-later table more e

pub both-none : (table more : List (Option Reason)) → first (table ++ more) ≡ none → (first table ≡ none) × (first more ≡ none)
unfolding first
both-none [] more e = (refl, e)
both-none (some k ∷ table) more e = let z : ◌≡◌ {A = ℕ} 0 1 = cc in absurd (omega arith)
both-none (none ∷ table) more e = both-none table more e

-- a row that is given tells its case, and one that is not leaves it to the rows after it
module _ (Case : Reason → Type 0) where
  pub row : (b : Bool) (m n : Reason) (table : List (Option Reason)) → (b ≡ true → Case m) → (b ≡ false → first table ≡ some n → Case n)
      → first (when b m ∷ table) ≡ some n → Case n
  unfolding first
  row true m n table here later e = subst Case (same_reason e) (here refl)
  row false m n table here later e = later refl e

  pub last : (b : Bool) (m n : Reason) → (b ≡ true → Case m) → first (when b m ∷ []) ≡ some n → Case n
  last b m n here e = row b m n [] here (λ off none. absurd (no-row-given n none)) e

-- ---- the end
pub end-passed : (edition : Edition) (ending : Ending) (s : List ℕ) (p : Place) → first (rows edition ending end s p) ≡ none
    → may_follow ending (octets_from s p) ≡ true
unfolding rows
end-passed edition ending s p e =
    let may = may_follow ending (octets_from s p) in
    not-false may (none-given (not may) left_over [] e).0

pub end-passes : (edition : Edition) (ending : Ending) (s : List ℕ) (p : Place) → may_follow ending (octets_from s p) ≡ true
    → first (rows edition ending end s p) ≡ none
unfolding rows
end-passes edition ending s p e = not-given (not (may_follow ending (octets_from s p))) left_over [] (ap not e) no_rows

pub end-wrong : (edition : Edition) (ending : Ending) (s : List ℕ) (p : Place) (n : Reason) → first (rows edition ending end s p) ≡ some n
    → (may_follow ending (octets_from s p) ≡ false) × (left_over ≡ n)
unfolding rows
end-wrong edition ending s p n e =
    let may = may_follow ending (octets_from s p) in
    let row = last_row (not may) left_over n e in
    (not-true may row.0, row.1)

pub wrong-end : (edition : Edition) (ending : Ending) (s : List ℕ) (p : Place) → may_follow ending (octets_from s p) ≡ false
    → first (rows edition ending end s p) ≡ some left_over
unfolding rows
wrong-end edition ending s p e = given-row (not (may_follow ending (octets_from s p))) left_over [] (ap not e)

-- ---- as received and as repaired
pub rows_alike : (edition : Edition) (one other : Ending) (item : Item) (s : List ℕ) (p : Place)
    → (item ≡ end) ⊎ (rows edition one item s p ≡ rows edition other item s p)
unfolding rows
rows_alike edition one other first_value s p = inr refl
rows_alike edition one other fields_allowed s p = inr refl
rows_alike edition one other count_of_fields s p = inr refl
rows_alike edition one other (header left) s p = inr refl
rows_alike edition one other (padding next) s p = inr refl
rows_alike edition one other (data_length left) s p = inr refl
rows_alike edition one other (field_data size left) s p = inr refl
rows_alike edition one other end s p = inl refl
