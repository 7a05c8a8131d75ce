-- Each item's reader of a packet is its table: it refuses with the first row that is given, or is done. Assumes nothing.
use Prim.Native.Nat.{ℕ, ◌+◌, ◌-◌, ◌*◌, ◌/◌, ◌<◌}
use mathlib.Core.Path.{◌≡◌, refl, sym, ap, ◌∙◌}
use mathlib.Core.Bool.{Bool, true, false, not, cond, ◌&&◌}
use mathlib.Core.List.{List, [], ◌∷◌, ◌++◌}
use mathlib.Core.Option.{Option, none, some}
use lib.ListN.{length, get_or, drop, length-drop}
use lib.Dec.{ltb}
use native.Mathlib.Omega.{arith}
use borrow.Author.Tests.{lt-ltb, ltb-true, ltb-false}
use Rattle.length.specs.Refusals.{ends_early, outside_sizes, spare_bit, left_over, not_assigned, wrong_data}
use Rattle.length.specs.Answers.{Answer, done, refused, refuse, refuse_at, read_from, ◌>>=◌}
use Rattle.length.specs.Tables.{when, first}
use Rattle.length.specs.declared.Reason.{Reason}
use Rattle.format.specs.Spelling.{gap}
use Rattle.format.specs.Places.{Place, bits_at, edge, edge_at}
use Rattle.datagram.specs.Sizes.{packet_limit}
use Rattle.packet.specs.Edition.{added_width, Edition}
use Rattle.packet.specs.Packet.{right_fields, right_data, may_follow}
use Rattle.packet_laws.specs.Octets.{bit_set_at, kind_of, Value, root_at, added_at, value_at, HeaderAnswer, header_at, size_at}
use Rattle.packet.specs.declared.types.Enumerated.{Enumerated}
use Rattle.packet.specs.declared.types.Ending.{Ending}
use Rattle.demands.specs.Demand1.PacketItems.{Item, first_value, fields_allowed, header, padding, data_length, field_data, end}
use Rattle.demands.specs.Demand1.PacketItems.{rows, is_added, behind_mark, value_in, value_ends, added_rows, root_rows, value_rows}
use Rattle.demands.specs.Demand1.PacketItems.{first_values}
use Rattle.demands.specs.Demand1.PacketItems.{has_fields, type_in, data_fits, data_size}
use Rattle.demands.proofs.PacketBits.{padding-bits}

-- ---- a table as an answer
-- refused for the reason that a table gives, at an octet, or done
abbrev pub answered : {A : Type 0} → ℕ → Option Reason → A → Answer A
answered at (some n) x = refuse_at at n
answered at none x = done x

pub bind_assoc : {A B C : Type 0} (m : Answer A) (f : A → Answer B) (g : B → Answer C)
    → ◌>>=◌ (◌>>=◌ m f) g ≡ ◌>>=◌ m (λ a. ◌>>=◌ (f a) g)
bind_assoc (done a) f g = refl
bind_assoc (refused r) f g = refl

module _ {A : Type 0} (at : ℕ) where
  -- a test that refuses, and one that must be met
  refuses : (b : Bool) (n : Reason) (m : Answer A) (table : List (Option Reason)) (x : A) → m ≡ answered at (first table) x
      → cond b (refuse_at at n) m ≡ answered at (first (when b n ∷ table)) x
  unfolding first
  refuses true n m table x e = refl
  refuses false n m table x e = e

  refuses-last : (b : Bool) (n : Reason) (x : A) → cond b (refuse_at at n) (done x) ≡ answered at (first (when b n ∷ [])) x
  unfolding first
  refuses-last true n x = refl
  refuses-last false n x = refl

  must : (b : Bool) (n : Reason) (x : A) → cond b (done x) (refuse_at at n) ≡ answered at (first (when (not b) n ∷ [])) x
  unfolding first
  must true n x = refl
  must false n x = refl

-- two tests that say the same
same_test : (a b c d : ℕ) → (a < b → c < d) → (c < d → a < b) → ltb a b ≡ ltb c d
same_test a b c d there back = by (ltb c d) refl where
  by : (t : Bool) → ltb c d ≡ t → ltb a b ≡ t
  by true e = lt-ltb a b (back (ltb-true c d e))
  by false e = over (ltb a b) refl where
    over : (t : Bool) → ltb a b ≡ t → ltb a b ≡ false
    over true f = let low = there (ltb-true a b f) in absurd (omega (arith, ltb-false c d e))
    over false f = f

-- of two steps, each a table
then-table : {A B : Type 0} (at : ℕ) (table more : List (Option Reason)) (x : A) (y : B) (next : A → Answer B)
    → next x ≡ answered at (first more) y → ◌>>=◌ (answered at (first table) x) next ≡ answered at (first (table ++ more)) y
unfolding first
then-table at [] more x y next e = e
then-table at (some n ∷ table) more x y next e = refl
then-table at (none ∷ table) more x y next e = then-table at table more x y next e

-- ---- a value
either-table : {A : Type 0} (b : Bool) (at : ℕ) (one other : Answer A) (table more : List (Option Reason)) (x y : A)
    → one ≡ answered at (first table) x → other ≡ answered at (first more) y
    → cond b one other ≡ answered at (first (cond b table more)) (cond b x y)
either-table true at one other table more x y here there = here
either-table false at one other table more x y here there = there

-- an added value, or the bits behind the mark
by-mark : {A : Type 0} (mark set-bit : Bool) (p : Place) (added : A) (root : Place → A)
    → cond mark (cond set-bit added (root (p + 1))) (root p) ≡ cond (mark && set-bit) added (root (cond mark (p + 1) p))
by-mark true true p added root = refl
by-mark true false p added root = refl
by-mark false set-bit p added root = refl

value-joined : (b : Bool) (v w : ℕ) (p q : Place)
    → ◌≡◌ {A = Value} (cond b (record { value = v; next = p }) (record { value = w; next = q }))
    (record { value = cond b v w; next = cond b p q })
value-joined true v w p q = refl
value-joined false v w p q = refl

pub value-table : (e : Enumerated) (at : ℕ) (s : List ℕ) (p : Place)
    → value_at e at s p ≡ answered at (first (value_rows e s p)) (record { value = value_in e s p; next = value_ends e s p })
unfolding value_at added_at root_at value_rows
value-table e at s p =
    let q = behind_mark e p in
    let added : Value = record { value = e.assigned + bits_at added_width s (p + 1 + 1); next = p + 1 + 1 + added_width } in
    let root : Value = record { value = bits_at e.width s (behind_mark e p); next = behind_mark e p + e.width } in
    by-mark e.extensible (bit_set_at s p) p (added_at e at s (p + 1)) (root_at e at s)
    ∙ either-table (is_added e s p) at (added_at e at s (p + 1)) (root_at e at s q) (added_rows e s (p + 1)) (root_rows e s q) added root
    (refuses at (ltb e.added 1) not_assigned _ _ added
    (refuses at (bit_set_at s (p + 1)) not_assigned _ _ added
    (refuses at (ltb (8 * length s) (p + 1 + 1 + added_width)) ends_early _ _ added
    (must at (ltb (bits_at added_width s (p + 1 + 1)) e.added) not_assigned added))))
    (refuses at (ltb (8 * length s) (q + e.width)) ends_early _ _ root
    (must at (ltb (bits_at e.width s q) e.assigned) not_assigned root))
    ∙ ap (answered at (first (value_rows e s p))) (value-joined (is_added e s p) _ _ _ _)

-- ---- each item's reader is its table
pub first-table : (edition : Edition) (ending : Ending) (s : List ℕ)
    → value_at (first_values edition s) 0 s 2
    ≡ answered 0 (first (rows edition ending first_value s 0))
    (record { value = value_in (first_values edition s) s 2; next = value_ends (first_values edition s) s 2 })
unfolding rows
first-table edition ending s = value-table (first_values edition s) 0 s 2

pub allowed-table : {A : Type 0} (edition : Edition) (ending : Ending) (s : List ℕ) (p : Place) (x : A)
    → cond (right_fields (kind_of s) (has_fields s)) (done x) (refuse wrong_data)
    ≡ answered 0 (first (rows edition ending fields_allowed s p)) x
unfolding rows
allowed-table edition ending s p x = must 0 (right_fields (kind_of s) (has_fields s)) wrong_data x

pub header-table : (edition : Edition) (ending : Ending) (left : ℕ) (s : List ℕ) (p : Place)
    → header_at edition s p
    ≡ answered (p / 8) (first (rows edition ending (header left) s p))
    (record { header = record { type = type_in edition s p; present = bit_set_at s p }; next = value_ends edition.types s (p + 1) })
unfolding header_at rows
header-table edition ending left s p =
    let e = edition.types in
    let v : Value = record { value = value_in edition.types s (p + 1); next = value_ends edition.types s (p + 1) } in
    let read : HeaderAnswer =
    record { header = record { type = type_in edition s p; present = bit_set_at s p }; next = value_ends edition.types s (p + 1) } in
    let then : Value → Answer HeaderAnswer =
    λ v.
    cond (right_data edition v.value (bit_set_at s p))
    (done (record { header = record { type = v.value; present = bit_set_at s p }; next = v.next })) (refuse_at (p / 8) wrong_data) in
    ap (λ (m : Answer Value). ◌>>=◌ m then) (value-table e (p / 8) s (p + 1))
    ∙ then-table (p / 8) (value_rows e s (p + 1)) (when (not (data_fits edition s p)) wrong_data ∷ []) v read then
    (must (p / 8) (data_fits edition s p) wrong_data read)

pub padding-table : (edition : Edition) (ending : Ending) (next : Item) (s : List ℕ) (p : Place)
    → edge_at s p ≡ answered (p / 8) (first (rows edition ending (padding next) s p)) (edge p)
unfolding edge_at rows
padding-table edition ending next s p =
    ap (λ (b : ℕ). cond (ltb 0 b) (refuse_at (p / 8) spare_bit) (done (edge p))) (sym (padding-bits s p))
    ∙ refuses-last (p / 8) (ltb 0 (bits_at (gap p) s p)) spare_bit (edge p)

-- a data length, then the data
size-tests : (at : ℕ) (b₁ b₂ b₃ : Bool) (n : ℕ) (missing : ℕ → Option Reason) → first (when b₃ ends_early ∷ []) ≡ missing n
    → read_from at (cond b₁ (refuse ends_early) (cond b₂ (refuse outside_sizes) (cond b₃ (refuse_at 2 ends_early) (done n))))
    ≡ ◌>>=◌ (answered at (first (when b₁ ends_early ∷ when b₂ outside_sizes ∷ [])) n) (λ n. answered (at + 2) (missing n) n)
unfolding first
size-tests at true b₂ b₃ n missing e = ap (λ (place : ℕ). refuse_at place ends_early) (omega arith)
size-tests at false true b₃ n missing e = ap (λ (place : ℕ). refuse_at place outside_sizes) (omega arith)
size-tests at false false true n missing e = ap (λ (o : Option Reason). answered (at + 2) o n) e
size-tests at false false false n missing e = ap (λ (o : Option Reason). answered (at + 2) o n) e

pub size-table : (edition : Edition) (ending : Ending) (left : ℕ) (s : List ℕ) (at : ℕ)
    → read_from at (size_at (drop at s))
    ≡ ◌>>=◌ (answered (8 * at / 8) (first (rows edition ending (data_length left) s (8 * at))) (data_size s (8 * at)))
    (λ n. answered ((8 * at + 16) / 8) (first (rows edition ending (field_data n left) s (8 * at + 16))) n)
unfolding size_at rows
size-table edition ending left s at =
    let edge-at : 8 * at / 8 ≡ at = omega arith in
    let behind : (8 * at + 16) / 8 ≡ at + 2 = omega arith in
    let rest = drop at s in
    let n = get_or (drop at s) 0 0 * 256 + get_or (drop at s) 1 0 + 1 in
    let long = length-drop at s in
    let two : ltb (8 * length s) (8 * at + 16) ≡ ltb (length rest) 2 =
    same_test (8 * length s) (8 * at + 16) (length rest) 2 (λ l. omega arith) (λ l. omega arith) in
    let all : ltb (length rest - 2) n ≡ ltb (8 * length s) (8 * at + 16 + 8 * n) =
    same_test (length rest - 2) n (8 * length s) (8 * at + 16 + 8 * n) (λ l. omega arith) (λ l. omega arith) in
    rw (edge-at, behind, two)
    (size-tests at (ltb (length rest) 2) (ltb packet_limit n) (ltb (length rest - 2) n) n
    (λ n. first (rows edition ending (field_data n left) s (8 * at + 16)))
    (ap (λ (b : Bool). first (when b ends_early ∷ [])) all))

-- what may follow the last field
pub end-table : {A : Type 0} (edition : Edition) (ending : Ending) (s : List ℕ) (at : ℕ) (a : A)
    → cond (may_follow ending (drop at s)) (done a) (refuse_at at left_over)
    ≡ answered (8 * at / 8) (first (rows edition ending end s (8 * at))) a
unfolding rows
end-table edition ending s at a =
    let edge-at : 8 * at / 8 ≡ at = omega arith in
    let may = may_follow ending (drop at s) in
    rw edge-at (must at may left_over a)
