-- What the reason of a wrong item says: 6 that nothing was due, 1 that octets are missing; and for any reason but 1 it stays wrong
-- for the same reason whatever follows. Each is read off the rows of `Wrong`. Assumes nothing.
use Prim.Native.Nat.{ℕ, ◌≤◌, ◌<◌}
use mathlib.Core.Path.{◌≡◌, refl, sym, ap, subst, ◌∙◌}
use mathlib.Core.List.{List, [], ◌∷◌, ◌++◌, append_assoc}
use lib.ListN.{length}
use native.Mathlib.Omega.{arith}
use Rattle.length.specs.Refusals.{ends_early, too_long, outside_sizes, left_over, number_of}
use Rattle.length.specs.Length.{length_octets}
use Rattle.length.specs.declared.Reason.{Reason}
use Rattle.demands.specs.Demand1.DatagramItems.{Item, number, packet, kind, spares, octet01, octet_n, count_m, message, inside, Form}
use Rattle.demands.specs.Demand1.DatagramItems.{many, sized, nothing, form_of, form_due}
use Rattle.demands.specs.Demand1.DatagramItems.{Due}
use Rattle.demands.specs.Demand1.DatagramRefusals.{Wrong, few_octets, no_size, cut_size, no_octet, no_flag, high_size, long_size}
use Rattle.demands.specs.Demand1.DatagramRefusals.{other_size}
use Rattle.demands.specs.Demand1.DatagramRefusals.{other_octet, low_bits, more_octets, FirstWrong, Followed}

-- ---- what the reason says of the item
pub never-over : {f : Form} {rest : List ℕ} {n : Reason} → Wrong f rest n → n ≡ too_long → ⊥
never-over (few_octets few) e = let same = ap number_of e in omega arith
never-over no_size e = let same = ap number_of e in omega arith
never-over (cut_size low high) e = let same = ap number_of e in omega arith
never-over no_octet e = let same = ap number_of e in omega arith
never-over no_flag e = let same = ap number_of e in omega arith
never-over (high_size high) e = let same = ap number_of e in omega arith
never-over (long_size small) e = let same = ap number_of e in omega arith
never-over (other_size rest out fits) e = let same = ap number_of e in omega arith
never-over (other_octet out) e = let same = ap number_of e in omega arith
never-over (low_bits set) e = let same = ap number_of e in omega arith
never-over more_octets e = let same = ap number_of e in omega arith

left_over_lem : {f : Form} {rest : List ℕ} {n : Reason} → Wrong f rest n → n ≡ left_over
    → (f ≡ nothing) × (first : ℕ) × (t : List ℕ) × (rest ≡ first ∷ t)
left_over_lem (few_octets few) e = let same = ap number_of e in absurd (omega arith)
left_over_lem no_size e = let same = ap number_of e in absurd (omega arith)
left_over_lem (cut_size low high) e = let same = ap number_of e in absurd (omega arith)
left_over_lem no_octet e = let same = ap number_of e in absurd (omega arith)
left_over_lem no_flag e = let same = ap number_of e in absurd (omega arith)
left_over_lem (high_size high) e = let same = ap number_of e in absurd (omega arith)
left_over_lem (long_size small) e = let same = ap number_of e in absurd (omega arith)
left_over_lem (other_size rest out fits) e = let same = ap number_of e in absurd (omega arith)
left_over_lem (other_octet out) e = let same = ap number_of e in absurd (omega arith)
left_over_lem (low_bits set) e = let same = ap number_of e in absurd (omega arith)
left_over_lem (more_octets {first} {rest}) e = (refl, first, rest, refl)

-- for any reason but 1 it is as wrong with octets after it
stays-wrong : (more : List ℕ) {f : Form} {rest : List ℕ} {n : Reason} → Wrong f rest n → (n ≡ ends_early → ⊥) → Wrong f (rest ++ more) n
stays-wrong more (few_octets few) other = absurd (other refl)
stays-wrong more no_size other = absurd (other refl)
stays-wrong more (cut_size low high) other = absurd (other refl)
stays-wrong more no_octet other = absurd (other refl)
stays-wrong more no_flag other = absurd (other refl)
stays-wrong more (high_size high) other = high_size high
stays-wrong more (long_size small) other = long_size small
stays-wrong more (other_size {least} {most} {value} rest out fits) other =
    subst (λ (l : List ℕ). Wrong (sized least most) l outside_sizes) (sym (append_assoc (length_octets value) rest more))
    (other_size (rest ++ more) out fits)
stays-wrong more (other_octet out) other = other_octet out
stays-wrong more (low_bits set) other = low_bits set
stays-wrong more more_octets other = more_octets

-- with 1 octets are missing
pub data Early (f : Form) (rest : List ℕ) : Type 0 where
  few : {n : ℕ} → f ≡ many n → length rest < n → Early f rest
  bare : rest ≡ [] → (f ≡ nothing → ⊥) → Early f rest
  cut : {least most first : ℕ} → f ≡ sized least most → rest ≡ first ∷ [] → 0x80 ≤ first → first < 0xC0 → Early f rest

pub ends-early : {f : Form} {rest : List ℕ} {n : Reason} → Wrong f rest n → n ≡ ends_early → Early f rest
ends-early (few_octets less) e = few refl less
ends-early no_size e = bare refl (λ is. let z : ◌≡◌ {A = ℕ} 0 1 = cc in omega arith)
ends-early (cut_size low high) e = cut refl refl low high
ends-early no_octet e = bare refl (λ is. let z : ◌≡◌ {A = ℕ} 0 1 = cc in omega arith)
ends-early no_flag e = bare refl (λ is. let z : ◌≡◌ {A = ℕ} 0 1 = cc in omega arith)
ends-early (high_size high) e = let same = ap number_of e in absurd (omega arith)
ends-early (long_size small) e = let same = ap number_of e in absurd (omega arith)
ends-early (other_size rest out fits) e = let same = ap number_of e in absurd (omega arith)
ends-early (other_octet out) e = let same = ap number_of e in absurd (omega arith)
ends-early (low_bits set) e = let same = ap number_of e in absurd (omega arith)
ends-early more_octets e = let same = ap number_of e in absurd (omega arith)

-- an item is due unless nothing may follow
some_item : (item : Item) → form_of item ≡ nothing → ⊥
unfolding form_of
some_item number is = let z : ◌≡◌ {A = ℕ} 0 1 = cc in omega arith
some_item packet is = let z : ◌≡◌ {A = ℕ} 0 1 = cc in omega arith
some_item kind is = let z : ◌≡◌ {A = ℕ} 0 1 = cc in omega arith
some_item spares is = let z : ◌≡◌ {A = ℕ} 0 1 = cc in omega arith
some_item octet01 is = let z : ◌≡◌ {A = ℕ} 0 1 = cc in omega arith
some_item octet_n is = let z : ◌≡◌ {A = ℕ} 0 1 = cc in omega arith
some_item count_m is = let z : ◌≡◌ {A = ℕ} 0 1 = cc in omega arith
some_item message is = let z : ◌≡◌ {A = ℕ} 0 1 = cc in omega arith
some_item (inside n) is = let z : ◌≡◌ {A = ℕ} 0 1 = cc in omega arith

none-due : (items : List Item) → form_due items ≡ nothing → items ≡ []
unfolding form_due
none-due [] is = refl
none-due (item ∷ later) is = absurd (some_item item is)

-- ---- the first wrong item of some octets
pub followed-wrong : {s : List ℕ} → Followed s → FirstWrong s left_over
unfolding form_due
followed-wrong f =
    record { before = f.datagram; rest = f.first ∷ f.rest; items = []; is = f.is; due = f.whole; wrong = more_octets }

pub wrong-followed : {s : List ℕ} → FirstWrong s left_over → Followed s
wrong-followed w =
    let found = left_over_lem w.wrong refl in
    let none_left = none-due w.items found.0 in
    record {
      datagram = w.before;
      first = found.1;
      rest = found.2;
      is = w.is ∙ ap (λ (l : List ℕ). w.before ++ l) found.3;
      whole = subst (λ (items : List Item). Due w.before items) none_left w.due;
    }

pub wrong-longer : (s more : List ℕ) (n : Reason) → FirstWrong s n → (n ≡ ends_early → ⊥) → FirstWrong (s ++ more) n
wrong-longer s more n w other =
    record {
      before = w.before;
      rest = w.rest ++ more;
      items = w.items;
      is = ap (λ (l : List ℕ). l ++ more) w.is ∙ append_assoc w.before w.rest more;
      due = w.due;
      wrong = stays-wrong more w.wrong other;
    }
