-- In what two datagrams differ: nothing exactly if they are equal, and the same either way round. Assumes nothing.
use Prim.Native.Nat.{ℕ}
use mathlib.Core.Path.{◌≡◌, refl, sym, ap, ap₂, ◌∙◌}
use mathlib.Core.Bool.{Bool, true, false, not, ◌&&◌, false≢true}
use mathlib.Core.List.{List, [], ◌∷◌}
use mathlib.Core.Logic.{⊎_elim}
use mathlib.Core.Option.{Option}
use lib.Dec.{eqb}
use native.Mathlib.Omega.{arith}
use borrow.Author.Tests.{eq-eqb, ne_eqb, eqb-true, not-false}
use Rattle.octets.proofs.Laws.{and_left, and_right, and_both, same_or_not}
use Rattle.length.specs.Tables.{when}
use Rattle.datagram.specs.Carried.{Extra, spares, parity, Carried}
use Rattle.trace_compare.specs.Entries.{same, same_each, spares_apart, parity_apart, differences, given}
use Rattle.trace_compare.specs.Entries.{packet_differs, spares_differ, parity_differs}

-- ---- octets
pub same_refl : (s : List ℕ) → same s s ≡ true
unfolding same
same_refl [] = refl
same_refl (a ∷ s) = and_both (eq-eqb a a refl) (same_refl s)

pub same_true : (s t : List ℕ) → same s t ≡ true → s ≡ t
unfolding same
same_true [] [] e = refl
same_true [] (b ∷ t) e = absurd (false≢true e)
same_true (a ∷ s) [] e = absurd (false≢true e)
same_true (a ∷ s) (b ∷ t) e =
    ap₂ (λ (x : ℕ) (l : List ℕ). x ∷ l) (eqb-true a b (and_left (eqb a b) (same s t) e)) (same_true s t (and_right (eqb a b) (same s t) e))

eqb-sym : (a b : ℕ) → eqb a b ≡ eqb b a
eqb-sym a b =
    ⊎_elim (λ is. eq-eqb a b is ∙ sym (eq-eqb b a (sym is))) (λ other. ne_eqb a b other ∙ sym (ne_eqb b a (λ e. other (sym e))))
    (same_or_not a b)

same-sym : (s t : List ℕ) → same s t ≡ same t s
unfolding same
same-sym [] [] = refl
same-sym [] (b ∷ t) = refl
same-sym (a ∷ s) [] = refl
same-sym (a ∷ s) (b ∷ t) = ap₂ (λ (x y : Bool). x && y) (eqb-sym a b) (same-sym s t)

-- ---- spares or messages
pub each-refl : (s : List (List ℕ)) → same_each s s ≡ true
unfolding same_each
each-refl [] = refl
each-refl (a ∷ s) = and_both (same_refl a) (each-refl s)

pub each-true : (s t : List (List ℕ)) → same_each s t ≡ true → s ≡ t
unfolding same_each
each-true [] [] e = refl
each-true [] (b ∷ t) e = absurd (false≢true e)
each-true (a ∷ s) [] e = absurd (false≢true e)
each-true (a ∷ s) (b ∷ t) e =
    ap₂ (λ (x : List ℕ) (l : List (List ℕ)). x ∷ l) (same_true a b (and_left (same a b) (same_each s t) e))
    (each-true s t (and_right (same a b) (same_each s t) e))

each-sym : (s t : List (List ℕ)) → same_each s t ≡ same_each t s
unfolding same_each
each-sym [] [] = refl
each-sym [] (b ∷ t) = refl
each-sym (a ∷ s) [] = refl
each-sym (a ∷ s) (b ∷ t) = ap₂ (λ (x y : Bool). x && y) (same-sym a b) (each-sym s t)

-- ---- what stands beside the packet
extra-alike : (a b : Extra) → spares_apart a b ≡ false → parity_apart a b ≡ false → a ≡ b
extra-alike (spares s) (spares t) four five = ap spares (each-true s t (not-false (same_each s t) four))
extra-alike (spares s) (parity m t) four five = absurd (false≢true (sym four))
extra-alike (parity n s) (spares t) four five = absurd (false≢true (sym four))
extra-alike (parity n s) (parity m t) four five =
    let both : (eqb n m && same_each s t) ≡ true = not-false (eqb n m && same_each s t) five in
    ap₂ parity (eqb-true n m (and_left (eqb n m) (same_each s t) both)) (each-true s t (and_right (eqb n m) (same_each s t) both))

pub spares-itself : (a : Extra) → spares_apart a a ≡ false
spares-itself (spares s) = ap not (each-refl s)
spares-itself (parity n s) = refl

pub parity-itself : (a : Extra) → parity_apart a a ≡ false
parity-itself (spares s) = refl
parity-itself (parity n s) = ap not (and_both (eq-eqb n n refl) (each-refl s))

spares-sym : (a b : Extra) → spares_apart a b ≡ spares_apart b a
spares-sym (spares s) (spares t) = ap not (each-sym s t)
spares-sym (spares s) (parity m t) = refl
spares-sym (parity n s) (spares t) = refl
spares-sym (parity n s) (parity m t) = refl

parity-sym : (a b : Extra) → parity_apart a b ≡ parity_apart b a
parity-sym (spares s) (spares t) = refl
parity-sym (spares s) (parity m t) = refl
parity-sym (parity n s) (spares t) = refl
parity-sym (parity n s) (parity m t) = ap₂ (λ (x y : Bool). not (x && y)) (eqb-sym n m) (each-sym s t)

-- ---- the three rows
-- as tests
abbrev pub rows_of : Bool → Bool → Bool → List (Option ℕ)
rows_of packets four five = when packets packet_differs ∷ when four spares_differ ∷ when five parity_differs ∷ []

rows_none : (p q r : Bool) → given (rows_of p q r) ≡ [] → (p ≡ false) × (q ≡ false) × (r ≡ false)
unfolding given
rows_none false false false e = (refl, refl, refl)
rows_none true q r e = let z : ◌≡◌ {A = ℕ} 0 1 = cc in absurd (omega arith)
rows_none false true r e = let z : ◌≡◌ {A = ℕ} 0 1 = cc in absurd (omega arith)
rows_none false false true e = let z : ◌≡◌ {A = ℕ} 0 1 = cc in absurd (omega arith)

pub given-alike : (a b : Carried) → a.number ≡ b.number → given (differences a b) ≡ [] → a ≡ b
given-alike a b numbers e =
    let off = rows_none (not (same a.packet b.packet)) (spares_apart a.extra b.extra) (parity_apart a.extra b.extra) e in
    let packets : a.packet ≡ b.packet = same_true a.packet b.packet (not-false (same a.packet b.packet) off.0) in
    let extras : a.extra ≡ b.extra = extra-alike a.extra b.extra off.1 off.2 in
    λ i. record { number = numbers i; packet = packets i; extra = extras i }

pub given-itself : (a : Carried) → given (differences a a) ≡ []
unfolding given
given-itself a =
    ap (λ (p : Bool). given (rows_of (not p) (spares_apart a.extra a.extra) (parity_apart a.extra a.extra)))
    (same_refl a.packet)
    ∙ ap₂ (λ (q r : Bool). given (rows_of false q r)) (spares-itself a.extra) (parity-itself a.extra)

pub given-sym : (a b : Carried) → given (differences a b) ≡ given (differences b a)
given-sym a b =
    ap (λ (p : Bool). given (rows_of (not p) (spares_apart a.extra b.extra) (parity_apart a.extra b.extra)))
    (same-sym a.packet b.packet)
    ∙ ap₂ (λ (q r : Bool). given (rows_of (not (same b.packet a.packet)) q r)) (spares-sym a.extra b.extra)
    (parity-sym a.extra b.extra)
