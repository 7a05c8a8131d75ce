-- Laws of the exclusive or: of two numbers, of several lists at a place, and of several lists over a length. Order and
-- grouping don't matter, and what is added twice is gone. Assumes nothing.
use Prim.Native.Nat.{ℕ, zero, suc, ◌+◌, ◌*◌, ◌/◌, ◌%◌, ◌≤◌, ◌<◌, max}
use mathlib.Core.Path.{◌≡◌, refl, sym, ap, ap₂, ◌∙◌}
use mathlib.Core.Logic.{⊎_elim}
use mathlib.Core.List.{List, [], ◌∷◌, ◌++◌, map, Memᴰ as Among}
use mathlib.Core.List.{Permᴰ}
use mathlib.Core.List.Memᴰ
use mathlib.Core.List.Memᴰ.{head as here}
use mathlib.Core.List.Memᴰ.{tail as further}
use lib.ListN.{length, get_or, replicate, get_or-eq_default}
use lib.Bits.{bit_xor, differ, xor_step, xor_shr, xor_mod, xor_comm, xor_self, xor_zero_r, xor_lt}
use lib.Arith.{bin_ind}
use native.Mathlib.Nat.{mod-lt}
use native.Mathlib.Omega.{arith}
use Rattle.octets.specs.Place.{tab}
use Rattle.octets.specs.ExclusiveOr.{xor_at, exclusive_or, longest}
use Rattle.octets.proofs.Either.{below_or_not}
use Rattle.octets.proofs.Place.{length-tab, tab-at, tab-ext, tab-get_d, tab-same}

-- ---- of two numbers
-- of two digits and a third, however they are grouped
digits : (x y z : ℕ) → x < 2 → y < 2 → z < 2 → differ (bit_xor x y) z ≡ differ x (bit_xor y z)
digits zero zero z hx hy hz = refl
digits zero (suc zero) zero hx hy hz = refl
digits zero (suc zero) (suc zero) hx hy hz = refl
digits zero (suc zero) (suc (suc z)) hx hy hz = absurd (omega arith)
digits zero (suc (suc y)) z hx hy hz = absurd (omega arith)
digits (suc zero) zero z hx hy hz = refl
digits (suc zero) (suc zero) zero hx hy hz = refl
digits (suc zero) (suc zero) (suc zero) hx hy hz = refl
digits (suc zero) (suc zero) (suc (suc z)) hx hy hz = absurd (omega arith)
digits (suc zero) (suc (suc y)) z hx hy hz = absurd (omega arith)
digits (suc (suc x)) y z hx hy hz = absurd (omega arith)

pub xor_assoc : (a b c : ℕ) → bit_xor (bit_xor a b) c ≡ bit_xor a (bit_xor b c)
xor_assoc a =
    bin_ind (λ (n : ℕ). (b c : ℕ) → bit_xor (bit_xor n b) c ≡ bit_xor n (bit_xor b c)) (λ b c. refl)
    (λ n below b c.
    xor_step (bit_xor n b) c
    ∙ ap₂ (λ (x y : ℕ). bit_xor x (c / 2) * 2 + differ y (c % 2)) (xor_shr n b 1) (xor_mod n b 1)
    ∙ ap₂ (λ (x y : ℕ). x * 2 + y) (below (b / 2) (c / 2))
    (digits (n % 2) (b % 2) (c % 2) (mod-lt n (omega arith)) (mod-lt b (omega arith)) (mod-lt c (omega arith)))
    ∙ sym (xor_step n (bit_xor b c) ∙ ap₂ (λ (x y : ℕ). bit_xor (n / 2) x * 2 + differ (n % 2) y) (xor_shr b c 1) (xor_mod b c 1)))
    a

-- what is added twice is gone
pub xor-cancel-right : (a b : ℕ) → bit_xor (bit_xor a b) b ≡ a
xor-cancel-right a b = xor_assoc a b b ∙ ap (bit_xor a) (xor_self b) ∙ xor_zero_r a

pub xor-cancel-left : (a b : ℕ) → bit_xor a (bit_xor a b) ≡ b
xor-cancel-left a b = sym (xor_assoc a a b) ∙ ap (λ (x : ℕ). bit_xor x b) (xor_self a)

pub xor-left-comm : (a b c : ℕ) → bit_xor a (bit_xor b c) ≡ bit_xor b (bit_xor a c)
xor-left-comm a b c = sym (xor_assoc a b c) ∙ ap (λ (x : ℕ). bit_xor x c) (xor_comm a b) ∙ xor_assoc b a c

-- of two octets
pub xor-octet : (a b : ℕ) → a < 256 → b < 256 → bit_xor a b < 256
xor-octet a b ha hb = xor_lt 8 a b ha hb

-- ---- of several lists at a place
pub xor_at-cons : (l : List ℕ) (ls : List (List ℕ)) (k : ℕ) → xor_at (l ∷ ls) k ≡ bit_xor (get_or l k 0) (xor_at ls k)
unfolding xor_at
xor_at-cons l ls k = refl

pub xor_at-append : (ls more : List (List ℕ)) (k : ℕ) → xor_at (ls ++ more) k ≡ bit_xor (xor_at ls k) (xor_at more k)
unfolding xor_at
xor_at-append [] more k = refl
xor_at-append (l ∷ ls) more k =
    ap (bit_xor (get_or l k 0)) (xor_at-append ls more k) ∙ sym (xor_assoc (get_or l k 0) (xor_at ls k) (xor_at more k))

-- the order of the lists doesn't matter
pub xor_at-permuted : {ls more : List (List ℕ)} → Permᴰ ls more → (k : ℕ) → xor_at ls k ≡ xor_at more k
unfolding xor_at
xor_at-permuted Permᴰ.nil k = refl
xor_at-permuted (Permᴰ.cons e rest) k = ap₂ (λ (l : List ℕ) (x : ℕ). bit_xor (get_or l k 0) x) e (xor_at-permuted rest k)
xor_at-permuted (Permᴰ.swap {a = a} {b = b} {l = l} e f) k =
    xor-left-comm (get_or a k 0) (get_or b k 0) (xor_at l k)
    ∙ ap₂ (λ (x y : List ℕ). bit_xor (get_or x k 0) (bit_xor (get_or y k 0) (xor_at l k))) f e
xor_at-permuted (Permᴰ.trans first second) k = xor_at-permuted first k ∙ xor_at-permuted second k

-- lists that agree at the place
pub xor_at-same : {A : Type 0} (f g : A → List ℕ) (l : List A) (k : ℕ) → ((a : A) → Among a l → get_or (f a) k 0 ≡ get_or (g a) k 0)
    → xor_at (map f l) k ≡ xor_at (map g l) k
unfolding xor_at
xor_at-same f g [] k same = refl
xor_at-same f g (a ∷ l) k same =
    ap₂ bit_xor (same a (here refl)) (xor_at-same f g l k (λ b m. same b (further m)))

-- lists that have zero at the place
pub xor_at-zeros : {A : Type 0} (f : A → List ℕ) (l : List A) (k : ℕ) → ((a : A) → Among a l → get_or (f a) k 0 ≡ 0)
    → xor_at (map f l) k ≡ 0
unfolding xor_at
xor_at-zeros f [] k zeros = refl
xor_at-zeros f (a ∷ l) k zeros =
    ap₂ bit_xor (zeros a (here refl)) (xor_at-zeros f l k (λ b m. zeros b (further m)))

-- of octets
pub xor_at-octet : (ls : List (List ℕ)) (k : ℕ) → ((l : List ℕ) → Among l ls → get_or l k 0 < 256) → xor_at ls k < 256
unfolding xor_at
xor_at-octet [] k small = omega arith
xor_at-octet (l ∷ ls) k small =
    xor-octet (get_or l k 0) (xor_at ls k) (small l (here refl))
    (xor_at-octet ls k (λ other m. small other (further m)))

-- ---- the longest
pub longest-reaches : (l : List ℕ) (ls : List (List ℕ)) → Among l ls → length l ≤ longest ls
unfolding longest
longest-reaches l [] m = absurd (Memᴰ.not-nil m)
longest-reaches l (first ∷ ls) m =
    ⊎_elim (λ same. rw same (omega arith)) (λ rest. let reaches = longest-reaches l ls rest in omega arith) (Memᴰ.cases_cons m)

pub longest-least : (n : ℕ) (ls : List (List ℕ)) → ((l : List ℕ) → Among l ls → length l ≤ n) → longest ls ≤ n
unfolding longest
longest-least n [] each = omega arith
longest-least n (l ∷ ls) each =
    omega (
      arith,
      each l (here refl),
      longest-least n ls (λ other m. each other (further m)),
    )

-- one list more, as a loop goes
pub longest-more : (ls : List (List ℕ)) (l : List ℕ) → longest (ls ++ (l ∷ [])) ≡ max (longest ls) (length l)
unfolding longest
longest-more [] l = omega arith
longest-more (first ∷ ls) l = let rest = longest-more ls l in omega arith

-- past the longest there are zeros
pub xor_at-past : (ls : List (List ℕ)) (k : ℕ) → longest ls ≤ k → xor_at ls k ≡ 0
unfolding xor_at longest
xor_at-past [] k past = refl
xor_at-past (l ∷ ls) k past =
    ap₂ bit_xor (get_or-eq_default l 0 {n = k} (omega arith)) (xor_at-past ls k (omega arith))

-- ---- of several lists over a length
pub length-exclusive_or : (n : ℕ) (ls : List (List ℕ)) → length (exclusive_or n ls) ≡ n
unfolding exclusive_or
length-exclusive_or n ls = length-tab n (xor_at ls)

-- what stands at a place
pub exclusive_or-at : (n : ℕ) (ls : List (List ℕ)) (k : ℕ) → k < n → get_or (exclusive_or n ls) k 0 ≡ xor_at ls k
unfolding exclusive_or
exclusive_or-at n ls k inside = tab-at n (xor_at ls) k 0 inside

pub exclusive_or-past : (n : ℕ) (ls : List (List ℕ)) (k : ℕ) → n ≤ k → get_or (exclusive_or n ls) k 0 ≡ 0
exclusive_or-past n ls k past = get_or-eq_default (exclusive_or n ls) 0 {n = k} (rw length-exclusive_or past)

-- over the longest, every place has the exclusive or of what stands there
pub exclusive_or-longest : (ls : List (List ℕ)) (k : ℕ) → get_or (exclusive_or (longest ls) ls) k 0 ≡ xor_at ls k
exclusive_or-longest ls k =
    ⊎_elim (λ inside. exclusive_or-at (longest ls) ls k inside)
    (λ past. exclusive_or-past (longest ls) ls k past ∙ sym (xor_at-past ls k past))
    (below_or_not k (longest ls))

pub exclusive_or-octet : (n : ℕ) (ls : List (List ℕ)) (k : ℕ) → ((l : List ℕ) → Among l ls → get_or l k 0 < 256)
    → get_or (exclusive_or n ls) k 0 < 256
exclusive_or-octet n ls k small =
    ⊎_elim (λ inside. rw (exclusive_or-at n ls k inside) (xor_at-octet ls k small))
    (λ past. rw (exclusive_or-past n ls k past) (omega arith))
    (below_or_not k n)

-- of no list
pub exclusive_or-none : (n : ℕ) → replicate n 0 ≡ exclusive_or n []
unfolding exclusive_or xor_at
exclusive_or-none n = sym (tab-same n 0)

-- one list more, added to what has been summed so far, as a loop goes
pub exclusive_or-more : (n : ℕ) (ls : List (List ℕ)) (l : List ℕ)
    → exclusive_or n (ls ++ (l ∷ [])) ≡ tab n (λ k. bit_xor (get_or (exclusive_or n ls) k 0) (get_or l k 0))
unfolding exclusive_or xor_at
exclusive_or-more n ls l =
    tab-ext n (xor_at (ls ++ (l ∷ []))) (λ k. bit_xor (get_or (exclusive_or n ls) k 0) (get_or l k 0))
    (λ k inside.
    xor_at-append ls (l ∷ []) k
    ∙ ap₂ bit_xor (sym (exclusive_or-at n ls k inside)) (xor_zero_r (get_or l k 0)))

-- the order of the lists doesn't matter
pub exclusive_or-permuted : (n : ℕ) {ls more : List (List ℕ)} → Permᴰ ls more → exclusive_or n ls ≡ exclusive_or n more
unfolding exclusive_or
exclusive_or-permuted n {ls} {more} same = tab-ext n (xor_at ls) (xor_at more) (λ k inside. xor_at-permuted same k)

-- of one list over its length
pub exclusive_or-one : (l : List ℕ) → exclusive_or (length l) (l ∷ []) ≡ l
unfolding exclusive_or xor_at
exclusive_or-one l =
    tab-ext (length l) (xor_at (l ∷ [])) (λ k. get_or l k 0) (λ k inside. xor_zero_r (get_or l k 0)) ∙ tab-get_d l 0
