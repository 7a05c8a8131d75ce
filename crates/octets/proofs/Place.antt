-- Laws of lists given by place and of tests over a range. Assumes nothing.
use Prim.Native.Nat.{ℕ, zero, suc, ◌+◌, ◌≤◌, ◌<◌, zero-le, suc-le-suc}
use mathlib.Core.Path.{◌≡◌, refl, sym, ap, ap₂, ◌∙◌}
use mathlib.Core.Logic.{⊎_elim}
use mathlib.Core.Bool.{Bool, true, ◌&&◌}
use mathlib.Core.List.Memᴰ.{head as here}
use mathlib.Core.List.Memᴰ.{tail as further}
use mathlib.Core.List.{List, [], ◌∷◌, ◌++◌, map, Memᴰ as Among}
use mathlib.Core.List.Memᴰ
use lib.ListN.{length, get_or, set, take, drop, replicate, length-set}
use lib.Seq.{ext_get_or, get_or-set_same, get_or-set_other}
use native.Mathlib.Nat.{not-suc-le-zero, le_of_suc-le-suc}
use native.Mathlib.Numerals.{add-one}
use native.Mathlib.Omega.{arith}
use Rattle.octets.specs.Place.{tab, all_below}
use Rattle.octets.proofs.Either.{same_or_not, and_left, and_right, and_both}

-- ---- tab
pub length-tab : {A : Type 0} (n : ℕ) (f : ℕ → A) → length (tab n f) ≡ n
unfolding tab
length-tab zero f = refl
length-tab (suc n) f = ap suc (length-tab n (λ k. f (suc k)))

-- what stands at a place
pub tab-at : {A : Type 0} (n : ℕ) (f : ℕ → A) (k : ℕ) (d : A) → k < n → get_or (tab n f) k d ≡ f k
unfolding tab
tab-at zero f k d below = absurd (not-suc-le-zero below)
tab-at (suc n) f zero d below = refl
tab-at (suc n) f (suc k) d below = tab-at n (λ j. f (suc j)) k d (le_of_suc-le-suc below)

-- lists that agree below n are one list
pub tab-ext : {A : Type 0} (n : ℕ) (f g : ℕ → A) → ((k : ℕ) → k < n → f k ≡ g k) → tab n f ≡ tab n g
tab-ext n f g same =
    ext_get_or (f 0) (tab n f) (tab n g) (length-tab n f ∙ sym (length-tab n g))
    (λ i below.
    let small : i < n = omega (arith, length-tab n f) in
    tab-at n f i (f 0) small ∙ same i small ∙ sym (tab-at n g i (f 0) small))

-- a list is the list of what stands at its places
pub tab-get_d : {A : Type 0} (l : List A) (d : A) → tab (length l) (λ k. get_or l k d) ≡ l
unfolding tab
tab-get_d [] d = refl
tab-get_d (x ∷ l) d = ap (λ (t : List _). x ∷ t) (tab-get_d l d)

-- equal but at one place
pub tab-set : {A : Type 0} (n : ℕ) (f g : ℕ → A) (p : ℕ) → p < n → ((k : ℕ) → k < n → (k ≡ p → ⊥) → f k ≡ g k)
    → tab n f ≡ set (tab n g) p (f p)
tab-set n f g p inside same =
    ext_get_or (f 0) (tab n f) (set (tab n g) p (f p)) (length-tab n f ∙ sym (length-set (tab n g) p (f p) ∙ length-tab n g))
    (λ i below.
    let small : i < n = omega (arith, length-tab n f) in
    tab-at n f i (f 0) small ∙ at i small)
  where
    at : (i : ℕ) → i < n → f i ≡ get_or (set (tab n g) p (f p)) i (f 0)
    at i small =
        ⊎_elim (λ e. rw e (sym (get_or-set_same (tab n g) p (f p) (f 0) (rw (length-tab n g) inside))))
        (λ other. same i small other ∙ sym (get_or-set_other (tab n g) p i (f p) (f 0) other ∙ tab-at n g i (f 0) small))
        (same_or_not i p)

-- a set of a list given by place
pub set-tab : {A : Type 0} (n : ℕ) (g : ℕ → A) (p : ℕ) (a : A) (k : ℕ) (d : A) → k < n → (k ≡ p → ⊥)
    → get_or (set (tab n g) p a) k d ≡ g k
set-tab n g p a k d below other = get_or-set_other (tab n g) p k a d other ∙ tab-at n g k d below

-- ---- all_below
-- one place more, as a loop's turn has it
pub all_below-more : (n : ℕ) (p : ℕ → Bool) → all_below (n + 1) p ≡ (all_below n p && p n)
unfolding all_below
all_below-more n p = rw add-one

-- passed below n, passed at each place
pub all_below-at : (n : ℕ) (p : ℕ → Bool) → all_below n p ≡ true → (k : ℕ) → k < n → p k ≡ true
unfolding all_below
all_below-at zero p all k below = absurd (not-suc-le-zero below)
all_below-at (suc n) p all k below =
    ⊎_elim (λ e. rw e (and_right (all_below n p) (p n) all))
    (λ other. all_below-at n p (and_left (all_below n p) (p n) all) k (omega arith))
    (same_or_not k n)

-- passed at each place, passed below n
pub all_below-of : (n : ℕ) (p : ℕ → Bool) → ((k : ℕ) → k < n → p k ≡ true) → all_below n p ≡ true
unfolding all_below
all_below-of zero p each = refl
all_below-of (suc n) p each =
    and_both (all_below-of n p (λ k below. each k (omega arith))) (each n (omega arith))

-- tests that agree below n are passed alike
pub all_below-ext : (n : ℕ) (p q : ℕ → Bool) → ((k : ℕ) → k < n → p k ≡ q k) → all_below n p ≡ all_below n q
unfolding all_below
all_below-ext zero p q same = refl
all_below-ext (suc n) p q same =
    ap₂ (λ (a b : Bool). a && b) (all_below-ext n p q (λ k below. same k (omega arith))) (same n (omega arith))

-- ---- what is in a tab
-- each element stands at a place
pub tab-among : {A : Type 0} (n : ℕ) (f : ℕ → A) (k : ℕ) → k < n → Among (f k) (tab n f)
unfolding tab
tab-among zero f k below = absurd (not-suc-le-zero below)
tab-among (suc n) f zero below = here refl
tab-among (suc n) f (suc k) below = further (tab-among n (λ j. f (suc j)) k (le_of_suc-le-suc below))

pub among-tab : {A : Type 0} (n : ℕ) (f : ℕ → A) {a : A} → Among a (tab n f) → (k : ℕ) × (k < n) × (a ≡ f k)
unfolding tab
among-tab zero f m = absurd (Memᴰ.not-nil m)
among-tab (suc n) f {a} m =
    ⊎_elim (λ same. (zero, suc-le-suc zero-le, same)) (λ rest. later (among-tab n (λ k. f (suc k)) rest)) (Memᴰ.cases_cons m)
  where
    later : (k : ℕ) × (k < n) × (a ≡ f (suc k)) → (k : ℕ) × (k < suc n) × (a ≡ f k)
    later t = (suc t.0, suc-le-suc t.1, t.2)

-- one place more, at the end
pub tab-snoc : {A : Type 0} (n : ℕ) (f : ℕ → A) → tab (suc n) f ≡ tab n f ++ (f n ∷ [])
unfolding tab
tab-snoc zero f = refl
tab-snoc (suc n) f = ap (λ (t : List _). f zero ∷ t) (tab-snoc n (λ k. f (suc k)))

-- the same, as a loop's turn has it
pub tab-more : {A : Type 0} (n : ℕ) (f : ℕ → A) → tab (n + 1) f ≡ tab n f ++ (f n ∷ [])
tab-more n f = rw add-one (tab-snoc n f)

-- one place further: all but the first, and a last one
pub tab-shift : {A : Type 0} (n : ℕ) (f g : ℕ → A) (last : A) → ((k : ℕ) → k < n → f k ≡ g (suc k)) → f n ≡ last
    → tab (suc n) f ≡ drop 1 (tab (suc n) g) ++ (last ∷ [])
unfolding tab
tab-shift n f g last same end =
    tab-snoc n f ∙ ap₂ (λ (l : List _) (a : _). l ++ (a ∷ [])) (tab-ext n f (λ k. g (suc k)) same) end

-- ---- a tab and other lists
-- the same at each place
pub tab-same : {A : Type 0} (n : ℕ) (a : A) → tab n (λ k. a) ≡ replicate n a
unfolding tab
tab-same zero a = refl
tab-same (suc n) a = ap (λ (l : List _). a ∷ l) (tab-same n a)

pub map-tab : {A B : Type 0} (f : A → B) (n : ℕ) (g : ℕ → A) → map f (tab n g) ≡ tab n (λ k. f (g k))
unfolding tab
map-tab f zero g = refl
map-tab f (suc n) g = ap (λ (l : List _). f (g zero) ∷ l) (map-tab f n (λ k. g (suc k)))

-- the first n of a list, by place
pub tab-take : {A B : Type 0} (f : A → B) (l : List A) (d : A) (n : ℕ) → n ≤ length l → tab n (λ k. f (get_or l k d)) ≡ map f (take n l)
unfolding tab
tab-take f l d zero fits = refl
tab-take f [] d (suc n) fits = absurd (not-suc-le-zero fits)
tab-take f (x ∷ l) d (suc n) fits = ap (λ (t : List _). f x ∷ t) (tab-take f l d n (le_of_suc-le-suc fits))
