-- Laws of `passing`, the places of a list that pass a test: what is among them, where one alone passes, and the exclusive
-- or of a list as that of those that pass and of the others. Assumes nothing.
use Prim.Native.Nat.{ℕ, ◌+◌}
use mathlib.Core.Path.{◌≡◌, refl, sym, ap, ap₂, ◌∙◌}
use mathlib.Core.Logic.{⊎_elim}
use mathlib.Core.Bool.{Bool, true, false, not, cond}
use mathlib.Core.List.{List, [], ◌∷◌, ◌++◌, map, Memᴰ as Among}
use mathlib.Core.List.Memᴰ
use mathlib.Core.List.Memᴰ.{head as here}
use mathlib.Core.List.Memᴰ.{tail as further}
use lib.ListN.{length, get_or}
use native.Mathlib.Omega.{arith}
use lib.Bits.{bit_xor}
use Rattle.octets.specs.ExclusiveOr.{xor_at}
use Rattle.octets.proofs.Laws.{true-or-false, xor_assoc, xor-left-comm}
use Rattle.session.specs.Repair.{passing}
use Rattle.session.specs.Reached.{Distinct, fresh}

pub passing-yes : (test : ℕ → Bool) (x : ℕ) (l : List ℕ) → test x ≡ true → passing test (x ∷ l) ≡ x ∷ passing test l
unfolding passing
passing-yes test x l e = rw e

pub passing-no : (test : ℕ → Bool) (x : ℕ) (l : List ℕ) → test x ≡ false → passing test (x ∷ l) ≡ passing test l
unfolding passing
passing-no test x l e = rw e

-- what passes is in the list, and passes the test
pub passing-among : (test : ℕ → Bool) (l : List ℕ) {p : ℕ} → Among p (passing test l) → Among p l × (test p ≡ true)
unfolding passing
passing-among test [] m = absurd (Memᴰ.not-nil m)
passing-among test (x ∷ l) {p} m =
    ⊎_elim
    (λ e.
    ⊎_elim (λ same. (here same, rw same e)) (λ rest. later (passing-among test l rest))
    (Memᴰ.cases_cons (rw (passing-yes test x l e) at m)))
    (λ e. later (passing-among test l (rw (passing-no test x l e) at m)))
    (true-or-false (test x))
  where
    later : Among p l × (test p ≡ true) → Among p (x ∷ l) × (test p ≡ true)
    later t = (further t.0, t.1)

-- how many pass, and the first that does, with one place more in front
pub passing-count : (test : ℕ → Bool) (x : ℕ) (l : List ℕ)
    → length (passing test (x ∷ l)) ≡ cond (test x) 1 0 + length (passing test l)
passing-count test x l =
    ⊎_elim (λ e. rw (passing-yes test x l e, e) (omega arith)) (λ e. rw (passing-no test x l e, e) (omega arith))
    (true-or-false (test x))

pub passing-first : (test : ℕ → Bool) (x : ℕ) (l : List ℕ)
    → get_or (passing test (x ∷ l)) 0 0 ≡ cond (test x) x (get_or (passing test l) 0 0)
passing-first test x l =
    ⊎_elim (λ e. rw (passing-yes test x l e, e)) (λ e. rw (passing-no test x l e, e)) (true-or-false (test x))

-- what is in the list and passes the test is among those that pass
pub among-passing : (test : ℕ → Bool) (l : List ℕ) {p : ℕ} → Among p l → test p ≡ true → Among p (passing test l)
among-passing test [] m pass = absurd (Memᴰ.not-nil m)
among-passing test (x ∷ l) {p} m pass = ⊎_elim first (λ rest. later (among-passing test l rest pass)) (Memᴰ.cases_cons m)
  where
    first : p ≡ x → Among p (passing test (x ∷ l))
    first same = rw (passing-yes test x l (rw same at pass)) (here same)

    later : Among p (passing test l) → Among p (passing test (x ∷ l))
    later rest =
        ⊎_elim (λ e. rw (passing-yes test x l e) (further rest)) (λ e. rw (passing-no test x l e) rest)
        (true-or-false (test x))

-- a list of one
pub list-of-one : (l : List ℕ) → length l ≡ 1 → l ≡ get_or l 0 0 ∷ []
list-of-one [] e = absurd (omega arith)
list-of-one (x ∷ []) e = refl
list-of-one (x ∷ y ∷ l) e = absurd (omega arith)

-- where no place passes
pub passing-none : (test : ℕ → Bool) (l : List ℕ) → ((q : ℕ) → Among q l → test q ≡ false) → passing test l ≡ []
unfolding passing
passing-none test [] none_pass = refl
passing-none test (x ∷ l) none_pass =
    passing-no test x l (none_pass x (here refl))
    ∙ passing-none test l (λ q m. none_pass q (further m))

-- where one place of a list without repeats passes
pub passing-one : (test : ℕ → Bool) (l : List ℕ) (p : ℕ) → Distinct l → Among p l → test p ≡ true
    → ((q : ℕ) → Among q l → (q ≡ p → ⊥) → test q ≡ false) → passing test l ≡ p ∷ []
passing-one test [] p d m pass others = absurd (Memᴰ.not-nil m)
passing-one test (x ∷ l) p (fresh not-again d) m pass others =
    ⊎_elim first
    (λ rest. later rest (passing-one test l p d rest pass (λ q at other. others q (further at) other)))
    (Memᴰ.cases_cons m)
  where
    first : p ≡ x → passing test (x ∷ l) ≡ p ∷ []
    first same =
        passing-yes test x l (rw same at pass)
        ∙ ap (λ (t : List ℕ). x ∷ t)
        (passing-none test l (λ q at. others q (further at) (λ e. not-again (Memᴰ.cast (sym same ∙ sym e) at))))
        ∙ ap (λ (y : ℕ). y ∷ []) (sym same)

    later : Among p l → passing test l ≡ p ∷ [] → passing test (x ∷ l) ≡ p ∷ []
    later rest alone =
        passing-no test x l (others x (here refl) (λ e. not-again (Memᴰ.cast e rest))) ∙ alone

-- ---- one place more at the end
pub passing-append : (test : ℕ → Bool) (l rest : List ℕ) → passing test (l ++ rest) ≡ passing test l ++ passing test rest
unfolding passing
passing-append test [] rest = refl
passing-append test (x ∷ l) rest =
    ⊎_elim
    (λ e.
    passing-yes test x (l ++ rest) e
    ∙ ap (λ (t : List ℕ). x ∷ t) (passing-append test l rest)
    ∙ ap (λ (t : List ℕ). t ++ passing test rest) (sym (passing-yes test x l e)))
    (λ e.
    passing-no test x (l ++ rest) e
    ∙ passing-append test l rest
    ∙ ap (λ (t : List ℕ). t ++ passing test rest) (sym (passing-no test x l e)))
    (true-or-false (test x))

-- ---- the exclusive or of a list, parted by a test
module _ (test : ℕ → Bool) (row : ℕ → List ℕ) (k : ℕ) where
  abbrev pub both_of : List ℕ → List ℕ → ℕ
  both_of pass fail = bit_xor (xor_at (map row pass) k) (xor_at (map row fail) k)

  -- the exclusive or of those that pass and of those that don't
  abbrev pub parted : List ℕ → ℕ
  parted l = both_of (passing test l) (passing (λ p. not (test p)) l)

  pub xor_at-parted : (l : List ℕ) → xor_at (map row l) k ≡ parted l
  unfolding passing xor_at
  xor_at-parted [] = refl
  xor_at-parted (p ∷ l) =
      ap (bit_xor (get_or (row p) k 0)) (xor_at-parted l) ∙ ⊎_elim passes fails (true-or-false (test p))
    where
      passes : test p ≡ true → bit_xor (get_or (row p) k 0) (parted l) ≡ parted (p ∷ l)
      passes e =
          sym (xor_assoc (get_or (row p) k 0) (xor_at (map row (passing test l)) k) (xor_at (map row (passing (λ q. not (test q)) l)) k))
          ∙ sym (ap₂ both_of (passing-yes test p l e) (passing-no (λ q. not (test q)) p l (ap not e)))

      fails : test p ≡ false → bit_xor (get_or (row p) k 0) (parted l) ≡ parted (p ∷ l)
      fails e =
          xor-left-comm (get_or (row p) k 0) (xor_at (map row (passing test l)) k) (xor_at (map row (passing (λ q. not (test q)) l)) k)
          ∙ sym (ap₂ both_of (passing-no test p l e) (passing-yes (λ q. not (test q)) p l (ap not e)))
