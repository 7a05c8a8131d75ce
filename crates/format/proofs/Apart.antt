-- What was read, taken apart: of one format after another each was read, and of values made from others these were read. Assumes nothing.
use Prim.Native.Nat.{ℕ}
use mathlib.Core.Path.{◌≡◌, ap, ◌∙◌}
use mathlib.Core.List.{List}
use Rattle.format.specs.Reading.{found, and_then}
use Rattle.format.specs.Format.{Format, ◌⊳◌}
use Rattle.format.proofs.Standing.{stepped}

module _ {A B : Type 0} where
  pub record ThenFound (f : Format A) (g : A → Format B) (s : List ℕ) (i p : ℕ) (x : A × B) (q : ℕ) : Type 0 where
    pub middle : ℕ
    pub first : f.read s i p ≡ found x.0 middle
    pub second : (g x.0).read s i middle ≡ found x.1 q

  pub then_found : (f : Format A) (g : A → Format B) (s : List ℕ) (i p : ℕ) (x : A × B) (q : ℕ) → (f ⊳ g).read s i p ≡ found x q
      → ThenFound f g s i p x q
  then_found f g s i p x q e =
      let one = stepped (f.read s i p) _ x q e in
      let two = stepped ((g one.value).read s i one.at) _ x q one.gave in
      by one.value two.value one.at two.at one.was two.was (cc) (cc) where
        by : (a : A) (b : B) (m k : ℕ) → f.read s i p ≡ found a m → (g a).read s i m ≡ found b k → (a, b) ≡ x → k ≡ q
            → ThenFound f g s i p x q
        by a b m k first second is next = rw (← is, ← next) (record { middle = m; first = first; second = second })

  pub record MadeFound (to : A → B) (f : Format A) (s : List ℕ) (i p : ℕ) (b : B) (q : ℕ) : Type 0 where
    pub part : A
    pub was : f.read s i p ≡ found part q
    pub is : to part ≡ b

  pub made_found : (to : A → B) (f : Format A) (s : List ℕ) (i p : ℕ) (b : B) (q : ℕ)
      → and_then (f.read s i p) (λ a r. found (to a) r) ≡ found b q
      → MadeFound to f s i p b q
  made_found to f s i p b q e =
      let one = stepped (f.read s i p) _ b q e in
      let next : one.at ≡ q = cc in
      record { part = one.value; was = one.was ∙ ap (found one.value) next; is = cc }
