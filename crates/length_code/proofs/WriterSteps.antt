-- One law for each answer of `write`, in the words of the code: the tests that led there give the promise. Assumes nothing.
use Rattle.std.proofs.Common.{Ok, Err}
use Prim.Native.Nat.{ℕ, ◌+◌, ◌/◌, ◌%◌, ◌≤◌, ◌<◌}
use mathlib.Core.Path.{◌≡◌, refl, ap, ◌∙◌}
use mathlib.Core.List.{List, [], ◌∷◌}
use lib.ListN.{length, set, drop}
use native.Mathlib.Nat.{not-suc-le-zero, le_of_suc-le-suc, mod-eq_of_lt}
use native.Mathlib.Omega.{arith}
use borrow.Author.Tests.{lt-ltb, le-ltb, le-leb, lt-leb}
use Rattle.length.specs.Refusals.{outside_sizes, no_room}
use Rattle.length.specs.Tables.{unless}
use Rattle.length.specs.Length.{length_octets, length_to_write}
use Rattle.length.specs.Promise.{Puts, RefusalMade}
use Rattle.length.specs.declared.Refusal.{Refusal}

first-set : (l : List ℕ) (a : ℕ) → 1 ≤ length l → set l 0 a ≡ a ∷ drop 1 l
first-set [] a some = absurd (not-suc-le-zero some)
first-set (x ∷ l) a some = refl

two-set : (l : List ℕ) (a b : ℕ) → 2 ≤ length l → set (set l 0 a) 1 b ≡ a ∷ b ∷ drop 2 l
two-set [] a b some = absurd (not-suc-le-zero some)
two-set (x ∷ l) a b some = ap (λ (t : List ℕ). a ∷ t) (first-set l b (le_of_suc-le-suc some))

module _ {n : ℕ} {old : List ℕ} where
  pub write-over : {r : Refusal} → RefusalMade outside_sizes r → 16383 < n → Puts (length_to_write n) old old (Err r)
  unfolding length_to_write unless
  write-over made large = record { answer = rw (made.answer, lt-ltb 16383 n large); lent = rw (lt-ltb 16383 n large) }

  pub write-one-full : {r : Refusal} → RefusalMade no_room r → n ≤ 16383 → n < 128 → length old < 1
      → Puts (length_to_write n) old old (Err r)
  unfolding length_to_write unless length_octets
  write-one-full made fits small full =
      record {
        answer = rw (made.answer, le-ltb 16383 n fits, lt-ltb n 128 small, lt-leb 1 (length old) full);
        lent = rw (le-ltb 16383 n fits, lt-ltb n 128 small, lt-leb 1 (length old) full);
      }

  pub write-two-full : {r : Refusal} → RefusalMade no_room r → n ≤ 16383 → 128 ≤ n → length old < 2
      → Puts (length_to_write n) old old (Err r)
  unfolding length_to_write unless length_octets
  write-two-full made fits large full =
      record {
        answer = rw (made.answer, le-ltb 16383 n fits, le-ltb n 128 large, lt-leb 2 (length old) full);
        lent = rw (le-ltb 16383 n fits, le-ltb n 128 large, lt-leb 2 (length old) full);
      }

  pub write-one : n ≤ 16383 → n < 128 → 1 ≤ length old → Puts (length_to_write n) old (set old 0 (n % 256)) (Ok 1)
  unfolding length_to_write unless length_octets
  write-one fits small room =
      record {
        answer = rw (le-ltb 16383 n fits, lt-ltb n 128 small, le-leb 1 (length old) room);
        lent =
            rw (le-ltb 16383 n fits, lt-ltb n 128 small, le-leb 1 (length old) room)
            (first-set old (n % 256) room ∙ ap (λ (k : ℕ). k ∷ drop 1 old) (mod-eq_of_lt (omega arith)));
      }

  pub write_two : n ≤ 16383 → 128 ≤ n → 2 ≤ length old
      → Puts (length_to_write n) old (set (set old 0 ((n / 256 + 128) % 256)) 1 (n % 256)) (Ok 2)
  unfolding length_to_write unless length_octets
  write_two fits large room =
      record {
        answer = rw (le-ltb 16383 n fits, le-ltb n 128 large, le-leb 2 (length old) room);
        lent =
            rw (le-ltb 16383 n fits, le-ltb n 128 large, le-leb 2 (length old) room)
            (two-set old _ (n % 256) room ∙ ap (λ (k : ℕ). k ∷ n % 256 ∷ drop 2 old) (mod-eq_of_lt (omega arith)));
      }

-- the laws of `write`'s answers
pub ruleset writings = (write-over, write-one-full, write-two-full, write-one, write_two)
