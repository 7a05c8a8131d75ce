-- One law for each answer of `read` and `read_within`, in the words of the code: the tests that led there give the promise.
-- Assumes nothing.
use Rattle.std.proofs.Common.{Result, Ok, Err}
use Prim.Native.Nat.{ℕ, ◌≤◌, ◌<◌}
use mathlib.Core.Path.{◌≡◌, sym, ◌∙◌}
use mathlib.Core.Bool.{Bool, true, false}
use mathlib.Core.List.{List}
use lib.ListN.{length, get_or}
use borrow.Author.Tests.{lt-ltb, le-ltb, le-leb, lt-leb}
use Rattle.length.specs.Refusals.{ends_early, bad_form, outside_sizes}
use Rattle.length.specs.Answers.{done, refused}
use Rattle.length.specs.Length.{length_at, within, length_within, of_two}
use Rattle.length.specs.Promise.{LengthRead, Octet, RefusalMade, WithinRead}
use Rattle.length.specs.declared.Refusal.{Refusal}
use Rattle.length.specs.declared.Length.{Length}
use Rattle.length.proofs.Laws.{allowed-met, allowed-not}

-- ---- read
module _ {s : List ℕ} where
  pub read-empty : {r : Refusal} → RefusalMade ends_early r → length s < 1 → LengthRead s (Err r)
  unfolding length_at
  read-empty made short = record { answer = rw (made.answer, lt-ltb _ _ short) }

  pub read_one : {first : ℕ} → Octet (get_or s 0 0) first → 1 ≤ length s → first < 128 → LengthRead s (Ok (record { value = first; size = 1 }))
  unfolding length_at
  read_one {first} octet some low =
      let e : get_or s 0 0 < 128 = rw octet.same at low in
      record { answer = rw (octet.same, le-ltb (length s) 1 some, lt-ltb _ _ e) }

  pub read-high : {first : ℕ} {r : Refusal} → RefusalMade bad_form r → Octet (get_or s 0 0) first → 1 ≤ length s
      → 128 ≤ first → 192 ≤ first → LengthRead s (Err r)
  unfolding length_at
  read-high made octet some long high =
      let l : 128 ≤ get_or s 0 0 = rw octet.same at long in
      let h : 192 ≤ get_or s 0 0 = rw octet.same at high in
      record { answer = rw (made.answer, le-ltb (length s) 1 some, le-ltb (get_or s 0 0) 128 l, le-leb 192 _ h) }

  pub read-cut : {first : ℕ} {r : Refusal} → RefusalMade ends_early r → Octet (get_or s 0 0) first → 1 ≤ length s
      → 128 ≤ first → first < 192 → length s < 2 → LengthRead s (Err r)
  unfolding length_at
  read-cut made octet some long low short =
      let l : 128 ≤ get_or s 0 0 = rw octet.same at long in
      let h : get_or s 0 0 < 192 = rw octet.same at low in
      record { answer = rw (made.answer, le-ltb (length s) 1 some, le-ltb (get_or s 0 0) 128 l, lt-leb 192 _ h, lt-ltb (length s) 2 short) }

  pub read_small : {first second : ℕ} {r : Refusal} → RefusalMade bad_form r → Octet (get_or s 0 0) first → Octet (get_or s 1 0) second
      → 1 ≤ length s → 128 ≤ first → first < 192 → 2 ≤ length s → of_two first second < 128 → LengthRead s (Err r)
  unfolding length_at
  read_small made octet next some long low two small =
      let l : 128 ≤ get_or s 0 0 = rw octet.same at long in
      let h : get_or s 0 0 < 192 = rw octet.same at low in
      let v : of_two (get_or s 0 0) (get_or s 1 0) < 128 = rw (octet.same, next.same) at small in
      record {
        answer =
            rw
            (made.answer, le-ltb (length s) 1 some, le-ltb (get_or s 0 0) 128 l, lt-leb 192 _ h, le-ltb (length s) 2 two, lt-ltb _ 128 v);
      }

  pub read-two : {first second : ℕ} → Octet (get_or s 0 0) first → Octet (get_or s 1 0) second
      → 1 ≤ length s → 128 ≤ first → first < 192 → 2 ≤ length s → 128 ≤ of_two first second
      → LengthRead s (Ok (record { value = of_two first second; size = 2 }))
  unfolding length_at
  read-two octet next some long low two large =
      let l : 128 ≤ get_or s 0 0 = rw octet.same at long in
      let h : get_or s 0 0 < 192 = rw octet.same at low in
      let v : 128 ≤ of_two (get_or s 0 0) (get_or s 1 0) = rw (octet.same, next.same) at large in
      record {
        answer =
            rw (
              octet.same,
              next.same,
              le-ltb (length s) 1 some,
              le-ltb (get_or s 0 0) 128 l,
              lt-leb 192 _ h,
              le-ltb (length s) 2 two,
              le-ltb _ 128 v,
            );
      }

-- the laws of `read`'s answers
pub ruleset readings = (read-empty, read_one, read-high, read-cut, read_small, read-two)

-- ---- read_within
module _ {least most : ℕ} {s : List ℕ} {found : Result Length Refusal} where
  pub within-refused : {why : Refusal} → LengthRead s found → found ≡ Err why → WithinRead least most s found
  unfolding length_within
  within-refused {why} length is =
      let e : refused why ≡ length_at s = rw is at length.answer in
      record { answer = rw (is, ← e) }

  module _ {l : Length} {b : Bool} (length : LengthRead s found) (is : found ≡ Ok l) (test : b ≡ within least most l.value) where
    pub within-read : b ≡ true → WithinRead least most s (Ok l)
    unfolding length_within
    within-read met =
        let e : done (record { value = l.value; size = l.size }) ≡ length_at s = rw is at length.answer in
        record { answer = rw (← e, allowed-met least most (record { value = l.value; size = l.size }) (sym test ∙ met)) }

    pub within-outside : {r : Refusal} → b ≡ false → RefusalMade outside_sizes r → WithinRead least most s (Err r)
    unfolding length_within
    within-outside out made =
        let e : done (record { value = l.value; size = l.size }) ≡ length_at s = rw is at length.answer in
        record { answer = rw (made.answer, ← e, allowed-not least most (record { value = l.value; size = l.size }) (sym test ∙ out)) }

-- the laws of `read_within`'s answers
pub ruleset withins = (within-refused, within-read, within-outside)
