-- One law for each answer of the functions that read a value of an ENUMERATED type, in the words of the code: the tests that led there
-- give the promise. Assumes nothing.
use Rattle.std.proofs.Common.{Result, Ok, Err}
use Prim.Native.Nat.{ℕ, ◌+◌, ◌*◌, ◌^◌, ◌≤◌, ◌<◌}
use mathlib.Core.Path.{◌≡◌, sym, ap, ◌∙◌}
use mathlib.Core.Bool.{Bool, true, false, not}
use mathlib.Core.List.{List}
use lib.ListN.{length}
use native.Mathlib.Omega.{arith}
use borrow.Author.Tests.{lt-ltb, le-ltb, not-true, not-false}
use Rattle.length.specs.Refusals.{ends_early, not_assigned}
use Rattle.length.specs.Answers.{done}
use Rattle.length.specs.Promise.{RefusalPlaced}
use Rattle.length.specs.declared.Refusal.{Refusal}
use Rattle.format.specs.Places.{Place, bits_at}
use Rattle.packet.specs.Edition.{added_width}
use Rattle.packet.specs.declared.types.Enumerated.{Enumerated}
use Rattle.packet_laws.specs.Octets.{Narrow, root_at, added_at, value_at, plain_width}
use Rattle.packet_laws.proofs.Laws.{plain_at}
use Rattle.packet_reader.specs.Items.{BitTold, BitsTold, PlainTold, RootTold, AddedTold, ValueTold}

module _ {e : Enumerated} {item : ℕ} {s : List ℕ} {p : Place} where
  -- ---- one of those before the extension mark
  pub root-short : {r : Refusal} → RefusalPlaced ends_early item r → 8 * length s < p + e.width → RootTold e item s p (Err r)
  unfolding root_at
  root-short made short = record { answer = rw (made.answer, lt-ltb (8 * length s) (p + e.width) short) }

  module _ {v : ℕ} (inside : p + e.width ≤ 8 * length s) (is : BitsTold e.width s p v) where
    pub root-read : v < e.assigned → RootTold e item s p (Ok (v, p + e.width))
    unfolding root_at
    root-read known =
        record { answer = rw (le-ltb (8 * length s) (p + e.width) inside, ← is.answer, lt-ltb v e.assigned known) }

    pub root_over : {r : Refusal} → RefusalPlaced not_assigned item r → e.assigned ≤ v → RootTold e item s p (Err r)
    unfolding root_at
    root_over made over =
        record { answer = rw (made.answer, le-ltb (8 * length s) (p + e.width) inside, ← is.answer, le-ltb v e.assigned over) }

  -- ---- one of those added after it
  pub added_none : {r : Refusal} → RefusalPlaced not_assigned item r → e.added < 1 → AddedTold e item s p (Err r)
  unfolding added_at
  added_none made none = record { answer = rw (made.answer, lt-ltb e.added 1 none) }

  module _ {b : Bool} (some : 1 ≤ e.added) (bit : BitTold s p b) where
    pub added-one : {r : Refusal} → RefusalPlaced not_assigned item r → b ≡ true → AddedTold e item s p (Err r)
    unfolding added_at
    added-one made set = record { answer = rw (made.answer, le-ltb e.added 1 some, sym bit.answer ∙ set) }

    pub added-short : {r : Refusal} → b ≡ false → RefusalPlaced ends_early item r → 8 * length s < p + 1 + added_width
        → AddedTold e item s p (Err r)
    unfolding added_at
    added-short clear made short =
        record {
          answer =
              rw (
                made.answer,
                le-ltb e.added 1 some,
                sym bit.answer ∙ clear,
                lt-ltb (8 * length s) (p + 1 + added_width) short,
              );
        }

    module _ {v : ℕ} (clear : b ≡ false) (inside : p + 1 + added_width ≤ 8 * length s) (is : BitsTold added_width s (p + 1) v) where
      pub added-read : v < e.added → AddedTold e item s p (Ok (e.assigned + v, p + 1 + added_width))
      unfolding added_at
      added-read known =
          record {
            answer =
                rw (
                  le-ltb e.added 1 some,
                  sym bit.answer ∙ clear,
                  le-ltb (8 * length s) (p + 1 + added_width) inside,
                  ← is.answer,
                  lt-ltb v e.added known,
                );
          }

      pub added-over : {r : Refusal} → RefusalPlaced not_assigned item r → e.added ≤ v → AddedTold e item s p (Err r)
      unfolding added_at
      added-over made over =
          record {
            answer =
                rw (
                  made.answer,
                  le-ltb e.added 1 some,
                  sym bit.answer ∙ clear,
                  le-ltb (8 * length s) (p + 1 + added_width) inside,
                  ← is.answer,
                  le-ltb v e.added over,
                );
          }

  -- ---- either
  module _ {r : Result (ℕ × ℕ) Refusal} where
    pub value-plain : not e.extensible ≡ true → RootTold e item s p r → ValueTold e item s p r
    unfolding value_at
    value-plain plain read = record { answer = read.answer ∙ sym (rw (not-true e.extensible plain)) }

    module _ {b : Bool} (marked : not e.extensible ≡ false) (bit : BitTold s p b) where
      pub value-root : b ≡ false → RootTold e item s (p + 1) r → ValueTold e item s p r
      unfolding value_at
      value-root clear read = record { answer = read.answer ∙ sym (rw (not-false e.extensible marked, sym bit.answer ∙ clear)) }

      pub value-added : b ≡ true → AddedTold e item s (p + 1) r → ValueTold e item s p r
      unfolding value_at
      value-added set read = record { answer = read.answer ∙ sym (rw (not-false e.extensible marked, sym bit.answer ∙ set)) }

pub ruleset values =
    (root-short, root-read, root_over, added_none, added-one, added-short, added-read, added-over, value-plain, value-root, value-added)

-- ---- at once
module _ {e : Enumerated} (narrow : Narrow e) where
  pub plain-marked : e.extensible ≡ true → PlainTold e (e.width + 1)
  plain-marked marked = record { narrow = narrow; few = omega (arith, narrow.few); answer = rw marked }

  pub plain-unmarked : e.extensible ≡ false → PlainTold e e.width
  plain-unmarked plain = record { narrow = narrow; few = omega (arith, narrow.few); answer = rw plain }

pub ruleset plains = (plain-marked, plain-unmarked)

pub value-whole : (e : Enumerated) (w item : ℕ) (s : List ℕ) (p : Place) (v : ℕ) → PlainTold e w → p + w ≤ 8 * length s
    → v ≡ bits_at w s p → v < e.assigned → value_at e item s p ≡ done (record { value = v; next = p + w })
value-whole e w item s p v is inside cut known =
    let here : p + plain_width e ≤ 8 * length s = rw is.answer at inside in
    let was : v ≡ bits_at (plain_width e) s p = cut ∙ ap (λ (k : ℕ). bits_at k s p) is.answer in
    let low : bits_at (plain_width e) s p < e.assigned = rw was at known in
    plain_at e is.narrow item s p here low ∙ rw (was, is.answer)
