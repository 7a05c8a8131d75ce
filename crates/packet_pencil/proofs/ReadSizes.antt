-- One law for each answer of the functions that take a length by the length rule, a count, or the octet at a place, in the words of the
-- code. Assumes nothing.
use Rattle.std.proofs.Common.{Result, Ok, Err}
use Prim.Native.Nat.{ℕ, ◌+◌, ◌-◌, ◌*◌, ◌/◌, ◌%◌, ◌≤◌, ◌<◌}
use mathlib.Core.Path.{◌≡◌, refl, sym, ap, ◌∙◌}
use mathlib.Core.Bool.{Bool, true, false}
use mathlib.Core.List.{List}
use lib.ListN.{length, drop, length-drop, drop_of_length-le}
use native.Mathlib.Omega.{arith}
use borrow.Author.Tests.{le-leb, lt-leb}
use Rattle.length.specs.Refusals.{bad_form, outside_sizes}
use Rattle.length.specs.Answers.{Answer, done, refused, LengthAnswer}
use Rattle.length.specs.Length.{within, length_within}
use Rattle.length.specs.Claims.{Octets}
use Rattle.length.specs.Promise.{RefusalPlaced}
use Rattle.length.specs.declared.Refusal.{Refusal}
use Rattle.format.specs.Reading.{Finding, found, stopped, and_then, found_from}
use Rattle.format.specs.Reading as reading
use Rattle.format.specs.Places.{Place}
use Rattle.format.specs.Format.{length_found}
use Rattle.packet.specs.Packet.{fields_least, fields_limit}
use Rattle.packet.specs.Packet as description
use Rattle.packet_pencil.specs.Bits.{finding, BitsTaken, FlagTaken, EdgeTaken}
use Rattle.packet_pencil.specs.Items.{OctetTaken, long_bits, length_bits, LongTaken, LengthTaken, CountTaken}
use Rattle.packet_pencil.proofs.ByBits.{length_from, length-bits, kept, within-from}

-- ---- the octet at a place
module _ {s : List ℕ} {p : Place} where
  pub octet-past : length s < p / 8 → OctetTaken s p (length s)
  octet-past past =
      record {
        inside = omega arith;
        rest = drop_of_length-le s {i = length s} (omega arith) ∙ sym (drop_of_length-le s {i = p / 8} (omega arith));
      }

  pub octet-here : p / 8 ≤ length s → OctetTaken s p (p / 8)
  octet-here inside = record { inside = inside; rest = refl }

  -- where octets are left, it is that octet
  pub octet-is : {from : ℕ} → OctetTaken s p from → from < length s → from ≡ p / 8
  octet-is {from} octet some = omega (arith, ap length octet.rest, length-drop from s, length-drop (p / 8) s)

pub ruleset octets = (octet-past, octet-here)

-- ---- a length by the length rule
module _ {s : List ℕ} {i : ℕ} {p : Place} {m : Result (Bool × ℕ) Refusal} (told : FlagTaken s i p m) where
  pub long-flag : {x : Refusal} → m ≡ Err x → LongTaken s i p (Err x)
  unfolding long_bits
  long-flag is = record { answer = rw (told.answer, is) }

  pub length-flag : {x : Refusal} → m ≡ Err x → LengthTaken s i p (Err x)
  unfolding length_bits
  length-flag is = record { answer = rw (told.answer, is) }

  module _ {b : Bool} {q : ℕ} (is : m ≡ Ok (b, q)) where
    pub long-longer : {x : Refusal} → b ≡ true → RefusalPlaced bad_form i x → LongTaken s i p (Err x)
    unfolding long_bits
    long-longer set made = record { answer = rw (told.answer, is, set, made.answer) }

    pub length-long : {r : Result (ℕ × ℕ) Refusal} → b ≡ true → LongTaken s i q r → LengthTaken s i p r
    unfolding length_bits
    length-long set long = record { answer = rw (told.answer, is, set) long.answer }

    pub length-short : {r : Result (ℕ × ℕ) Refusal} → b ≡ false → BitsTaken 7 s i q r → LengthTaken s i p r
    unfolding length_bits
    length-short clear bits = record { answer = rw (told.answer, is, clear) bits.answer }

    module _ {n : Result (ℕ × ℕ) Refusal} (clear : b ≡ false) (bits : BitsTaken 14 s i q n) where
      pub long-bits : {x : Refusal} → n ≡ Err x → LongTaken s i p (Err x)
      unfolding long_bits
      long-bits why = record { answer = rw (told.answer, is, clear, bits.answer, why) }

      pub long-low : {v z : ℕ} {x : Refusal} → n ≡ Ok (v, z) → v < 128 → RefusalPlaced bad_form i x → LongTaken s i p (Err x)
      unfolding long_bits
      long-low {v} value few made =
          record { answer = rw (told.answer, is, clear, bits.answer, value, lt-leb 128 v few, made.answer) }

      pub long-found : {v z : ℕ} → n ≡ Ok (v, z) → 128 ≤ v → LongTaken s i p (Ok (v, z))
      unfolding long_bits
      long-found {v} value many = record { answer = rw (told.answer, is, clear, bits.answer, value, le-leb 128 v many) }

pub ruleset longs = (long-flag, long-longer, long-bits, long-low, long-found)

pub ruleset lengths = (length-flag, length-long, length-short)

-- ---- the count of fields
counted : (q : ℕ) (x : Answer LengthAnswer)
    → and_then (found_from (q / 8) (length_found x)) (λ a n. found a (8 * n + q)) ≡ length_from q x
counted q (done l) = refl
counted q (refused r) = refl

module _ {s : List ℕ} {p : Place} {e : Result ℕ Refusal} (told : EdgeTaken s p e) where
  pub count-edge : {r : Refusal} → e ≡ Err r → CountTaken s p (Err r)
  unfolding description.count
  count-edge is = record { answer = λ i. rw (told.answer i, is); small = tt }

  module _ {q : ℕ} {r : Result (ℕ × ℕ) Refusal} (octets : Octets s) (is : e ≡ Ok q) (read : LengthTaken s (q / 8) q r) where
    count-is : (i : ℕ) → (description.count).read s i p ≡ kept (q / 8) (within fields_least fields_limit) (finding r)
    unfolding description.count reading.octetwise
    count-is i =
        let on : q % 8 ≡ 0 = rw is at told.on in
        rw (told.answer i, is)
        (counted q (length_within fields_least fields_limit (drop (q / 8) s)) ∙ within-from fields_least fields_limit q (drop (q / 8) s)
        ∙ ap (kept (q / 8) (within fields_least fields_limit)) (sym (length-bits s q octets on) ∙ read.answer))

    pub count-refused : {x : Refusal} → r ≡ Err x → CountTaken s p (Err x)
    count-refused why =
        record {
          answer = λ i. count-is i ∙ ap (λ (n : Result (ℕ × ℕ) Refusal). kept (q / 8) (within fields_least fields_limit) (finding n)) why;
          small = tt;
        }

    module _ {v z : ℕ} (value : r ≡ Ok (v, z)) where
      count_of : (i : ℕ) → (description.count).read s i p ≡ kept (q / 8) (within fields_least fields_limit) (found v z)
      count_of i = count-is i ∙ ap (λ (n : Result (ℕ × ℕ) Refusal). kept (q / 8) (within fields_least fields_limit) (finding n)) value

      pub count_low : {x : Refusal} → v < fields_least → RefusalPlaced outside_sizes (q / 8) x → CountTaken s p (Err x)
      count_low few made = record { answer = λ i. count_of i ∙ rw (lt-leb fields_least v few, made.answer); small = tt }

      module _ (some : fields_least ≤ v) where
        pub count-high : {x : Refusal} → fields_limit < v → RefusalPlaced outside_sizes (q / 8) x → CountTaken s p (Err x)
        count-high over made =
            record {
              answer = λ i. count_of i ∙ rw (le-leb fields_least v some, lt-leb v fields_limit over, made.answer);
              small = tt;
            }

        pub count-found : v ≤ fields_limit → CountTaken s p (Ok (v, z))
        count-found few =
            record {
              answer = λ i. count_of i ∙ rw (le-leb fields_least v some, le-leb v fields_limit few);
              small = omega arith;
            }
