-- One law for each answer of the datagram reader's functions, in the words of the code: the tests that led there give the
-- promise. Assumes nothing.
use Rattle.std.proofs.Common.{Result, Ok, Err}
use Prim.Native.Nat.{ℕ, ◌+◌, ◌-◌, ◌%◌, ◌≤◌, ◌<◌}
use mathlib.Core.Path.{◌≡◌, sym, ap, ◌∙◌}
use mathlib.Core.Bool.{Bool, true, false}
use mathlib.Core.List.{List}
use lib.ListN.{length, get_or, take, drop, length-drop}
use lib.Seq.{take_all}
use native.Mathlib.Omega.{arith}
use borrow.Author.Tests.{lt-ltb, le-ltb, le-leb, lt-leb, eq-eqb, ne_eqb}
use Rattle.length.specs.Refusals.{further, ends_early, outside_sizes, spare_bit}
use Rattle.length.specs.Answers.{done, refused, read_from, length_outcome, refusal_of}
use Rattle.length.specs.Length.{within, length_within}
use Rattle.length.specs.Promise.{WithinRead, Octet, RefusalPlaced, RefusalTold}
use Rattle.length.specs.declared.Refusal.{Refusal}
use Rattle.length.specs.declared.Length.{Length}
use Rattle.length.proofs.Laws.{from_front, allowed-met, allowed-not, within-front}
use Rattle.datagram.specs.Sizes.{spares_least, spares_limit, covered_least, covered_limit, messages_least, messages_limit}
use Rattle.datagram.specs.Read.{length_from, octet_at, item_at, spares_at, parity_at, extra_at}
use Rattle.datagram_reader.specs.Pieces.{OctetRead, LengthTold, ItemRead, SparesRead, ParityRead, ExtraRead}
use Rattle.datagram.specs.declared.reader.Part.{Part}
use Rattle.datagram_reader.specs.declared.reader.Extra.{Extra}
use Rattle.datagram.specs.declared.kind.Kind.TheVariants as kind
use Rattle.datagram.proofs.Laws.{octet-done, within-ends, item-done}

-- ---- octets and lengths

module _ {least most : ℕ} {s : List ℕ} {at : ℕ} where
  pub octet-missing : {r : Refusal} → RefusalPlaced ends_early at r → length s ≤ at → OctetRead least most s at (Err r)
  unfolding octet_at
  octet-missing made short = record { answer = rw (made.answer, le-leb (length s) at short) (sym (from_front at ends_early)) }

  module _ {v : ℕ} {b : Bool} (octet : Octet (get_or s at 0) v) (some : at < length s) (test : b ≡ within least most v) where
    pub octet-read : b ≡ true → OctetRead least most s at (Ok (record { value = v; size = 1 }))
    unfolding octet_at
    octet-read met =
        let e = allowed-met least most (record { value = v; size = 1 }) (sym test ∙ met) in
        record { answer = rw (lt-leb (length s) at some, ← octet.same, e) }

    pub octet-outside : {r : Refusal} → b ≡ false → RefusalPlaced outside_sizes at r → OctetRead least most s at (Err r)
    unfolding octet_at
    octet-outside out made =
        let e = allowed-not least most (record { value = v; size = 1 }) (sym test ∙ out) in
        record { answer = rw (made.answer, lt-leb (length s) at some, ← octet.same, e) (sym (from_front at outside_sizes)) }

pub ruleset octets = (octet-missing, octet-read, octet-outside)

-- the length reader's refusals are at the front of what it is lent
pub read-front : {least most : ℕ} {s : List ℕ} {found : Result Length Refusal} {why : Refusal} → WithinRead least most s found
    → found ≡ Err why → why.place ≡ 0
read-front {least} {most} {s} {why = why} read is = (within-front least most s).front why (sym read.answer ∙ ap length_outcome is)

-- what a refused length says is its refusal
told-whole : {found : Result Length Refusal} {why told : Refusal} → found ≡ Err why → RefusalTold found told → told ≡ why
told-whole is told = told.answer ∙ ap refusal_of is

pub told-front : {least most : ℕ} {s : List ℕ} {found : Result Length Refusal} {why told : Refusal} → WithinRead least most s found
    → found ≡ Err why → RefusalTold found told → told.place ≡ 0
told-front read is told = ap (λ (x : Refusal). x.place) (told-whole is told) ∙ read-front read is

-- and that is the rest from a place on
left-read : {least most : ℕ} (s : List ℕ) (at : ℕ) {found : Result Length Refusal} → WithinRead least most (take (length s - at) (drop at s)) found
    → length_outcome found ≡ length_within least most (drop at s)
left-read {least} {most} s at read =
    let rest : take (length s - at) (drop at s) ≡ drop at s = take_all (length s - at) (drop at s) (omega (arith, length-drop at s)) in
    read.answer ∙ ap (length_within least most) rest

module _ {least most : ℕ} {s : List ℕ} {at : ℕ} {found : Result Length Refusal} (read : WithinRead least most (take (length s - at) (drop at s)) found)
  where
    pub length-read : {l : Length} → found ≡ Ok l → LengthTold least most s at (Ok l)
    length-read is = record { answer = ap (read_from at) (sym (ap length_outcome is) ∙ left-read s at read) }

    pub length-placed : {why told r : Refusal} → found ≡ Err why → RefusalTold found told → r ≡ further at told → LengthTold least most s at (Err r)
    length-placed is told passed =
        let moved = passed ∙ ap (further at) (told-whole is told) in
        record { answer = ap (λ (r : Refusal). refused r) moved ∙ ap (read_from at) (sym (ap length_outcome is) ∙ left-read s at read) }

pub ruleset rests = (length-read, length-placed)

module _ {least most : ℕ} {s : List ℕ} {at : ℕ} {found : Result Length Refusal} (read : LengthTold least most s at found) where
  length-refused : {why : Refusal} → found ≡ Err why → refused why ≡ length_from least most s at
  length-refused is = rw is at read.answer

  length_found : {l : Length} → found ≡ Ok l → done (record { value = l.value; size = l.size }) ≡ length_from least most s at
  length_found is = rw is at read.answer

  -- one that was found ends within the octets
  pub length-ends : {l : Length} → found ≡ Ok l → at ≤ length s → at + l.size ≤ length s
  length-ends {l} is inside = within-ends least most s at (record { value = l.value; size = l.size }) (sym (length_found is)) inside

-- ---- items

module _ {least most : ℕ} {s : List ℕ} {at : ℕ} {found : Result Length Refusal} (read : LengthTold least most s at found) where
  module _ {l : Length} (is : found ≡ Ok l) where
    pub item-cut : {r : Refusal} → RefusalPlaced ends_early (at + l.size) r → length s - (at + l.size) < l.value
        → ItemRead least most s at (Err r)
    unfolding item_at
    item-cut made short =
        let e = length_found read is in
        record { answer = rw (made.answer, ← e, lt-ltb (length s - (at + l.size)) l.value short) }

    pub item-read : l.value ≤ length s - (at + l.size)
        → ItemRead least most s at (Ok (record { start = at + l.size; size = l.value }))
    unfolding item_at
    item-read room =
        let e = length_found read is in
        record { answer = rw (← e, le-ltb (length s - (at + l.size)) l.value room) }

pub ruleset itemings = (item-cut, item-read)

-- an item that was found ends within the octets
pub item-ends : {least most : ℕ} {s : List ℕ} {at : ℕ} {r : Result Part Refusal} {p : Part} → ItemRead least most s at r → r ≡ Ok p
    → at ≤ length s → p.start + p.size ≤ length s
item-ends {least} {most} {s} {at} {r} {p} read is inside =
    let e : done p ≡ item_at least most s at = rw is at read.answer in
    (item-done least most s at p (sym e)).inside inside

-- ---- what follows the newest packet

-- an octet that was found lies within the octets
pub octet-ends : {least most : ℕ} {s : List ℕ} {at : ℕ} {l : Length} {found : Result Length Refusal} → OctetRead least most s at found
    → found ≡ Ok l → at < length s
octet-ends {least} {most} {s} {at} {l} read is =
    let e : done (record { value = l.value; size = l.size }) ≡ octet_at least most s at = rw is at read.answer in
    (octet-done least most s at (record { value = l.value; size = l.size }) (sym e)).inside

module _ {s : List ℕ} {at : ℕ} where
  pub extra-missing : {r : Refusal} → RefusalPlaced ends_early at r → length s ≤ at → ExtraRead s at (Err r)
  unfolding extra_at
  extra-missing made short = record { answer = rw (made.answer, le-leb (length s) at short) }

  module _ {choice : ℕ} (octet : Octet (get_or s at 0) choice) (some : at < length s) where
    pub extra-bit : {r : Refusal} → RefusalPlaced spare_bit at r → (choice % 128 ≡ 0 → ⊥) → ExtraRead s at (Err r)
    unfolding extra_at
    extra-bit made bit =
        record { answer = rw (made.answer, lt-leb (length s) at some, ← octet.same, ne_eqb (choice % 128) 0 bit) }

    module _ {r : Result Extra Refusal} (clear : choice % 128 ≡ 0) where
      pub extra-spares : choice < 128 → SparesRead s (at + 1) r → ExtraRead s at r
      unfolding extra_at
      extra-spares low read =
          record {
            answer = read.answer ∙ rw (
              lt-leb (length s) at some,
              ← octet.same,
              eq-eqb (choice % 128) 0 clear,
              lt-ltb choice 128 low,
            );
          }

      pub extra-parity : 128 ≤ choice → ParityRead s (at + 1) r → ExtraRead s at r
      unfolding extra_at
      extra-parity high read =
          record {
            answer = read.answer ∙ rw (
              lt-leb (length s) at some,
              ← octet.same,
              eq-eqb (choice % 128) 0 clear,
              le-ltb choice 128 high,
            );
          }

pub ruleset choices = (extra-missing, extra-bit, extra-spares, extra-parity)
