-- What the datagram reader refuses, and with which number (rule 4.15), stated without reading the octets in order. The octets are right
-- up to the first wrong item; what is wrong with that item decides the number, and where it begins is the place (rule 2.27). `is_datagram`
-- of Demand1 says that a datagram of these items is what the datagram writer writes. Statements only.
use Rattle.std.specs.Prelude.{ℕ, ◌%◌, ◌≤◌, ◌<◌, ◌≡◌, ◌↔◌, ◌⊎◌, List, [], ◌∷◌, ◌++◌, length, Result}
use Rattle.std.proofs.Math.Option.{Option, none, some}
use Rattle.length.specs.Refusals.{ends_early, too_long, bad_form, outside_sizes, spare_bit, left_over}
use Rattle.length.specs.Answers.{refused}
use Rattle.length.specs.declared.Refusal.{Refusal}
use Rattle.length.specs.Length.{length_octets, length_limit, of_two}
use Rattle.length.specs.Claims.{Octets}
use Rattle.datagram.specs.Sizes.{datagram_limit}
use Rattle.datagram.specs.Promise.{DatagramReads, read_outcome}
use Rattle.datagram.specs.declared.reader.DatagramRead.{DatagramRead}
use Rattle.length.specs.Tables.{refusal_in}
use Rattle.length.specs.declared.Reason.{Reason}
use Rattle.demands.specs.Demand1.DatagramItems.{Item, Form, many, sized, plain, flag, nothing, form_of, form_due, Due, WholeDatagram}

-- ---- the first wrong item

-- an item of this form is due, these octets come instead, and they are refused for this reason
pub data Wrong : Form → List ℕ → Reason → Type 0 where
  -- 1: the input ends inside an item or before one that must come; an empty input too (rules 2.1 and 3.5)
  few_octets : {n : ℕ} {rest : List ℕ} → length rest < n → Wrong (many n) rest ends_early
  no_size : {least most : ℕ} → Wrong (sized least most) [] ends_early
  cut_size : {least most first : ℕ} → 0x80 ≤ first → first < 0xC0 → Wrong (sized least most) (first ∷ []) ends_early
  no_octet : {least most : ℕ} → Wrong (plain least most) [] ends_early
  no_flag : Wrong flag [] ends_early
  -- 3: a first octet of `C0` or more, or two octets for less than 128 (rules 3.3 and 3.4)
  high_size : {least most first : ℕ} {rest : List ℕ} → 0xC0 ≤ first → Wrong (sized least most) (first ∷ rest) bad_form
  long_size : {least most second : ℕ} {rest : List ℕ} → second < 0x80 → Wrong (sized least most) (0x80 ∷ second ∷ rest) bad_form
  -- 4: a length, a count, n or m is outside the sizes, or the octet before n is not `01` (rules 4.8 to 4.10)
  other_size : {least most value : ℕ} (rest : List ℕ) → (value < least) ⊎ (most < value) → value ≤ length_limit
      → Wrong (sized least most) (length_octets value ++ rest) outside_sizes
  other_octet : {least most value : ℕ} {rest : List ℕ} → (value < least) ⊎ (most < value)
      → Wrong (plain least most) (value ∷ rest) outside_sizes
  -- 5: one of the low seven bits of the octet `00` or `80` is set (rule 4.3)
  low_bits : {first : ℕ} {rest : List ℕ} → 0 < first % 0x80 → Wrong flag (first ∷ rest) spare_bit
  -- 6: octets are left over (rule 4.7)
  more_octets : {first : ℕ} {rest : List ℕ} → Wrong nothing (first ∷ rest) left_over

-- right items, then one that is refused for this reason
pub record FirstWrong (octets : List ℕ) (n : Reason) : Type 0 where
  pub before : List ℕ
  pub rest : List ℕ
  pub items : List Item
  pub is : octets ≡ before ++ rest
  pub due : Due before items
  pub wrong : Wrong (form_due items) rest n

-- ---- datagrams with too many or too few octets

-- a datagram with octets behind it
pub record Followed (octets : List ℕ) : Type 0 where
  pub datagram : List ℕ
  pub first : ℕ
  pub rest : List ℕ
  pub is : octets ≡ datagram ++ (first ∷ rest)
  pub whole : WholeDatagram datagram

-- a front of a datagram: more octets would make it whole
pub record Front (input : List ℕ) : Type 0 where
  pub first : ℕ
  pub rest : List ℕ
  pub octets : Octets (first ∷ rest)
  pub whole : WholeDatagram (input ++ (first ∷ rest))

-- right items, then only the first of the two octets of a length or count, which no second octet would bring within its sizes
pub record CutOver (octets : List ℕ) : Type 0 where
  pub before : List ℕ
  pub first : ℕ
  pub item : Item
  pub later : List Item
  pub least : ℕ
  pub most : ℕ
  pub is : octets ≡ before ++ (first ∷ [])
  pub due : Due before (item ∷ later)
  pub form : form_of item ≡ sized least most
  pub of_two_octets : (0x80 ≤ first) × (first < 0xC0)
  pub over : (second : ℕ) → 0x80 ≤ of_two first second → most < of_two first second

-- ---- the datagram reader

-- its refusal of these octets
pub record RefusalOf (octets : List ℕ) (answer : Option Reason) : Type 0 where
  -- 2 exactly if they are over the limit (rule 2.2)
  pub over : (answer ≡ some too_long) ↔ (datagram_limit < length octets)
  -- not refused exactly if they are a datagram
  pub whole : (answer ≡ none) ↔ WholeDatagram octets
  -- 1, 3, 4, 5 or 6 exactly if that is the reason of the first wrong item (rule 4.15)
  pub first_wrong : (n : Reason) → length octets ≤ datagram_limit → (answer ≡ some n) ↔ FirstWrong octets n
  -- 6 exactly if they are a datagram with octets behind it (rule 4.7)
  pub followed : length octets ≤ datagram_limit → (answer ≡ some left_over) ↔ Followed octets
  -- 1 exactly if they are a front of a datagram, or end inside a length or count that no second octet would bring within its sizes (rules
  -- 2.1 and 3.6)
  pub cut : (answer ≡ some ends_early) ↔ (Front octets ⊎ CutOver octets)

-- its place: the octet at which the refused item begins, from the start of the datagram (rule 2.27)
pub record PlacedIn (octets : List ℕ) (why : Refusal) : Type 0 where
  -- 2 is not met in reading order, so its place is 0 (rule 2.30)
  pub over : datagram_limit < length octets → why.place ≡ 0
  -- the place is the count of octets before the first wrong item
  pub item : length octets ≤ datagram_limit → (w : FirstWrong octets why.reason) → why.place ≡ length w.before
  -- four hexadecimal digits are enough to write it (rule 18.6)
  pub few : why.place ≤ datagram_limit

-- some datagram begins with these octets
pub record BeginsDatagram (input : List ℕ) : Type 0 where
  pub more : List ℕ
  pub octets : Octets more
  pub whole : WholeDatagram (input ++ more)

pub record DatagramRefusals : Type 0 where
  pub refusal : {octets : List ℕ} {r : Result DatagramRead Refusal} → Octets octets → DatagramReads octets r
      → RefusalOf octets (refusal_in (read_outcome r))
  -- the place of the refused item; and some datagram begins with what is before it
  pub placed : {octets : List ℕ} {r : Result DatagramRead Refusal} {why : Refusal} → Octets octets → DatagramReads octets r
      → read_outcome r ≡ refused why → PlacedIn octets why
  pub begun : {octets : List ℕ} {n : Reason} (w : FirstWrong octets n) → BeginsDatagram w.before
  -- if octets are a datagram, every proper front of them is refused with 1
  pub front : (octets more : List ℕ) (first : ℕ) {r q : Result DatagramRead Refusal} → Octets (octets ++ (first ∷ more))
      → DatagramReads (octets ++ (first ∷ more)) q → refusal_in (read_outcome q) ≡ none
      → DatagramReads octets r → refusal_in (read_outcome r) ≡ some ends_early
  -- more octets can only help against 1: octets refused for another reason are also refused with any octets behind them, ..
  pub never : (octets more : List ℕ) {r q : Result DatagramRead Refusal} {n : Reason} → Octets (octets ++ more)
      → DatagramReads octets r → refusal_in (read_outcome r) ≡ some n → (n ≡ ends_early → ⊥)
      → DatagramReads (octets ++ more) q → refusal_in (read_outcome q) ≡ none → ⊥
  -- .. and for the same reason, if they are still within the limit
  pub stays : (octets more : List ℕ) {r q : Result DatagramRead Refusal} {n : Reason} → Octets (octets ++ more)
      → DatagramReads octets r → refusal_in (read_outcome r) ≡ some n → (n ≡ ends_early → ⊥) → length (octets ++ more) ≤ datagram_limit
      → DatagramReads (octets ++ more) q → refusal_in (read_outcome q) ≡ some n
  -- a front of a datagram never ends inside such a length or count; but some octets do, as with `BF` for the length of the newest packet
  pub not_both : {octets : List ℕ} → Front octets → CutOver octets → ⊥
  pub cut_bf : CutOver (0x00 ∷ 0x00 ∷ 0xBF ∷ [])
