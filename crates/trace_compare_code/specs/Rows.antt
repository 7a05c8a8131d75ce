-- What is listed for two datagrams of one number, from what is found in their octets (rules 22.5 to 22.9). Definitions only.
use Rattle.std.specs.Prelude.{ℕ, ◌-◌, ◌≤◌, ◌≡◌, Bool, true, false, cond, not, ◌&&◌, ◌||◌, List, [], ◌∷◌, ◌++◌, length, take, drop}
use Rattle.length.specs.Answers.{Answer, done, refused}
use Rattle.datagram.specs.Carried.{Extra, spares, parity, Carried}
use Rattle.datagram.specs.Write.{extra_octets}
use Rattle.datagram.specs.declared.kind.Kind.{Kind}
use Rattle.datagram.specs.declared.kind.Kind.TheVariants as kind
use Rattle.trace_compare.specs.Entries.{numbers_of, packet_differs, spares_differ, parity_differs, differences, given, entries_of}
use Rattle.trace_compare.specs.Traces.{datagram_of}
use Rattle.trace_compare_code.specs.declared.differing.Shape.{Shape}

-- how many 16-bit numbers an entry takes (rule 22.2), and how many the entries of one line of the first trace take at most
abbrev pub entry_room : ℕ
entry_room = 2

abbrev pub line_room : ℕ
line_room = 6

abbrev pub is_spares : Kind → Bool
is_spares kind.Spares = true
is_spares (kind.Parity n) = false

abbrev pub has_spares : Extra → Bool
has_spares (spares items) = true
has_spares (parity n items) = false

-- where the packet of a datagram begins and ends, and what follows it
pub record Shaped (octets : List ℕ) (a : Carried) (r : Shape) : Type 0 where
  pub packet : take (r.end - r.start) (drop r.start octets) ≡ a.packet
  pub behind : drop r.end octets ≡ extra_octets a.extra
  pub spares : r.spares ≡ has_spares a.extra

pub record ShapeOf (octets : List ℕ) (r : Shape) : Type 0 where
  pub low : r.start ≤ r.end
  pub high : r.end ≤ length octets
  pub shaped : (a : Carried) → datagram_of octets ≡ done a → Shaped octets a r

-- an entry in the list, if it applies
unfoldable pub row_numbers : Bool → ℕ → ℕ → List ℕ
row_numbers applies number code = cond applies (number ∷ code ∷ []) []

-- the entries of two datagrams, from what was found equal and whether they have spares (rules 22.8 and 22.9)
unfoldable pub rows_told : ℕ → Bool → Bool → Bool → Bool → List ℕ
rows_told number packets extras first second =
    (row_numbers (not packets) number packet_differs ++ row_numbers (not extras && (first || second)) number spares_differ)
    ++ row_numbers (not extras && not (first && second)) number parity_differs

-- all that two datagrams differ in
unfoldable pub difference_numbers : ℕ → Answer Carried → Answer Carried → List ℕ
difference_numbers number (done a) (done b) = numbers_of (entries_of number (given (differences a b)))
difference_numbers number (done a) (refused why) = []
difference_numbers number (refused why) b = []
