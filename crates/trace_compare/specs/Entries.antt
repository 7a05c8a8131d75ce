-- The entries that a comparison lists, and their order (rules 22.1 to 22.9 and 22.12). Lines pair as `Pairing` defines. Definitions only.
use Rattle.std.specs.Prelude.{ℕ, Bool, true, false, not, ◌&&◌, List, [], ◌∷◌, ◌++◌, map, eqb}
use Rattle.std.proofs.Math.Option.{Option, none, some}
use Rattle.length.specs.Tables.{when}
use Rattle.datagram.specs.Carried.{Extra, spares, parity, Carried}
use Rattle.trace_compare.specs.Pairing.{TraceLine, number_of_line, mate}

-- ---- the codes of an entry (rules 22.3 to 22.7)

abbrev pub only_first : ℕ
only_first = 1

abbrev pub only_second : ℕ
only_second = 2

abbrev pub packet_differs : ℕ
packet_differs = 3

abbrev pub spares_differ : ℕ
spares_differ = 4

abbrev pub parity_differs : ℕ
parity_differs = 5

-- an entry is a datagram's number and a code (rule 22.2)
pub record Entry : Type 0 where
  pub number : ℕ
  pub code : ℕ

-- the entries as 16-bit numbers in the caller's list (rule 22.2)
unfoldable pub numbers_of : List Entry → List ℕ
numbers_of [] = []
numbers_of (e ∷ entries) = e.number ∷ e.code ∷ numbers_of entries

-- ---- the differences of two datagrams of one number

-- whether two runs of octets are equal
unfoldable pub same : List ℕ → List ℕ → Bool
same [] [] = true
same [] (b ∷ second) = false
same (a ∷ first) [] = false
same (a ∷ first) (b ∷ second) = eqb a b && same first second

-- whether two lists of spares or messages are equal, item by item
unfoldable pub same_each : List (List ℕ) → List (List ℕ) → Bool
same_each [] [] = true
same_each [] (b ∷ second) = false
same_each (a ∷ first) [] = false
same_each (a ∷ first) (b ∷ second) = same a b && same_each first second

-- spares against parity are 4 and 5 (rule 22.9); two datagrams with parity do not differ in their spares (rule 22.6)
abbrev pub spares_apart : Extra → Extra → Bool
spares_apart (spares first) (spares second) = not (same_each first second)
spares_apart (spares first) (parity m second) = true
spares_apart (parity n first) (spares second) = true
spares_apart (parity n first) (parity m second) = false

-- parity differs in n or in the messages (rule 22.7); two datagrams with spares do not differ in their parity
abbrev pub parity_apart : Extra → Extra → Bool
parity_apart (spares first) (spares second) = false
parity_apart (spares first) (parity m second) = true
parity_apart (parity n first) (spares second) = true
parity_apart (parity n first) (parity m second) = not (eqb n m && same_each first second)

-- each code that applies, in order (rule 22.8)
abbrev pub differences : Carried → Carried → List (Option ℕ)
differences a b =
    when (not (same a.packet b.packet)) packet_differs
    ∷ when (spares_apart a.extra b.extra) spares_differ
    ∷ when (parity_apart a.extra b.extra) parity_differs
    ∷ []

-- the codes that apply
unfoldable pub given : List (Option ℕ) → List ℕ
given [] = []
given (none ∷ rows) = given rows
given (some code ∷ rows) = code ∷ given rows

-- ---- the list

-- the entries of one number
abbrev pub entries_of : ℕ → List ℕ → List Entry
entries_of number codes = map (λ (code : ℕ). record { number = number; code = code }) codes

-- what is listed for a line of the first trace and its partner, if it has one (rules 22.3 and 22.5 to 22.7)
abbrev pub at_first : TraceLine → Option TraceLine → List Entry
at_first l none = entries_of (number_of_line l) (only_first ∷ [])
at_first l (some m) = entries_of (number_of_line l) (given (differences l.datagram m.datagram))

-- what is listed for a line of the second trace: nothing if it pairs, since its pair is listed with the first (rule 22.4)
abbrev pub at_second : TraceLine → Option TraceLine → List Entry
at_second m none = entries_of (number_of_line m) (only_second ∷ [])
at_second m (some l) = []

-- the entries for the lines of one trace in order, where `before` has the lines already passed and `other` is the other trace
unfoldable pub line_by_line : (TraceLine → Option TraceLine → List Entry) → List TraceLine → List TraceLine → List TraceLine → List Entry
line_by_line at before [] other = []
line_by_line at before (l ∷ lines) other = at l (mate before l other) ++ line_by_line at (before ++ (l ∷ [])) lines other

-- in order of the first trace's lines; lines only in the second trace come last, in its order (rules 22.1 and 22.12)
unfoldable pub entries : List TraceLine → List TraceLine → List Entry
entries first second = line_by_line at_first [] first second ++ line_by_line at_second [] second first
