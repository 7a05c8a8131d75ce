-- The claims of this crate about comparing two traces (rules 22.1 to 22.18), a field for each. Statements alone.
use Rattle.std.specs.Prelude.{ℕ, ◌+◌, ◌*◌, ◌≤◌, ◌<◌, ◌≡◌, ◌⊎◌, ◌↔◌, cond, ◌&&◌, length, drop, eqb, Result, Ok}
use mathlib.Core.List.{List, [], ◌∷◌, ◌++◌, map, Memᴰ as Among}
use Rattle.std.proofs.Math.Option.{some}
use Rattle.length.specs.Refusals.{refusal, too_many_lines, no_room}
use Rattle.length.specs.Answers.{done, refused}
use Rattle.length.specs.Claims.{Octets}
use Rattle.length.specs.declared.Refusal.{Refusal}
use Rattle.datagram.specs.Carried.{Carried}
use Rattle.line.specs.Lines.{lines_from}
use Rattle.trace_compare.specs.Pairing.{TraceLine, number_of_line, having, mate, Pair}
use Rattle.trace_compare.specs.Entries.{Entry, only_first, only_second, given, differences, entries_of, numbers_of, entries}
use Rattle.trace_compare.specs.Told.{told, stopped, no_place}
use Rattle.trace_compare.specs.Traces.{lines_limit, first_trace, second_trace, datagram_of, datagram_in, trace_read, comparison}
use Rattle.trace_compare.specs.Promise.{refused_at, Compares}
use Rattle.trace_compare.specs.Cases.{Cases}
use Rattle.trace_compare.specs.declared.TraceRefusal.{TraceRefusal}

-- ---- number by number

-- the entries of one number, in their order
unfoldable pub about : ℕ → List Entry → List Entry
about number [] = []
about number (e ∷ entries) = cond (eqb e.number number) (e ∷ about number entries) (about number entries)

-- the lines of one number side by side: what each pair differs in, then the lines without a partner (rules 22.3 to 22.10)
unfoldable pub side_by_side : List TraceLine → List TraceLine → List Entry
side_by_side [] [] = []
side_by_side [] (m ∷ second) = entries_of (number_of_line m) (only_second ∷ []) ++ side_by_side [] second
side_by_side (l ∷ first) [] = entries_of (number_of_line l) (only_first ∷ []) ++ side_by_side first []
side_by_side (l ∷ first) (m ∷ second) = entries_of (number_of_line l) (given (differences l.datagram m.datagram)) ++ side_by_side first second

-- the entries of one number depend on the lines of that number alone (rules 22.10 and 22.11)
abbrev pub ByNumber : Type 0
ByNumber = (first second : List TraceLine) (number : ℕ)
    → about number (entries first second) ≡ side_by_side (having number first) (having number second)

-- `mate` finds the line that pairs with a line (rule 22.10)
abbrev pub Mates : Type 0
Mates = (before after second : List TraceLine) (l m : TraceLine) → mate before l second ≡ some m → Pair (before ++ l ∷ after) second l m

-- ---- the list is empty exactly if the datagrams of paired lines are all equal and no line is left over (rule 22.17)

pub record AlikeTraces (first second : List TraceLine) : Type 0 where
  pub equal : (l m : TraceLine) → Pair first second l m → l.datagram ≡ m.datagram
  pub none_left : (number : ℕ) → length (having number first) ≡ length (having number second)

-- neither trace has over 512 lines (rule 1.15)
pub record Few (first second : List ℕ) : Type 0 where
  pub left : length (lines_from [] first) ≤ lines_limit
  pub right : length (lines_from [] second) ≤ lines_limit

-- both traces read without a refusal, and are alike
pub record TracesAlike (first second : List ℕ) : Type 0 where
  pub few : Few first second
  pub left : List TraceLine
  pub right : List TraceLine
  pub read_first : trace_read first_trace first ≡ told left
  pub read-second : trace_read second_trace second ≡ told right
  pub alike : AlikeTraces left right

pub record EmptyTraces : Type 0 where
  pub entries : (first second : List TraceLine) → (entries first second ≡ []) ↔ AlikeTraces first second
  -- the same of the call
  pub call : {first second old new : List ℕ} {r : Result ℕ TraceRefusal} → Compares first second old new r
      → (r ≡ Ok 0) ↔ TracesAlike first second

-- ---- comparing a trace with itself lists nothing (rule 22.17)
pub record Itself : Type 0 where
  pub entries : (lines : List TraceLine) → entries lines lines ≡ []
  pub call : {trace old new : List ℕ} {count : ℕ} → Compares trace trace old new (Ok count) → (count ≡ 0) × (new ≡ old)

-- ---- exchanging the traces exchanges 1 and 2 and changes nothing else but the order (rules 22.3 and 22.4)

-- 1 for 2 and 2 for 1
abbrev pub other_code : ℕ → ℕ
other_code code = cond (eqb code only_first) only_second (cond (eqb code only_second) only_first code)

abbrev pub exchanged : Entry → Entry
exchanged e = record { number = e.number; code = other_code e.code }

-- how often an entry is listed
unfoldable pub times : Entry → List Entry → ℕ
times e [] = 0
times e (x ∷ entries) = cond (eqb x.number e.number && eqb x.code e.code) 1 0 + times e entries

-- the entries of a comparison and of the comparison of the exchanged traces: each as often, with 1 and 2 exchanged
pub record Mirrored (listed mirrored : List Entry) : Type 0 where
  pub often : (e : Entry) → times (exchanged e) mirrored ≡ times e listed
  pub count : length mirrored ≡ length listed

-- entries at the front of the caller's list, the rest of which is unchanged (rule 2.26)
pub record ListedIn (old new : List ℕ) (count : ℕ) (listed : List Entry) : Type 0 where
  pub lent : new ≡ numbers_of listed ++ drop (length (numbers_of listed)) old
  pub counted : count ≡ length listed

pub record Exchange : Type 0 where
  -- the entries of one number keep their order
  pub number : (first second : List TraceLine) (number : ℕ)
      → about number (entries second first) ≡ map exchanged (about number (entries first second))
  pub entries : (first second : List TraceLine) → Mirrored (entries first second) (entries second first)
  -- the same of the calls, if both lists have room
  pub call : {first second old new other-old other-new : List ℕ} {count other : ℕ} → Compares first second old new (Ok count)
      → Compares second first other-old other-new (Ok other)
      → (listed : List Entry) × (mirrored : List Entry) × ListedIn old new count listed × ListedIn other-old other-new other mirrored
      × Mirrored listed mirrored

-- ---- two datagrams are equal exactly if their octets are equal (rule 22.18)
abbrev pub OctetForOctet : Type 0
OctetForOctet = (octets others : List ℕ) (a b : Carried) → Octets octets → Octets others → datagram_of octets ≡ done a
    → datagram_of others ≡ done b → (a ≡ b) ↔ (octets ≡ others)

-- ---- the call gives one of these four refusals, or else the entries (rule 22.16)

-- the line is empty or holds a datagram
abbrev pub Readable : List ℕ → Type 0
Readable line = (line ≡ []) ⊎ ((datagram : Carried) × (datagram_in line ≡ done datagram))

abbrev pub AllReadable : List (List ℕ) → Type 0
AllReadable lines = (line : List ℕ) → Among line lines → Readable line

-- the first line that neither is empty nor holds a datagram: how many lines precede it, and why it is refused
pub record FirstUnread (lines : List (List ℕ)) (count : ℕ) (why : Refusal) : Type 0 where
  pub before : List (List ℕ)
  pub line : List ℕ
  pub after : List (List ℕ)
  pub cut : lines ≡ before ++ line ∷ after
  pub counted : count ≡ length before
  pub readable : AllReadable before
  pub some : 1 ≤ length line
  pub refused : datagram_in line ≡ refused why

pub record ComparisonRefuses : Type 0 where
  -- 22 is given exactly if either trace has too many lines, whatever the lines hold (rule 22.14)
  pub too_many : (first second : List ℕ) → (comparison first second ≡ stopped (refusal too_many_lines) no_place)
      ↔ ((lines_limit < length (lines_from [] first)) ⊎ (lines_limit < length (lines_from [] second)))
  -- a reading refusal names trace and line, both from 1, and the first trace comes first (rule 22.15)
  pub first_unread : (first second : List ℕ) (count : ℕ) (why : Refusal) → Few first second → FirstUnread (lines_from [] first) count why
      → comparison first second ≡ stopped why (record { trace = first_trace; line = count + 1 })
  pub second_unread : (first second : List ℕ) (count : ℕ) (why : Refusal) → Few first second → AllReadable (lines_from [] first)
      → FirstUnread (lines_from [] second) count why
      → comparison first second ≡ stopped why (record { trace = second_trace; line = count + 1 })
  -- if neither trace has too many lines and every line reads, the comparison gives entries
  pub listed : (first second : List ℕ) → Few first second → AllReadable (lines_from [] first) → AllReadable (lines_from [] second)
      → (listed : List Entry) × (comparison first second ≡ told listed)
  -- 13 is given exactly if the entries need more numbers than the caller's list has (rule 22.16)
  pub room : {first second old new : List ℕ} {r : Result ℕ TraceRefusal} (listed : List Entry) → Compares first second old new r
      → comparison first second ≡ told listed
      → (r ≡ refused_at (refusal no_room) 0 0) ↔ (length old < 2 * length listed)
  -- after any refusal the caller's list is unchanged (rule 22.16)
  pub unchanged : {first second old new : List ℕ} {why : Refusal} {trace line : ℕ}
      → Compares first second old new (refused_at why trace line) → new ≡ old

-- ---- two outcomes that the promise allows are equal (rule 28.14)
pub record OneOutcome : Type 0 where
  pub compare : {first second old new other : List ℕ} {r q : Result ℕ TraceRefusal} → Compares first second old new r
      → Compares first second old other q
      → (r ≡ q) × (new ≡ other)

pub record Claims : Type 0 where
  pub by_number : ByNumber
  pub mates : Mates
  pub empty : EmptyTraces
  pub itself : Itself
  pub exchange : Exchange
  pub octet_for_octet : OctetForOctet
  pub refuses : ComparisonRefuses
  pub one_outcome : OneOutcome
  pub cases : Cases
