-- Two lines that hold datagrams: the same texts differ in nothing, others are read again. Assumes nothing.
use Rattle.std.proofs.Common.{Result, Ok, Err}
use Prim.Native.Nat.{ℕ, ◌+◌, ◌-◌, ◌≤◌}
use mathlib.Core.Path.{◌≡◌, sym, ap, ◌∙◌}
use mathlib.Core.Bool.{Bool, true, false, false≢true}
use mathlib.Core.List.{List, []}
use lib.ListN.{length, take, drop}
use native.Mathlib.Omega.{arith}
use Rattle.length.specs.Answers as answers
use Rattle.length.specs.Answers.{Answer, done, written_outcome, is_done}
use Rattle.length.specs.Promise.{Puts}
use Rattle.length.specs.declared.Refusal.{Refusal}
use Rattle.datagram.specs.Sizes.{datagram_limit}
use Rattle.line.specs.Hex.{line_octets}
use Rattle.line.specs.Promise.{Appends}
use Rattle.line.proofs.Laws.{appends-none}
use Rattle.line_code.proofs.Laws.{read-octets, read-refused}
use Rattle.trace_compare.specs.Entries.{same}
use Rattle.trace_compare.specs.Traces.{datagram_of, datagram_in}
use Rattle.trace_compare.proofs.Laws.{same_true}
use Rattle.trace_compare_code.specs.Rows.{line_room, difference_numbers}
use Rattle.trace_compare_code.proofs.DifferencesLaws.{differences-none}
use Rattle.trace_compare_code.specs.Lines.{LineCut, line_from}
use Rattle.trace_compare_code.proofs.LinesLaws.{line_of, room_for}
use Rattle.trace_compare_code.specs.Inner.{OctetsRead, HoldsDatagram}

-- ---- the octets of a line
module _ (line : List ℕ) {old new : List ℕ} {r : Result ℕ Refusal} (work : datagram_limit ≤ length old) (p : Puts (line_octets line) old new r) where
  pub octets-done : {size : ℕ} → r ≡ Ok size → OctetsRead line new size
  unfolding datagram_in
  octets-done {size} is =
      let octets = read-octets (line_octets line) size old new (room_for line old work) (sym (ap written_outcome is) ∙ p.answer) p.lent in
      record {
        inside = octets.1;
        carries = sym (ap (λ (a : Answer (List ℕ)). answers.◌>>=◌ a datagram_of) octets.0);
      }

  -- a line that holds a datagram is not refused
  pub octets-never : {why : Refusal} → r ≡ Err why → is_done (datagram_in line) ≡ true → OctetsRead line new 0
  unfolding datagram_in
  octets-never {why} is holds =
      let not : is_done (datagram_in line) ≡ false =
      ap (λ (a : Answer (List ℕ)). is_done (answers.◌>>=◌ a datagram_of))
      (read-refused (line_octets line) why old (room_for line old work) (sym (ap written_outcome is) ∙ p.answer)) in
      absurd (false≢true (sym not ∙ holds))

-- ---- two lines
pub same_lines : (number : ℕ) (a b : List ℕ) {told : Bool} {old : List ℕ} {at : ℕ} → told ≡ same a b → told ≡ true
    → at + line_room ≤ length old
    → Appends (difference_numbers number (datagram_in a) (datagram_in b)) old at old at
same_lines number a b is so room =
    let texts : a ≡ b = same_true a b (sym is ∙ so) in
    let none : difference_numbers number (datagram_in a) (datagram_in b) ≡ [] =
    ap (λ (l : List ℕ). difference_numbers number (datagram_in a) (datagram_in l)) (sym texts) ∙ differences-none number (datagram_in a) in
    rw none (appends-none (omega arith))

pub read-holds : {line new : List ℕ} {size : ℕ} → OctetsRead line new size → is_done (datagram_in line) ≡ true
    → is_done (datagram_of (take size new)) ≡ true
read-holds o holds = ap is_done o.carries ∙ holds

pub other-lines : (number : ℕ) {a b left right : List ℕ} {m n : ℕ} {old : List ℕ} {at : ℕ} {new : List ℕ} {end : ℕ}
    → OctetsRead a left m → OctetsRead b right n
    → Appends (difference_numbers number (datagram_of (take m left)) (datagram_of (take n right))) old at new end
    → Appends (difference_numbers number (datagram_in a) (datagram_in b)) old at new end
other-lines number x y puts = rw (x.carries, y.carries) at puts

-- ---- two lines that begin at places
pub line-holds : {trace : List ℕ} {at end next : ℕ} → LineCut trace at end next → HoldsDatagram trace at
    → is_done (datagram_in (take (end - at) (drop at trace))) ≡ true
line-holds cut holds = ap (λ (l : List ℕ). is_done (datagram_in l)) (sym (line_of cut)) ∙ holds.reads

pub pair_put : (number : ℕ) {first second : List ℕ} {from stop next to end past : ℕ} {old : List ℕ} {at : ℕ} {new : List ℕ} {r : ℕ}
    → LineCut first from stop next → LineCut second to end past
    → Appends (difference_numbers number (datagram_in (take (stop - from) (drop from first))) (datagram_in (take (end - to) (drop to second))))
    old at new r
    → Appends (difference_numbers number (datagram_in (line_from first from)) (datagram_in (line_from second to))) old at new r
pair_put number x y puts = rw (line_of x, line_of y) puts
