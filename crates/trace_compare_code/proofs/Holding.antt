-- What a line holds: the number of its datagram, or why it is refused. Assumes nothing.
use Rattle.std.proofs.Common.{Result, Ok, Err}
use Prim.Native.Nat.{ℕ, ◌+◌, ◌≤◌}
use mathlib.Core.Path.{◌≡◌, refl, sym, ap, ◌∙◌}
use mathlib.Core.List.{List}
use lib.ListN.{length, take, set}
use native.Mathlib.Omega.{arith}
use Rattle.length.specs.Answers as answers
use Rattle.length.specs.Answers.{Answer, done, refused, mapped, written_outcome}
use Rattle.length.specs.Promise.{Puts}
use Rattle.length.specs.declared.Refusal.{Refusal}
use Rattle.datagram.specs.Sizes.{datagram_limit}
use Rattle.datagram.specs.Carried.{Carried}
use Rattle.datagram.specs.Read.{carried_by}
use Rattle.datagram.specs.Promise.{DatagramReads}
use Rattle.datagram.specs.declared.kind.Kind.{Kind}
use Rattle.datagram.specs.declared.reader.Part.{Part}
use Rattle.datagram.specs.declared.reader.DatagramRead.{DatagramRead}
use Rattle.datagram.proofs.Laws.{refused-read, accepted-read}
use Rattle.line.specs.Hex.{line_octets}
use Rattle.line_code.proofs.Laws.{line-fits, read-octets, read-refused}
use Rattle.trace_compare.specs.Traces.{datagram_of, datagram_in}
use Rattle.trace_compare_code.specs.Lines.{held_outcome, number_told, KeepsLine}

-- ---- octets
module _ {s : List ℕ} {r : Result DatagramRead Refusal} (reads : DatagramReads s r) where
  pub octets-number : {d : DatagramRead} → r ≡ Ok d → held_outcome (Ok d.number) ≡ number_told (datagram_of s)
  unfolding datagram_of carried_by
  octets-number is = sym (ap (λ a. number_told (mapped (carried_by s) a)) (accepted-read reads is))

  pub octets-refused : {why : Refusal} → r ≡ Err why → held_outcome (Err why) ≡ number_told (datagram_of s)
  unfolding datagram_of
  octets-refused is = sym (ap (λ a. number_told (mapped (carried_by s) a)) (refused-read reads is))

-- ---- a line
-- the lent work has room for any line's octets
pub room_for : (line old : List ℕ) → datagram_limit ≤ length old → (l : List ℕ) → line_octets line ≡ done l → length l ≤ length old
room_for line old work l e = omega (arith, line-fits line l e)

module _ (line : List ℕ) {old new : List ℕ} {r : Result ℕ Refusal} (work : datagram_limit ≤ length old) (p : Puts (line_octets line) old new r) where
  pub line-number : {size : ℕ} (h : Result ℕ Refusal) → r ≡ Ok size → held_outcome h ≡ number_told (datagram_of (take size new))
      → held_outcome h ≡ number_told (datagram_in line)
  unfolding datagram_in
  line-number {size} h is so =
      let octets = read-octets (line_octets line) size old new (room_for line old work) (sym (ap written_outcome is) ∙ p.answer) p.lent in
      so ∙ sym (ap (λ (a : Answer (List ℕ)). number_told (answers.◌>>=◌ a datagram_of)) octets.0)

  pub line_refused : {why : Refusal} → r ≡ Err why → held_outcome (Err why) ≡ number_told (datagram_in line)
  unfolding datagram_in
  line_refused {why} is =
      sym (ap (λ (a : Answer (List ℕ)). number_told (answers.◌>>=◌ a datagram_of))
      (read-refused (line_octets line) why old (room_for line old work) (sym (ap written_outcome is) ∙ p.answer)))

-- ---- what is kept of it
number-done : (a : Answer Carried) (n : ℕ) → done n ≡ number_told a → (d : Carried) → a ≡ done d → d.number ≡ n
number-done a n e d is = let same : done n ≡ done d.number = e ∙ ap number_told is in sym cc

not-refused : (a : Answer Carried) (n : ℕ) → done n ≡ number_told a → (why : Refusal) → a ≡ refused why → ⊥
not-refused a n e why is =
    let both : done n ≡ refused why = e ∙ ap number_told is in
    let z : ◌≡◌ {A = ℕ} 0 1 = cc in
    omega arith

refused-same : (a : Answer Carried) (why : Refusal) → refused why ≡ number_told a → (other : Refusal) → a ≡ refused other → why ≡ other
refused-same a why e other is =
    let same : ◌≡◌ {A = Answer ℕ} (refused why) (refused other) = e ∙ ap number_told is in
    cc

pub keeps-empty : (line : List ℕ) (at : ℕ) (numbers starts : List ℕ) (count : ℕ) → length line ≡ 0
    → KeepsLine line at numbers numbers starts starts count (Ok count)
keeps-empty line at numbers starts count none =
    record {
      empty = λ is. (refl, refl, refl);
      holds = λ datagram some e. absurd (omega arith);
      refuses = λ why some e. absurd (omega arith);
    }

module _ (line : List ℕ) (at : ℕ) (numbers starts : List ℕ) (count : ℕ) {h : Result ℕ Refusal} (holds : held_outcome h ≡ number_told (datagram_in line))
    (some : length line ≡ 0 → ⊥) where
  pub keeps-refused : {why : Refusal} → h ≡ Err why → KeepsLine line at numbers numbers starts starts count (Err why)
  keeps-refused {why} is =
      let told : refused why ≡ number_told (datagram_in line) = sym (ap held_outcome is) ∙ holds in
      record {
        empty = λ none. absurd (some none);
        holds = λ datagram more e.
            let both : refused why ≡ done datagram.number = told ∙ ap number_told e in
            let z : ◌≡◌ {A = ℕ} 0 1 = cc in
            absurd (omega arith);
        refuses = λ other more e. ap (λ (w : Refusal). Err w) (refused-same (datagram_in line) why told other e);
      }

  pub keeps-number : {number : ℕ} → h ≡ Ok number
      → KeepsLine line at numbers (set numbers count number) starts (set starts count at) count (Ok (count + 1))
  keeps-number {number} is =
      let told : done number ≡ number_told (datagram_in line) = sym (ap held_outcome is) ∙ holds in
      record {
        empty = λ none. absurd (some none);
        holds = λ datagram more e.
            (refl, ap (λ (n : ℕ). set numbers count n) (sym (number-done (datagram_in line) number told datagram e)), refl);
        refuses = λ why more e. absurd (not-refused (datagram_in line) number told why e);
      }
