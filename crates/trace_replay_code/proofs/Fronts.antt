-- A line's number in its front, and whether the line is dropped, on plain values. Assumes nothing.
use Rattle.std.proofs.Common.{Result, Ok, Err, Option, Some, None}
use Prim.Native.Nat.{ℕ, ◌+◌, ◌*◌, ◌≤◌, ◌<◌}
use mathlib.Core.Path.{◌≡◌, refl, sym, ap, ap₂, ◌∙◌}
use mathlib.Core.Bool.{Bool, true, false, false≢true}
use mathlib.Core.List.{List, ◌++◌}
use lib.ListN.{length, get_or, take, get_or-append}
use lib.Seq.{length-take-le}
use native.Mathlib.Omega.{arith}
use Rattle.length.specs.Answers.{Answer, done, refused, ◌>>=◌, written_outcome, is_done}
use Rattle.length.specs.Promise.{Puts}
use Rattle.length.specs.declared.Refusal.{Refusal}
use Rattle.datagram.specs.Sizes.{datagram_limit}
use Rattle.datagram.specs.Read.{DatagramParts, read_datagram}
use Rattle.datagram.specs.Promise.{DatagramReads}
use Rattle.datagram.specs.declared.kind.Kind.{Kind}
use Rattle.datagram.specs.declared.reader.Part.{Part}
use Rattle.datagram.specs.declared.reader.DatagramRead.{DatagramRead}
use Rattle.datagram.proofs.Laws.{refused-read, accepted-read}
use Rattle.line.specs.Hex.{all_digits, line_octets, octets_in}
use Rattle.line.proofs.Laws.{length-octets_in}
use Rattle.line_code.proofs.Laws.{line-fits, read-octets, read-refused}
use Rattle.trace_replay.specs.Replay.{number_in, listed, listed_as, dropped}
use Rattle.trace_replay.proofs.Laws.{not-dropped, fronted}
use Rattle.trace_replay_code.specs.Inner.{FrontTold}

-- ---- the front of a line
pub front-short : (line : List ℕ) → length line < 4 → FrontTold line None
front-short line short = record { told = λ number e. absurd (omega (arith, (fronted line number e).long)) }

-- characters that are no digits tell none
pub front-others : (line : List ℕ) {all : Bool} → all ≡ all_digits (take 4 line) → all ≡ false → FrontTold line None
front-others line told not = record { told = λ number e. absurd (false≢true (sym not ∙ told ∙ (fronted line number e).digits)) }

-- four digits are two octets
two-octets : (line : List ℕ) → 4 ≤ length line → length (octets_in (take 4 line)) ≡ 2
two-octets line long = omega (arith, length-octets_in (take 4 line), length-take-le 4 line long)

pub front-number : (line rest : List ℕ) {new : List ℕ} {number : ℕ} → 4 ≤ length line → new ≡ octets_in (take 4 line) ++ rest
    → number ≡ get_or new 0 0 * 256 + get_or new 1 0
    → FrontTold line (Some number)
front-number line rest {new} long put made =
    let at : (k : ℕ) → k < 2 → get_or new k 0 ≡ get_or (octets_in (take 4 line)) k 0 =
    λ k below.
    ap (λ (l : List ℕ). get_or l k 0) put ∙ get_or-append (octets_in (take 4 line)) rest 0 k (omega (arith, two-octets line long)) in
    record {
      told = λ other e.
          ap (λ (n : ℕ). Some n)
          (made
          ∙ ap₂ (λ (a b : ℕ). a * 256 + b) (at 0 (omega arith)) (at 1 (omega arith))
          ∙ sym (fronted line other e).high-first);
    }

-- ---- whether a line reads
module _ {s : List ℕ} {r : Result DatagramRead Refusal} (reads : DatagramReads s r) where
  pub is_read : {d : DatagramRead} → r ≡ Ok d → true ≡ is_done (read_datagram s)
  is_read is = sym (ap is_done (accepted-read reads is))

  pub is-refused : {why : Refusal} → r ≡ Err why → false ≡ is_done (read_datagram s)
  is-refused is = sym (ap is_done (refused-read reads is))

number-done : (a : Answer DatagramParts) → is_done a ≡ is_done (◌>>=◌ a (λ (d : DatagramParts). done d.number))
number-done (done d) = refl
number-done (refused why) = refl

-- the lent work has room for any line's octets
room_for : (line old : List ℕ) → datagram_limit ≤ length old → (l : List ℕ) → line_octets line ≡ done l → length l ≤ length old
room_for line old work l e = omega (arith, line-fits line l e)

module _ (line : List ℕ) {old new : List ℕ} {r : Result ℕ Refusal} (work : datagram_limit ≤ length old) (p : Puts (line_octets line) old new r) where
  octets : {size : ℕ} → r ≡ Ok size → (line_octets line ≡ done (take size new)) × (size ≤ length new)
  octets {size} is =
      read-octets (line_octets line) size old new (room_for line old work) (sym (ap written_outcome is) ∙ p.answer) p.lent

  pub line_reads : {size : ℕ} {told : Bool} → r ≡ Ok size → told ≡ is_done (read_datagram (take size new))
      → told ≡ is_done (number_in line)
  unfolding number_in
  line_reads {size} is told =
      told
      ∙ number-done (read_datagram (take size new))
      ∙ sym (ap (λ (a : Answer (List ℕ)).
      is_done (◌>>=◌ a (λ (o : List ℕ). ◌>>=◌ (read_datagram o) (λ (d : DatagramParts). done d.number))))
      (octets is).0)

  pub line_refused : {why : Refusal} → r ≡ Err why → false ≡ is_done (number_in line)
  unfolding number_in
  line_refused {why} is =
      sym (ap (λ (a : Answer (List ℕ)). is_done (◌>>=◌ a (λ (o : List ℕ). ◌>>=◌ (read_datagram o) (λ (d : DatagramParts). done d.number))))
      (read-refused (line_octets line) why old (room_for line old work) (sym (ap written_outcome is) ∙ p.answer)))

-- ---- whether it is dropped
module _ (numbers line : List ℕ) {r : Option ℕ} (f : FrontTold line r) where
  pub dropped-nothing : r ≡ None → false ≡ dropped numbers line
  dropped-nothing is =
      sym (not-dropped numbers line
      (λ number e.
      let so = f.told number e in
      let z : ◌≡◌ {A = ℕ} 0 1 = cc in
      absurd (omega arith)))

  -- the number in front is the line's
  same : {number : ℕ} → r ≡ Some number → (other : ℕ) → number_in line ≡ done other → other ≡ number
  same is other e = let so = f.told other e in cc

  pub dropped-unlisted : {number : ℕ} {found : Bool} → r ≡ Some number → found ≡ listed numbers number → found ≡ false
      → false ≡ dropped numbers line
  dropped-unlisted is told not =
      sym (not-dropped numbers line (λ other e. ap (listed numbers) (same is other e) ∙ sym told ∙ not))

  pub dropped-listed : {number : ℕ} {found read : Bool} → r ≡ Some number → found ≡ listed numbers number → found ≡ true
      → read ≡ is_done (number_in line)
      → read ≡ dropped numbers line
  unfolding dropped
  dropped-listed {number} is told so reads = reads ∙ by (number_in line) refl where
    by : (a : Answer ℕ) → number_in line ≡ a → is_done a ≡ listed_as numbers a
    by (done other) e = sym (ap (listed numbers) (same is other e) ∙ sym told ∙ so)
    by (refused why) e = refl
