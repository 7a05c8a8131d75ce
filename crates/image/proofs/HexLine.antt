-- A line of hexadecimal over any format in whole octets: what is written reads, and what reads is written so. Assumes nothing.
use Prim.Native.Nat.{ℕ, ◌+◌, ◌≤◌, ◌<◌}
use mathlib.Core.Path.{◌≡◌, refl, sym, ap, ◌∙◌}
use mathlib.Core.Bool.{Bool, true, false, cond}
use mathlib.Core.List.{List, [], ◌∷◌, ◌++◌}
use lib.ListN.{length, take, length-append}
use lib.Seq.{append_snoc}
use lib.Dec.{ltb}
use native.Mathlib.Omega.{arith}
use borrow.Author.Tests.{lt-ltb, ltb-true}
use Rattle.length.specs.Refusals.{refusal, bad_image}
use Rattle.length.specs.Answers.{Answer, done, refused}
use Rattle.length.specs.Claims.{Octets}
use Rattle.length.proofs.Laws.{cond-met}
use Rattle.format.specs.Spelling.{whole}
use Rattle.format.specs.Reading.{found, stopped}
use Rattle.format.specs.Format.{Format}
use Rattle.format.proofs.Laws.{Fronts}
use Rattle.line.specs.Hex.{octets_in, hex_of}
use Rattle.line.specs.Lines.{line_feed, line_of}
use Rattle.image.specs.Parts.{octets_for, read_whole, taking, line_at, upper_pairs, read_line, line_front, line}
use Rattle.image.proofs.Plain.{Plain, plain-octetwise, octets-for, whole-reads, reads_whole}
use Rattle.image.proofs.Text.{pairs_of, hex-back, octets-small, octets-back, hex-pairs, hex-line, line-ended, line_small}

module _ {A : Type 0} {f : Format A} {octs : A → List ℕ} (x : Plain f octs) where
  -- what is written are octets
  written_small : (a : A) → f.fits a 0 → Octets (octets_for f a)
  written_small a fits = rw (octets-for x a) (x.small a 0 fits)

  -- a line that was written reads
  pub line_reads : (a : A) → f.fits a 0 → read_line f (hex_of (octets_for f a)) ≡ done a
  unfolding read_line
  line_reads a fits =
      let small = written_small a fits in
      rw (hex-pairs (octets_for f a) small, octets-back (octets_for f a) small) (whole-reads x a fits)

  -- and what a line reads as was written so
  pub reads-line : (l : List ℕ) (a : A) → read_line f l ≡ done a → (f.fits a 0) × (hex_of (octets_for f a) ≡ l)
  unfolding read_line
  reads-line l a e =
      let met = cond-met (upper_pairs l) bad_image (read_whole f (octets_in l)) a e in
      let pairs = pairs_of l met.0 in
      let back = reads_whole x (octets_in l) a (octets-small l pairs) met.1 in
      (back.0, ap hex_of back.1 ∙ hex-back l pairs)

  front_reads : (a : A) (rest : List ℕ) → f.fits a 0
      → line_front f (line_of (octets_for f a) ++ rest) ≡ found a (length (line_of (octets_for f a)))
  unfolding line_front
  front_reads a rest fits =
      let o = octets_for f a in
      let there : line_of (octets_for f a) ++ rest ≡ hex_of (octets_for f a) ++ (line_feed ∷ rest) = append_snoc (hex_of o) line_feed rest in
      let short : length (hex_of o) < length (hex_of o ++ (line_feed ∷ rest)) = omega (arith, length-append (hex_of o) (line_feed ∷ rest)) in
      rw (
        there,
        hex-line o rest (written_small a fits),
        lt-ltb (length (hex_of o)) (length (hex_of o ++ (line_feed ∷ rest))) short,
        line_reads a fits,
      )
      (ap (found a) (sym (length-append (hex_of o) (line_feed ∷ []))))

  taken : (text : List ℕ) (a : A) (n : ℕ) (r : Answer A) → taking (length (line_at text) + 1) r ≡ found a n
      → (r ≡ done a) × (length (line_at text) + 1 ≡ n)
  taken text a n (done b) e = (cc, cc)
  taken text a n (refused why) e = let z : ◌≡◌ {A = ℕ} 0 1 = cc in absurd (omega arith)

  front-back : (text : List ℕ) (a : A) (n : ℕ) → Octets text → line_front f text ≡ found a n
      → (f.fits a 0) × (line_of (octets_for f a) ≡ take n text) × (n ≤ length text)
  unfolding line_front
  front-back text a n small e = by (ltb (length (line_at text)) (length text)) refl e where
    by : (b : Bool) → ltb (length (line_at text)) (length text) ≡ b
        → cond b (taking (length (line_at text) + 1) (read_line f (line_at text))) (stopped (refusal bad_image)) ≡ found a n
        → (f.fits a 0) × (line_of (octets_for f a) ≡ take n text) × (n ≤ length text)
    by false was e = let z : ◌≡◌ {A = ℕ} 0 1 = cc in absurd (omega arith)
    by true was e =
        let short = ltb-true (length (line_at text)) (length text) was in
        let all = taken text a n (read_line f (line_at text)) e in
        let back = reads-line (line_at text) a all.0 in
        rw (← all.1) (back.0, ap (λ (l : List ℕ). l ++ (line_feed ∷ [])) back.1 ∙ sym (line-ended text short), omega arith)

  line-fronts : Fronts (line_front f) (λ a. line_of (octets_for f a)) (λ a. f.fits a 0)
  line-fronts = record { reads = front_reads; back = front-back }

  pub plain-line : Plain (line f) (λ a. line_of (octs a))
  plain-line =
      let p = plain-octetwise line-fronts (λ a fits. line_small (octets_for f a) (written_small a fits)) in
      record {
        lawful = p.lawful;
        written = λ a q edge. p.written a q edge ∙ ap (λ (o : List ℕ). whole (line_of o)) (octets-for x a);
        small = λ a q fits. line_small (octs a) (x.small a 0 fits);
      }
