-- The readers refuse exactly what their tables and items say. Assumes nothing.
use Prim.Native.Nat.{ℕ, ◌+◌}
use mathlib.Core.Path.{◌≡◌, refl, sym, ap, ◌∙◌}
use mathlib.Core.Logic.{◌↔◌, ⊎_elim}
use mathlib.Core.Bool.{Bool, true, false, not, cond, ◌&&◌}
use mathlib.Core.List.{List, [], ◌∷◌, ◌++◌, map}
use mathlib.Core.Option.{Option, none, some}
use lib.ListN.{length, get_or, replicate, length-append, length-replicate}
use lib.Dec.{leb, ltb}
use native.Mathlib.Omega.{arith}
use borrow.Author.Tests.{lt-ltb, le-ltb, le-leb, lt-leb, ltb-true}
use Rattle.octets.proofs.Laws.{below_or_not}
use Rattle.length.specs.Refusals.{ends_early, bad_form, outside_sizes}
use Rattle.length.specs.Answers.{Answer, done, refused, refuse, ◌>>=◌, LengthAnswer}
use Rattle.length.specs.Tables.{when, first, refusal_in}
use Rattle.length.specs.Length.{length_at, of_two, within, allowed, length_within}
use Rattle.length.proofs.Laws.{done_none, done-same}
use Rattle.length.specs.Claims.{Octets}
use Rattle.length.specs.declared.Reason.{Reason}
use Rattle.datagram.specs.Read.{octets_of, read_datagram}
use Rattle.datagram.specs.Claims.{lengths_of, run_of}
use Rattle.datagram.proofs.Claims as datagrams
use Rattle.packet.specs.Edition.{edition_of}
use Rattle.packet.specs.Packet.{all_data, read_packet}
use Rattle.packet.specs.declared.types.Ending.TheVariants.{Whole, Repaired}
use Rattle.packet.specs.declared.types.Named.{Named}
use Rattle.packet.proofs.Claims as packet-claims
use Rattle.demands.specs.Demand1.Refusals.{length_rows, length_here, within_rows}
use Rattle.demands.specs.Demand1.Demand1.{IsDatagram, IsPacket, IsRepaired, Readers}
use Rattle.demands.proofs.Front.{repaired-front}
use Rattle.demands.proofs.PacketRefusals.{packet-refusals}
use Rattle.demands.proofs.NamedEdition.{sound, read_as, another-edition}
use Rattle.demands.proofs.DatagramRefusals.{datagram-refusals}

-- ---- lengths
-- the five tests of the definition, and the four rows of the table
length-tests : (b₁ b₂ b₃ b₄ b₅ : Bool) {A : Type 0} (x y : A) → (b₂ ≡ true → b₃ ≡ false)
    → refusal_in {A = A}
    (cond b₁ (refuse ends_early) (cond b₂ (done x)
    (cond b₃ (refuse bad_form) (cond b₄ (refuse ends_early) (cond b₅ (refuse bad_form) (done y))))))
    ≡ first (when b₁ ends_early ∷ when b₃ bad_form ∷ when (not b₂ && b₄) ends_early ∷ when (not b₂ && b₅) bad_form ∷ [])
unfolding first
length-tests true b₂ b₃ b₄ b₅ x y low = refl
length-tests false true true b₄ b₅ x y low = let z : ◌≡◌ {A = ℕ} 0 1 = cc (low refl) in absurd (omega arith)
length-tests false true false b₄ b₅ x y low = refl
length-tests false false true b₄ b₅ x y low = refl
length-tests false false false true b₅ x y low = refl
length-tests false false false false true x y low = refl
length-tests false false false false false x y low = refl

not_low : (n : ℕ) → leb 0x80 n ≡ not (ltb n 0x80)
not_low n =
    ⊎_elim (λ low. rw (lt-ltb n 0x80 low) (lt-leb 0x80 n low)) (λ high. rw (le-ltb n 0x80 high) (le-leb 0x80 n high)) (below_or_not n 0x80)

length-rows : (s : List ℕ) → refusal_in (length_at s) ≡ first (length_rows s)
unfolding length_at length_rows
length-rows s =
    rw (not_low (get_or s 0 0))
    (length-tests (ltb (length s) 1) (ltb (get_or s 0 0) 0x80) (leb 0xC0 (get_or s 0 0)) (ltb (length s) 2)
    (ltb (of_two (get_or s 0 0) (get_or s 1 0)) 0x80) _ _
    (λ low. lt-leb 0xC0 (get_or s 0 0) (omega (arith, ltb-true (get_or s 0 0) 0x80 low))))

-- what a length's form does not refuse is the length at hand
value-tests : (b₁ b₂ b₃ b₄ b₅ : Bool) (x y a : LengthAnswer)
    → cond b₁ (refuse ends_early) (cond b₂ (done x)
    (cond b₃ (refuse bad_form) (cond b₄ (refuse ends_early) (cond b₅ (refuse bad_form) (done y)))))
    ≡ done a → cond b₂ x.value y.value ≡ a.value
value-tests true b₂ b₃ b₄ b₅ x y a e = let z : ◌≡◌ {A = ℕ} 0 1 = cc in absurd (omega arith)
value-tests false true b₃ b₄ b₅ x y a e = ap (λ (l : LengthAnswer). l.value) (done-same e)
value-tests false false true b₄ b₅ x y a e = let z : ◌≡◌ {A = ℕ} 0 1 = cc in absurd (omega arith)
value-tests false false false true b₅ x y a e = let z : ◌≡◌ {A = ℕ} 0 1 = cc in absurd (omega arith)
value-tests false false false false true x y a e = let z : ◌≡◌ {A = ℕ} 0 1 = cc in absurd (omega arith)
value-tests false false false false false x y a e = ap (λ (l : LengthAnswer). l.value) (done-same e)

length-here : (s : List ℕ) (a : LengthAnswer) → length_at s ≡ done a → length_here s ≡ a.value
unfolding length_at
length-here s a e =
    value-tests (ltb (length s) 1) (ltb (get_or s 0 0) 0x80) (leb 0xC0 (get_or s 0 0)) (ltb (length s) 2)
    (ltb (of_two (get_or s 0 0) (get_or s 1 0)) 0x80) _ _ a e

-- rows before others: none of them applies, or one does
rows_none : (rows more : List (Option Reason)) → first rows ≡ none → first (rows ++ more) ≡ first more
unfolding first
rows_none [] more e = refl
rows_none (some n ∷ rows) more e = let z : ◌≡◌ {A = ℕ} 0 1 = cc in absurd (omega arith)
rows_none (none ∷ rows) more e = rows_none rows more e

rows-some : (rows more : List (Option Reason)) (n : Reason) → first rows ≡ some n → first (rows ++ more) ≡ some n
unfolding first
rows-some [] more n e = let z : ◌≡◌ {A = ℕ} 0 1 = cc in absurd (omega arith)
rows-some (some k ∷ rows) more n e = e
rows-some (none ∷ rows) more n e = rows-some rows more n e

allowed-row : (b : Bool) (l : LengthAnswer) → refusal_in (cond b (done l) (refuse outside_sizes)) ≡ first (when (not b) outside_sizes ∷ [])
unfolding first
allowed-row true l = refl
allowed-row false l = refl

within-rows : (least most : ℕ) (s : List ℕ) → refusal_in (length_within least most s) ≡ first (within_rows least most s)
unfolding length_within within_rows allowed
within-rows least most s = by (length_at s) refl where
  by : (a : Answer LengthAnswer) → length_at s ≡ a
      → refusal_in (◌>>=◌ a (allowed least most))
      ≡ first (length_rows s ++ (when (not (within least most (length_here s))) outside_sizes ∷ []))
  by (done l) e =
      allowed-row (within least most l.value) l
      ∙ ap (λ (v : ℕ). first (when (not (within least most v)) outside_sizes ∷ [])) (sym (length-here s l e))
      ∙ sym (rows_none (length_rows s) _ (sym (length-rows s) ∙ ap refusal_in e))
  by (refused why) e = sym (rows-some (length_rows s) _ why.reason (sym (length-rows s) ∙ ap refusal_in e))

-- ---- readers
is-datagram : (s : List ℕ) → Octets s → (refusal_in (read_datagram s) ≡ none) ↔ IsDatagram s
is-datagram s octets = (
  λ e.
      let d = done_none (read_datagram s) e in
      record {
        number = d.0.number;
        packet = octets_of s d.0.packet;
        kind = d.0.kind;
        lengths = lengths_of d.0;
        run = run_of s d.0;
        written = (datagrams.claims).read_writes s d.0 octets d.1;
      },
  λ is. ap refusal_in ((datagrams.claims).written_reads is.number is.packet is.kind is.lengths is.run s is.written).read,
)

is-packet : (named : Named) (s : List ℕ) → Octets s
    → (refusal_in (read_packet (edition_of named) Whole s) ≡ none) ↔ IsPacket (edition_of named) s
is-packet named s octets = (
  λ e.
      let p = done_none (read_packet (edition_of named) Whole s) e in
      record {
        kind = p.0.kind;
        value = p.0.value;
        types = map (λ f. f.kind) p.0.fields;
        lengths = map (λ f. f.size) p.0.fields;
        octets = all_data s p.0.fields;
        written = (packet-claims.claims).read_writes (edition_of named) s p.0 octets p.1;
      },
  λ is.
      ap refusal_in
      ((packet-claims.claims).written_reads (edition_of named) (sound named) is.kind is.value is.types is.lengths
      is.octets s is.written).reads,
)

is-repaired : (named : Named) (s : List ℕ) → Octets s
    → (refusal_in (read_packet (edition_of named) Repaired s) ≡ none) ↔ IsRepaired (edition_of named) s
is-repaired named s octets = (
  λ e.
      let f = repaired-front named s e in
      record {
        packet = f.front;
        zeros = f.zeros;
        is = f.is;
        fits = f.fits;
        written = (is-packet named f.front (f.octets octets)).0 f.reads;
      },
  λ is.
      let w = is.written in
      let long : length s ≡ length is.packet + is.zeros
      = ap length is.is ∙ length-append is.packet (replicate is.zeros 0)
      ∙ ap (λ (n : ℕ). length is.packet + n) (length-replicate {A = ℕ} is.zeros 0) in
      let reads =
      ((packet-claims.claims).repaired_reads (edition_of named) (sound named) w.kind w.value w.types w.lengths
      w.octets is.packet is.zeros w.written
      (omega (arith, is.fits))).reads in
      ap (λ (l : List ℕ). refusal_in (read_packet (edition_of named) Repaired l)) is.is ∙ ap refusal_in reads,
)

-- the same of a call with that refusal
of-call : {told said : Option Reason} {P : Type 0} → told ≡ said → (said ≡ none) ↔ P → (told ≡ none) ↔ P
of-call same t = (λ e. t.0 (sym same ∙ e), λ p. same ∙ t.1 p)

pub readers : Readers
readers =
    record {
      length = λ {octets = s} {r} p. ap refusal_in p.answer ∙ length-rows s;
      length_within = λ {least} {most} {octets = s} {r} p. ap refusal_in p.answer ∙ within-rows least most s;
      datagram = λ p. ap refusal_in p.answer;
      packet = λ octet ending s p. ap refusal_in p.answer;
      is_datagram = λ {octets = s} octets p. of-call (ap refusal_in p.answer) (is-datagram s octets);
      is_packet = λ octet named names s octets p.
          of-call (ap refusal_in (read_as octet named Whole s names p).answer) (is-packet named s octets);
      is_repaired = λ octet named names s octets p.
          of-call (ap refusal_in (read_as octet named Repaired s names p).answer) (is-repaired named s octets);
      packet_refusals = packet-refusals;
      another_edition = another-edition;
      datagram_refusals = datagram-refusals;
    }
