-- The claims of this crate. Assumes nothing.
use Rattle.std.proofs.Common.{Result, Ok, Err}
use Prim.Native.Nat.{ℕ, ◌-◌}
use mathlib.Core.Path.{◌≡◌, refl, sym, ap, ap₂, ◌∙◌}
use mathlib.Core.List.{List, map}
use mathlib.Core.Logic.{⊎_elim}
use lib.ListN.{length, take, drop, length-drop}
use lib.Seq.{length-take-le}
use native.Mathlib.Omega.{arith}
use Rattle.octets.proofs.Laws.{below_or_not}
use Rattle.trace_compare.specs.Pairing.{TraceLine, number_of_line}
use Rattle.trace_compare.specs.Told.{PlacedAnswer, Where, told, stopped}
use Rattle.trace_compare.specs.Promise.{compared_outcome}
use Rattle.trace_compare.specs.declared.TraceRefusal.{TraceRefusal}
use Rattle.trace_compare_code.specs.Lines.{LineCut, datagram_lines, TraceKept, ReadsTrace}
use Rattle.trace_compare_code.specs.LinesClaims.{Claims}
use Rattle.trace_compare_code.proofs.Cutting.{line_of}

-- ---- a line
cut-long : {trace : List ℕ} {at end next : ℕ} → LineCut trace at end next → length (take (end - at) (drop at trace)) ≡ end - at
cut-long {trace} {at} {end} l =
    length-take-le (end - at) (drop at trace) (omega (arith, length-drop at trace, l.low, l.high))

one_end : {trace : List ℕ} {at end next stop after : ℕ} → LineCut trace at end next → LineCut trace at stop after → end ≡ stop
one_end a b =
    let same = ap length (sym (line_of a) ∙ line_of b) in
    omega (arith, same, cut-long a, cut-long b, a.low, b.low)

one-next : {trace : List ℕ} {at end next stop after : ℕ} → LineCut trace at end next → LineCut trace at stop after → next ≡ after
one-next {trace} {at} {end} {next} {stop} {after} a b =
    let same = one_end a b in
    ⊎_elim (λ there. omega (arith, a.feed there, b.feed (omega arith))) (λ past. omega (arith, a.last past, b.last (omega arith)))
    (below_or_not end (length trace))

-- ---- a trace
kept-count : {which : ℕ} {trace numbers starts : List ℕ} {count : ℕ} → TraceKept which trace numbers starts count
    → count ≡ length (map number_of_line (datagram_lines which trace))
kept-count {which} {trace} {numbers} {starts} {count} t =
    sym (length-take-le count numbers t.inside) ∙ ap length t.kept.each

same_refusal : (a b : TraceRefusal) → compared_outcome (Err a) ≡ compared_outcome (Err b) → a ≡ b
same_refusal a b e =
    let reason : a.why ≡ b.why = cc in
    let place : ◌≡◌ {A = Where} (record { trace = a.trace; line = a.line }) (record { trace = b.trace; line = b.line }) = cc in
    λ i. record { why = reason i; trace = (place i).trace; line = (place i).line }

module _ {which : ℕ} {trace : List ℕ} where
  one-read : {numbers starts others places : List ℕ} (r q : Result ℕ TraceRefusal) → ReadsTrace which trace numbers starts r
      → ReadsTrace which trace others places q
      → r ≡ q
  one-read (Ok count) (Ok other) a b =
      ap (λ (n : ℕ). Ok n) (kept-count (a.kept count refl) ∙ sym (kept-count (b.kept other refl)))
  one-read (Ok count) (Err answer) a b =
      let one = a.kept count refl in
      let two = b.refused answer refl in
      let both : told (datagram_lines which trace) ≡ stopped two.why two.place = sym one.read ∙ two.read in
      let z : ◌≡◌ {A = ℕ} 0 1 = cc in
      absurd (omega arith)
  one-read (Err answer) (Ok count) a b =
      let one = b.kept count refl in
      let two = a.refused answer refl in
      let both : told (datagram_lines which trace) ≡ stopped two.why two.place = sym one.read ∙ two.read in
      let z : ◌≡◌ {A = ℕ} 0 1 = cc in
      absurd (omega arith)
  one-read (Err answer) (Err other) a b =
      let one = a.refused answer refl in
      let two = b.refused other refl in
      let both : ◌≡◌ {A = PlacedAnswer (List TraceLine)} (stopped one.why one.place) (stopped two.why two.place) =
      sym one.read ∙ two.read in
      let why : one.why ≡ two.why = cc in
      let place : one.place ≡ two.place = cc in
      let stops : ◌≡◌ {A = PlacedAnswer ℕ} (stopped one.why one.place) (stopped two.why two.place) = ap₂ stopped why place in
      ap (λ (a : TraceRefusal). Err a) (same_refusal answer other (one.told ∙ stops ∙ sym two.told))

pub claims : Claims
claims =
    record {
      one_outcome =
          record {
            line_at = λ a b. (one_end a b, one-next a b);
            count_lines = λ trace a b. a ∙ sym b;
            read_trace = λ {which} {trace} {numbers} {starts} {others} {places} {r} {q} a b. one-read r q a b;
          };
    }
