-- Line after line of a trace, on plain values: what is kept so far, and what is still to be read, are the whole trace. Assumes nothing.
use Rattle.std.proofs.Common.{Result, Ok, Err}
use Prim.Native.Nat.{ℕ, suc, ◌+◌, ◌-◌, ◌≤◌}
use mathlib.Core.Path.{◌≡◌, refl, sym, ap, ◌∙◌}
use mathlib.Core.List.{List, [], ◌∷◌, ◌++◌, append-nil}
use mathlib.Core.Logic.{◌⊎◌, inl, inr, ⊎_elim}
use lib.ListN.{length, take, drop, set, length-append, length-set}
use native.Mathlib.Numerals.{add-one}
use native.Mathlib.Omega.{arith}
use Rattle.length.specs.Answers.{Answer, done, refused}
use Rattle.length.specs.declared.Refusal.{Refusal}
use Rattle.datagram.specs.Carried.{Carried}
use Rattle.line.specs.Lines.{lines_from}
use Rattle.trace_compare.specs.Pairing.{TraceLine}
use Rattle.trace_compare.specs.Told.{told, stopped}
use Rattle.trace_compare.specs.Traces.{datagram_in, lines_read, trace_read}
use Rattle.trace_compare.specs.declared.TraceRefusal.{TraceRefusal}
use Rattle.trace_compare.proofs.Laws.{behind, behind-none, behind-behind, read_none, read-empty, read_done, read-refused, empty-or-some}
use Rattle.trace_compare_code.specs.Lines.{LineCut, RoomFor, KeepsLine, Stands, KeptTrace, RoomForLines, told_lines, datagram_lines}
use Rattle.trace_compare_code.specs.Lines.{ReadsTrace}
use Rattle.trace_compare_code.proofs.Cutting.{lines-past, line_of, CountedLines, lines_start, lines-turn, lines_left}
use Rattle.trace_compare_code.proofs.Keeping.{kept-none, kept_more}

-- some lines are read, of which the next is line n and begins at a place
pub record ReadUpTo (which : ℕ) (trace numbers starts : List ℕ) (count n at : ℕ) : Type 0 where
  pub front : List TraceLine
  pub passed : ℕ
  pub on : trace_read which trace ≡ behind front (lines_read which n (lines_from [] (drop at trace)))
  pub counted : length front ≡ count
  pub kept : KeptTrace trace front (take count numbers) starts
  pub lines : CountedLines trace passed at
  pub line : n ≡ passed + 1
  pub few : count ≤ passed
  pub room : RoomForLines trace numbers starts

pub read-start : (which : ℕ) (trace numbers starts : List ℕ) → RoomForLines trace numbers starts
    → ReadUpTo which trace numbers starts 0 1 0
unfolding trace_read
read-start which trace numbers starts room =
    record {
      front = [];
      passed = 0;
      on = sym (behind-none (lines_read which 1 (lines_from [] trace)));
      counted = refl;
      kept = kept-none trace numbers starts;
      lines = lines_start trace;
      line = omega arith;
      few = omega arith;
      room = room;
    }

done-or-refused : (a : Answer Carried) → ((d : Carried) × (a ≡ done d)) ⊎ ((why : Refusal) × (a ≡ refused why))
done-or-refused (done d) = inl (d, refl)
done-or-refused (refused why) = inr (why, refl)

module _ {which : ℕ} {trace numbers starts : List ℕ} {count n at end next : ℕ}
    (u : ReadUpTo which trace numbers starts count n at) (l : LineCut trace at end next) where
  pub turn-room : RoomFor count numbers starts
  turn-room =
      let left = lines_left u.lines l in
      record { number = omega (arith, u.few, u.room.number); place = omega (arith, u.few, u.room.place) }

  -- the line that is read now
  here : List ℕ
  here = take (end - at) (drop at trace)

  here_on : trace_read which trace ≡ behind u.front (lines_read which n (here ∷ lines_from [] (drop next trace)))
  unfolding here
  here_on = u.on ∙ ap (λ (ls : List (List ℕ)). behind u.front (lines_read which n ls)) l.line

  -- the line's number goes on
  next-line : (a : List TraceLine) → behind a (lines_read which (suc n) (lines_from [] (drop next trace)))
      ≡ behind a (lines_read which (n + 1) (lines_from [] (drop next trace)))
  next-line a = ap (λ (k : ℕ). behind a (lines_read which k (lines_from [] (drop next trace)))) (sym (add-one n))

  lines-on : CountedLines trace (u.passed + 1) next
  lines-on = lines-turn u.lines l

  turn-empty : here ≡ [] → ReadUpTo which trace numbers starts count (n + 1) next
  turn-empty none =
      record {
        front = u.front;
        passed = u.passed + 1;
        on =
            here_on
            ∙ ap (behind u.front) (read-empty which n here (lines_from [] (drop next trace)) none)
            ∙ next-line u.front;
        counted = u.counted;
        kept = u.kept;
        lines = lines-on;
        line = omega (arith, u.line);
        few = omega (arith, u.few);
        room = u.room;
      }

  stands : (d : Carried) → datagram_in here ≡ done d → Stands trace at (record { line = n; datagram = d })
  unfolding here
  stands d e =
      record {
        inside = omega (arith, l.on, l.inside);
        read = ap datagram_in (line_of l) ∙ e;
      }

  turn-kept : (d : Carried) → 1 ≤ length here → datagram_in here ≡ done d
      → ReadUpTo which trace (set numbers count d.number) (set starts count at) (count + 1) (n + 1) next
  turn-kept d some e =
      let line : TraceLine = record { line = n; datagram = d } in
      let rest = lines_read which (suc n) (lines_from [] (drop next trace)) in
      record {
        front = u.front ++ (line ∷ []);
        passed = u.passed + 1;
        on =
            here_on
            ∙ ap (behind u.front) (read_done which n here (lines_from [] (drop next trace)) d some e)
            ∙ behind-behind u.front (line ∷ []) rest
            ∙ next-line (u.front ++ (line ∷ []));
        counted = omega (arith, length-append u.front (line ∷ []), u.counted);
        kept = kept_more numbers count u.kept u.counted line at turn-room.number turn-room.place (stands d e);
        lines = lines-on;
        line = omega (arith, u.line);
        few = omega (arith, u.few);
        room =
            record {
              number = omega (arith, u.room.number, length-set numbers count d.number);
              place = omega (arith, u.room.place, length-set starts count at);
            };
      }

  module _ {new_numbers new_starts : List ℕ} {r : Result ℕ Refusal}
      (k : KeepsLine (take (end - at) (drop at trace)) at numbers new_numbers starts new_starts count r) where
    pub turn_on : {now : ℕ} → r ≡ Ok now → ReadUpTo which trace new_numbers new_starts now (n + 1) next
    unfolding here
    turn_on {now} is =
        ⊎_elim
        (λ none.
        let so = k.empty (ap length none) in
        let same : count ≡ now = let both : Ok count ≡ Ok now = sym so.0 ∙ is in cc in
        rw (so.1, so.2, sym same) (turn-empty none))
        (λ some.
        ⊎_elim
        (λ held.
        let so = k.holds held.0 some held.1 in
        let same : count + 1 ≡ now = let both : Ok (count + 1) ≡ Ok now = sym so.0 ∙ is in cc in
        rw (so.1, so.2, sym same) (turn-kept held.0 some held.1))
        (λ not.
        let so = k.refuses not.0 some not.1 in
        let z : ◌≡◌ {A = ℕ} 0 1 = cc in
        absurd (omega arith))
        (done-or-refused (datagram_in here)))
        (empty-or-some here)

    pub turn-refused : {why : Refusal} → r ≡ Err why
        → ReadsTrace which trace new_numbers new_starts (Err (record { why = why; trace = which; line = n }))
    unfolding here
    turn-refused {why} is =
        record {
          kept = λ other e. let z : ◌≡◌ {A = ℕ} 0 1 = cc in absurd (omega arith);
          refused = λ answer e.
              let same : ◌≡◌ {A = TraceRefusal} (record { why = why; trace = which; line = n }) answer = cc in
              rw (← same)
              (record {
                why = why;
                place = record { trace = which; line = n };
                read = stops;
                told = refl;
              });
        }
      where
        stops : trace_read which trace ≡ stopped why (record { trace = which; line = n })
        stops =
            ⊎_elim
            (λ none.
            let so = k.empty (ap length none) in
            let z : ◌≡◌ {A = ℕ} 0 1 = cc in
            absurd (omega arith))
            (λ some.
            ⊎_elim
            (λ held.
            let so = k.holds held.0 some held.1 in
            let z : ◌≡◌ {A = ℕ} 0 1 = cc in
            absurd (omega arith))
            (λ not.
            let so = k.refuses not.0 some not.1 in
            let same : not.0 ≡ why = cc in
            here_on
            ∙ ap (behind u.front) (read-refused which n here (lines_from [] (drop next trace)) not.0 some not.1)
            ∙ ap (λ (w : Refusal). stopped w (record { trace = which; line = n })) same)
            (done-or-refused (datagram_in here)))
            (empty-or-some here)

-- ---- all lines are read
pub read_all : {which : ℕ} {trace numbers starts : List ℕ} {count n at : ℕ} → ReadUpTo which trace numbers starts count n at
    → length trace ≤ at
    → ReadsTrace which trace numbers starts (Ok count)
unfolding datagram_lines
read_all {which} {trace} {numbers} {starts} {count} {n} u past =
    let all : trace_read which trace ≡ told u.front =
    u.on
    ∙ ap (λ (ls : List (List ℕ)). behind u.front (lines_read which n ls)) (lines-past trace past)
    ∙ ap (behind u.front) (read_none which n)
    ∙ ap (λ (ls : List TraceLine). told ls) (append-nil u.front) in
    let lines : datagram_lines which trace ≡ u.front = ap told_lines all in
    record {
      kept = λ other e.
          let same : count ≡ other = cc in
          rw (← same)
          (record {
            read = all ∙ ap (λ (ls : List TraceLine). told ls) (sym lines);
            few = omega (arith, u.few, u.lines.on);
            inside = omega (arith, u.few, u.lines.on, u.room.number);
            kept = rw lines u.kept;
          });
      refused = λ answer e. let z : ◌≡◌ {A = ℕ} 0 1 = cc in absurd (omega arith);
    }
