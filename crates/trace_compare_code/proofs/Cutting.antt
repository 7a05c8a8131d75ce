-- One line of a trace after the other, on plain values. Assumes nothing.
use Prim.Native.Nat.{ℕ, ◌+◌, ◌-◌, ◌≤◌, ◌<◌}
use mathlib.Core.Path.{◌≡◌, refl, sym, ap, ap₂, ◌∙◌}
use mathlib.Core.List.{List, [], ◌∷◌}
use lib.ListN.{length, take, drop, length-drop, drop_of_length-le}
use lib.Seq.{drop-drop}
use native.Mathlib.Omega.{arith}
use Rattle.length.proofs.Laws.{rest_of}
use Rattle.line.specs.Lines.{lines_from}
use Rattle.line.specs.FeedPromise.{Found}
use Rattle.trace_replay.proofs.Laws.{lines_none, lines-first, lines-last}
use Rattle.trace_compare_code.specs.Lines.{first_line, line_from, LineCut}

module _ (trace : List ℕ) {at stop : ℕ} (inside : at < length trace) (f : Found (take (length trace - at) (drop at trace)) stop) where
  found : Found (drop at trace) stop
  found = rw (rest_of trace at) at f

  left-long : length (drop at trace) ≡ length trace - at
  left-long = length-drop at trace

  same_stop : at + stop - at ≡ stop
  same_stop = omega arith

  -- the end of the line is within the trace
  pub end-inside : at + stop ≤ length trace
  end-inside = omega (arith, found.begun.inside, left-long)

  -- a line feed was found
  pub cut_line : stop < length (take (length trace - at) (drop at trace)) → LineCut trace at (at + stop) (at + stop + 1)
  cut_line there =
      let ends : stop < length (drop at trace) = rw (rest_of trace at) at there in
      let place : at + (stop + 1) ≡ at + stop + 1 = omega arith in
      record {
        line =
            lines-first found ends
            ∙ ap₂ (λ (n : ℕ) (l : List ℕ). take n (drop at trace) ∷ lines_from [] l) (sym same_stop)
            (drop-drop (stop + 1) at trace ∙ ap (λ (n : ℕ). drop n trace) place);
        low = omega arith;
        high = end-inside;
        on = omega arith;
        inside = omega (arith, left-long);
        feed = λ there. refl;
        last = λ past. absurd (omega (arith, left-long));
      }

  -- the last line
  pub cut-last : length (take (length trace - at) (drop at trace)) ≤ stop → LineCut trace at (at + stop) (at + stop)
  cut-last past =
      let ends : length (drop at trace) ≤ stop = rw (rest_of trace at) at past in
      let end : length trace ≤ at + stop = omega (arith, left-long) in
      let all : drop (at + stop) trace ≡ [] = drop_of_length-le trace end in
      record {
        line =
            lines-last found ends (omega (arith, left-long))
            ∙ ap₂ (λ (n : ℕ) (l : List (List ℕ)). take n (drop at trace) ∷ l) (sym same_stop)
            (sym (ap (lines_from []) all ∙ lines_none));
        low = omega arith;
        high = end-inside;
        on = omega (arith, left-long);
        inside = end-inside;
        feed = λ there. absurd (omega arith);
        last = λ past. refl;
      }

-- nothing is left
pub lines-past : (trace : List ℕ) {at : ℕ} → length trace ≤ at → lines_from [] (drop at trace) ≡ []
lines-past trace past = ap (lines_from []) (drop_of_length-le trace past) ∙ lines_none

-- the line that begins at a place is the one that was cut
pub line_of : {trace : List ℕ} {at end next : ℕ} → LineCut trace at end next → line_from trace at ≡ take (end - at) (drop at trace)
unfolding line_from
line_of l = ap first_line l.line

-- ---- so many lines up to a place
pub record CountedLines (trace : List ℕ) (count at : ℕ) : Type 0 where
  pub on : count + length (lines_from [] (drop at trace)) ≡ length (lines_from [] trace)
  pub few : count ≤ at
  pub inside : at ≤ length trace

pub lines_start : (trace : List ℕ) → CountedLines trace 0 0
lines_start trace = record { on = omega arith; few = omega arith; inside = omega arith }

module _ {trace : List ℕ} {count at : ℕ} (c : CountedLines trace count at) where
  pub lines-turn : {end next : ℕ} → LineCut trace at end next → CountedLines trace (count + 1) next
  lines-turn l =
      let on = c.on in
      let cut = ap length l.line in
      record { on = omega arith; few = omega (arith, c.few, l.on); inside = l.inside }

  -- one more is left where there are characters
  pub lines_left : {end next : ℕ} → LineCut trace at end next → count < length (lines_from [] trace)
  lines_left l =
      let on = c.on in
      let cut = ap length l.line in
      omega arith

  pub lines-all : length trace ≤ at → count ≡ length (lines_from [] trace)
  lines-all past =
      let on = c.on in
      let none = ap length (lines-past trace past) in
      omega arith
