-- The claims of this crate, each proved by a law. Assumes nothing.
use Prim.Native.Nat.{ℕ}
use mathlib.Core.Path.{◌≡◌, refl, ap, ◌∙◌}
use mathlib.Core.List.{List, [], ◌∷◌}
use Rattle.session.specs.View.{fresh_view}
use Rattle.line.specs.Lines.{Made, lines_from, steps, program}
use Rattle.trace_replay.specs.Replay.{replay}
use Rattle.trace_replay.specs.Claims.{Claims, not_dropped}
use Rattle.trace_replay.proofs.Dropping.{dropped-exactly, dropped-none}
use Rattle.trace_replay.proofs.Rest.{rest, text-left, left-kept, dropped-nowhere, unreadable, give-up}
use Rattle.trace_replay.proofs.Lists.{lists-alike, listed-twice, never-occurs, left-more, left-among}
use Rattle.trace_replay.proofs.OneOutcome.{one-outcome, refuses}
use Rattle.trace_replay.proofs.Cases.{cases}

-- with an empty list all lines are left
left-all : (lines : List (List ℕ)) → not_dropped [] lines ≡ lines
unfolding not_dropped
left-all [] = refl
left-all (line ∷ lines) = left-kept [] line lines (dropped-none line) ∙ ap (λ (l : List (List ℕ)). line ∷ l) (left-all lines)

none-listed : (trace : List ℕ) → replay [] trace ≡ steps (lines_from [] trace) fresh_view
unfolding replay
none-listed trace =
    rest [] (lines_from [] trace) fresh_view ∙ ap (λ (l : List (List ℕ)). steps l fresh_view) (left-all (lines_from [] trace))

is-program : (trace : List ℕ) → (replay [] trace).text ≡ program trace
unfolding program
is-program trace = ap (λ (m : Made). m.text) (none-listed trace)

pub claims : Claims
claims =
    record {
      as_program = record { rest = rest; text = text-left; whole = none-listed; program = is-program };
      dropping = record { exactly = dropped-exactly; nothing = dropped-nowhere; unreadable = unreadable; give_up = give-up };
      lists =
          record {
            twice = listed-twice;
            alike = lists-alike;
            never_occurs = never-occurs;
            more = left-more;
            from_trace = left-among;
          };
      refuses = refuses;
      one_outcome = one-outcome;
      cases = cases;
    }
