-- How a number leaves a session (rules 12.1 to 12.13): the number at the base is released, or lost if it is unknown and may be skipped. The
-- order of refusals is 16, 10, 13 (rule 12.9); 17 comes before them, in `session_calls`. Definitions only.
use Rattle.std.specs.Prelude.{ℕ, ◌+◌, Bool, not, cond, ◌&&◌, List, length, leb, ltb}
use Rattle.length.specs.Refusals.{base_unknown, no_room, all_passed}
use Rattle.length.specs.Answers.{Answer, done, refuse, mapped}
use Rattle.session.specs.Cells.{State, unknown, received, spare, repaired, blank, Cell, cell_at, unknown_at, kept_before}
use Rattle.session.specs.View.{View, Counts, sum, session_limit, gone_on}

-- one more of the kind that leaves (rules 9.10 and 12.13): an unknown number is lost, and a blank one never leaves
abbrev pub counted : State → Counts → Counts
counted unknown c = record { received = c.received; spare = c.spare; repaired = c.repaired; lost = c.lost + 1 }
counted received c = record { received = c.received + 1; spare = c.spare; repaired = c.repaired; lost = c.lost }
counted spare c = record { received = c.received; spare = c.spare + 1; repaired = c.repaired; lost = c.lost }
counted repaired c = record { received = c.received; spare = c.spare; repaired = c.repaired + 1; lost = c.lost }
counted blank c = c

-- the number at the base
abbrev pub at_base : View → Cell
at_base view = cell_at view.cells kept_before

-- the number at the base leaves: it is counted, and the base moves on by one (rule 12.5)
abbrev pub moved_on : View → View
moved_on view = gone_on (counted (at_base view).state view.counts) view

-- the number that leaves, and the session after. Its kind is its state, where unknown means lost; a lost number has no octets and note 0
-- (rules 12.2 and 12.4)
pub record Release : Type 0 where
  pub kind : State
  pub number : ℕ
  pub note : ℕ
  pub octets : List ℕ
  pub after : View

-- the call, with leave to skip or without, and with room for this many octets (rule 12.1). Whatever is at the base leaves: leave only lifts
-- refusal 10, and an unknown number has no octets and needs no room (rules 12.3, 12.4 and 12.11)
unfoldable pub release : Bool → ℕ → View → Answer Release
release leave room view =
    let cell = at_base view in
    cond (leb session_limit (sum view.counts)) (refuse all_passed)
    (cond (unknown_at view.cells kept_before && not leave) (refuse base_unknown)
    (cond (ltb room (length cell.octets)) (refuse no_room)
    (done
    (record {
      kind = cell.state;
      number = view.base;
      note = cell.note;
      octets = cell.octets;
      after = moved_on view;
    }))))

-- the session after a release
abbrev pub view_after_release : Answer Release → Answer View
view_after_release answer = mapped (λ (r : Release). r.after) answer
