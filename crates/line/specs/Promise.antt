-- What the calls promise that do one line of the program (rules 18.1 to 18.6), a record for each, which their contracts cite. Definitions
-- only.
use Rattle.std.specs.Prelude.{ℕ, ◌+◌, ◌*◌, ◌≤◌, ◌≡◌, Bool, true, false, List, ◌++◌, length, take, drop}
use Rattle.length.specs.Answers.{Answer, done, refused}
use Rattle.datagram.specs.Sizes.{packet_limit}
use Rattle.session.specs.Cells.{kept_ahead}
use Rattle.session.specs.View.{View}
use Rattle.session.specs.Release.{Release, release}
use Rattle.session_held.specs.Table.{Lent, view_in}
use Rattle.session_held.specs.Laid.{InRanges}
use Rattle.line.specs.Lines.{Made, release_made}

-- the most characters of a result line, of all releases after a line, and of all that a line can write
abbrev pub result_limit : ℕ
result_limit = 7 + 2 * packet_limit

abbrev pub releases_limit : ℕ
releases_limit = kept_ahead * result_limit

abbrev pub step_limit : ℕ
step_limit = result_limit + releases_limit

-- some text written to the buffer from a place on, and the place after it; the rest is unchanged
pub record Appends (text old : List ℕ) (at : ℕ) (new : List ℕ) (end : ℕ) : Type 0 where
  pub lent : new ≡ take at old ++ text ++ drop (at + length text) old
  pub after : end ≡ at + length text
  pub fits : at + length text ≤ length old

-- what a part of a step requires: the session's ranges, and room for `most` characters
pub record Able (most : ℕ) (session : Lent) (out : List ℕ) (at : ℕ) : Type 0 where
  pub within : InRanges session
  pub room : at + most ≤ length out

-- what a part of a step with meaning m promises: the text that it writes to the buffer, and the session after, within its ranges
pub record Does (m : Made) (old : List ℕ) (at : ℕ) (session : Lent) (end : ℕ) (new : List ℕ) : Type 0 where
  pub lent : Appends m.text old at new end
  pub state : view_in session ≡ m.after
  pub within : InRanges session

-- whether there was something to release
abbrev pub goes_on : Answer Release → Bool
goes_on (done r) = true
goes_on (refused x) = false

-- what one release promises, with leave or without, from a session with this view
pub record ReleasesOne (leave : Bool) (view : View) (old : List ℕ) (at : ℕ) (session : Lent) (end : ℕ) (more : Bool) (new : List ℕ)
    : Type 0 where
  pub does : Does (release_made leave (release leave packet_limit view) view) old at session end new
  pub goes : more ≡ goes_on (release leave packet_limit view)
  pub few : end ≤ at + result_limit
