-- What is promised of a block of the program's input, and of the whole run, from a session on (rules 18.12 and 18.13): as many octets were
-- passed to `write` so far as the program's text for the input so far has. Definitions only.
use Rattle.std.specs.Prelude.{◌≡◌, ℕ, ◌%◌, ◌^◌, Bool, true, List, ◌++◌, length, take}
use Rattle.session.specs.View.{View}
use Rattle.session_held.specs.Table.{Lent, view_in}
use Rattle.session_held.specs.Laid.{InRanges}
use Rattle.line.specs.Lines.{program_from}
use Rattle.line.specs.Feed.{starting_at, fed, at_end, PartWayFrom}
use Rattle.line.specs.Promise.{step_limit}
use Rattle.line.specs.FeedPromise.{Feedable}

-- the most octets of a block of the input, and of what is passed to `write` at once: the toolchain's large buffer
abbrev pub buffer_size : ℕ
buffer_size = 65536

-- how many octets, as a counter of 64 bits shows it
abbrev pub tallied : List ℕ → ℕ
tallied octets = length octets % 2 ^ 64

-- the program part way, with more text passed to `write`; the counter has all octets passed so far
pub record Onward (first : View) (input text : List ℕ) (session : Lent) (line : List ℕ) (begun handed : ℕ) : Type 0 where
  pub more : List ℕ
  pub way : PartWayFrom first input (text ++ more) session line begun
  pub count : handed ≡ tallied (text ++ more)

-- the program can go on. A front of the block is taken and its text passed to `write`, whatever was taken and passed before; if all was
-- written, that front is the whole block
pub record Passes (before : Lent) (line : List ℕ) (begun : ℕ) (block : List ℕ) (handed : ℕ) (after : Lent) (new : List ℕ) (kept : ℕ)
    (out : List ℕ) (sum : ℕ) (written : Bool)
    : Type 0 where
  pub feedable : Feedable step_limit after new kept out 0
  pub front : ℕ
  pub way : (first : View) (input text : List ℕ) → PartWayFrom first input text before line begun → handed ≡ tallied text
      → Onward first (input ++ take front block) text after new kept sum
  pub whole : written ≡ true → take front block ≡ block

-- there is an input, as long as all that was read: as many octets were passed to `write` as the program writes for it, and the session is
-- the one after it
pub record Complete (first : View) (session : Lent) (taken handed : ℕ) : Type 0 where
  pub input : List ℕ
  pub read : taken ≡ tallied input
  pub wrote : handed ≡ tallied (program_from first input)
  pub state : view_in session ≡ (at_end (fed input (starting_at first))).view

-- the run: either a write failed, or it is complete; the session at its end is within its ranges
pub record Serves (first : View) (session : Lent) (taken handed : ℕ) (whole : Bool) : Type 0 where
  pub complete : whole ≡ true → Complete first session taken handed
  pub within : InRanges session
