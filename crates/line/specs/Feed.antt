-- The program part way through its input, which it takes character by character, so that it does not matter how the input is cut into
-- blocks (rules 18.8 and 18.12). Definitions only.
use Rattle.std.specs.Prelude.{ℕ, ◌+◌, ◌≡◌, cond, List, [], ◌∷◌, ◌++◌, length, take, eqb}
use Rattle.session.specs.View.{View, fresh_view}
use Rattle.session_held.specs.Table.{Lent, view_in}
use Rattle.line.specs.Hex.{line_limit}
use Rattle.line.specs.Lines.{line_feed, step}

-- what is written so far, the session, and the line that has begun
pub record Going : Type 0 where
  pub text : List ℕ
  pub view : View
  pub begun : List ℕ

-- before the first character, with a session
abbrev pub starting_at : View → Going
starting_at view = record { text = []; view = view; begun = [] }

abbrev pub at_start : Going
at_start = starting_at fresh_view

-- a line feed: the line is done
unfoldable pub line_done : Going → Going
line_done now =
    let made = step now.begun now.view in
    record { text = now.text ++ made.text; view = made.after; begun = [] }

-- of a line that is too long, keep just enough to know that it is too long (rule 18.11)
abbrev pub kept_limit : ℕ
kept_limit = line_limit + 1

-- another character
unfoldable pub longer : ℕ → List ℕ → List ℕ
longer c begun = take kept_limit (begun ++ (c ∷ []))

-- one character
unfoldable pub taken_in : ℕ → Going → Going
taken_in c now =
    cond (eqb c line_feed) (line_done now) (record { text = now.text; view = now.view; begun = longer c now.begun })

-- some characters
unfoldable pub fed : List ℕ → Going → Going
fed [] now = now
fed (c ∷ block) now = fed block (taken_in c now)

-- rule 18.8: a last line without a line feed counts unless it is empty
unfoldable pub at_end : Going → Going
at_end now = cond (eqb (length now.begun) 0) now (line_done now)

-- the program part way as the code holds it: the text is the front of out, and the line that has begun is the front of line
abbrev pub going_in : Lent → List ℕ → ℕ → List ℕ → ℕ → Going
going_in session line begun out end = record { text = take end out; view = view_in session; begun = take begun line }

-- between two blocks, from a session on: the input taken, the text written, and the session and the line that has begun as the code holds
-- them
pub record PartWayFrom (first : View) (input text : List ℕ) (session : Lent) (line : List ℕ) (begun : ℕ) : Type 0 where
  pub state : fed input (starting_at first) ≡ record { text = text; view = view_in session; begun = take begun line }

-- from a fresh session on
abbrev pub PartWay : List ℕ → List ℕ → Lent → List ℕ → ℕ → Type 0
PartWay input text session line begun = PartWayFrom fresh_view input text session line begun
