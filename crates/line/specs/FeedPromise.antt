-- What the calls promise that take the program's input block by block (rule 18.12). Definitions only.
use Rattle.std.specs.Prelude.{ℕ, suc, ◌+◌, ◌≤◌, ◌<◌, ◌≡◌, Bool, true, not, cond, ◌&&◌, List, [], ◌∷◌, ◌++◌, length, get_or, take, drop, eqb, ltb}
use Rattle.session_held.specs.Table.{Lent}
use Rattle.session_held.specs.Laid.{InRanges}
use Rattle.line.specs.Lines.{line_feed}
use Rattle.line.specs.Feed.{kept_limit, Going, taken_in, fed, at_end, going_in}
use Rattle.line.specs.Promise.{Able, step_limit}

-- how many characters are checked together in the search for a line feed
abbrev pub looked_at : ℕ
looked_at = 32

-- the character at distance j from a place is no line feed
abbrev pub plain_at : List ℕ → ℕ → ℕ → Bool
plain_at octets at j = not (eqb (get_or octets (at + j) 0) line_feed)

-- no line feed comes before a place
pub record Begun (octets : List ℕ) (at : ℕ) : Type 0 where
  pub plain : (k : ℕ) → k < at → get_or octets k 0 ≡ line_feed → ⊥
  pub inside : at ≤ length octets

-- the first line feed, or the end
pub record Found (octets : List ℕ) (at : ℕ) : Type 0 where
  pub begun : Begun octets at
  pub feed : at < length octets → get_or octets at 0 ≡ line_feed

-- the place after the first line feed, or the end
unfoldable pub line_end : List ℕ → ℕ
line_end [] = 0
line_end (c ∷ rest) = cond (eqb c line_feed) 1 (suc (line_end rest))

-- how many characters of a block are taken with a buffer of `room` characters: at the start of the block, and of each line in it, there
-- must be room for all that a line can write
unfoldable pub taken_of : ℕ → Bool → List ℕ → Going → ℕ
taken_of room starts [] now = 0
taken_of room starts (c ∷ rest) now =
    cond (starts && ltb room (length now.text + step_limit)) 0 (suc (taken_of room (eqb c line_feed) rest (taken_in c now)))

-- the buffer for a line: the line that has begun, and zeros after it
pub record LineIn (l : List ℕ) (begun : ℕ) : Type 0 where
  pub size : kept_limit ≡ length l
  pub short : begun ≤ kept_limit
  pub zeros : (k : ℕ) → begun ≤ k → get_or l k 0 ≡ 0

-- the line that has begun, with more characters after it
pub record LineKept (old : List ℕ) (begun : ℕ) (more new : List ℕ) (r : ℕ) : Type 0 where
  pub line : take r new ≡ take kept_limit (take begun old ++ more)
  pub holds : LineIn new r

-- what is required: the session's ranges, room for `most` characters, and the line that has begun
pub record Feedable (most : ℕ) (session : Lent) (l : List ℕ) (begun : ℕ) (out : List ℕ) (at : ℕ) : Type 0 where
  pub able : Able most session out at
  pub line : LineIn l begun

-- what is promised for the first `taken` characters of `octets`, from the state `before`: the program part way after them, with its session
-- within its ranges; the buffer from `end` on is unchanged
pub record Takes (before : Going) (octets out : List ℕ) (session : Lent) (l : List ℕ) (begun taken : ℕ) (new : List ℕ) (end : ℕ)
    : Type 0 where
  pub state : going_in session l begun new end ≡ fed (take taken octets) before
  pub within : InRanges session
  pub line : LineIn l begun
  pub inside : taken ≤ length octets
  pub fits : end ≤ length out
  pub rest : drop end new ≡ drop end out
  pub long : length new ≡ length out

-- one line, or as much of it as there is
pub record TakesLine (before : Going) (octets out : List ℕ) (at : ℕ) (session : Lent) (l : List ℕ) (begun taken : ℕ) (new : List ℕ)
    (end : ℕ) : Type 0 where
  pub takes : Takes before octets out session l begun taken new end
  pub all : taken ≡ line_end octets
  pub some : 0 < taken
  pub later : at ≤ end

-- a block: all of it, or as much as the buffer surely has room for
pub record Feeds (before : Going) (octets out : List ℕ) (session : Lent) (l : List ℕ) (begun taken : ℕ) (new : List ℕ) (end : ℕ)
    : Type 0 where
  pub takes : Takes before octets out session l begun taken new end
  pub all : taken ≡ taken_of (length out) true octets before

-- what is promised at the end of the input
pub record Ends (before : Going) (out : List ℕ) (session : Lent) (new : List ℕ) (end : ℕ) : Type 0 where
  pub state : going_in session [] 0 new end ≡ at_end before
  pub within : InRanges session
  pub fits : end ≤ length out
  pub rest : drop end new ≡ drop end out
  pub long : length new ≡ length out
