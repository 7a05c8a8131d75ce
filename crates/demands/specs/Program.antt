-- The program: its whole case (rule 26.17), and what it writes for any input, however that is cut into blocks (rule 18.12). It begins
-- with a fresh session. At each step it is given a block, the front of the remaining input, of any length; it takes some of the block,
-- writes some text, and goes on with the rest. Then the input ends. Each call may return anything that its promise allows. Definitions
-- only.
use Rattle.std.specs.Prelude.{ℕ, ◌≡◌, List, [], ◌++◌, take, drop}
use Rattle.session_held.specs.Table.{Lent, lent_by}
use Rattle.session_held.specs.Promise.{Fresh}
use Rattle.session_held.specs.declared.Session.{Session}
use Rattle.line.specs.Claims as lines
use Rattle.line.specs.Lines.{program}
use Rattle.line.specs.Feed.{going_in}
use Rattle.line.specs.FeedPromise.{Feeds, Ends}

-- this much of the input is still to come, this text is written, and the program holds this session and this begun line
pub data Running (input : List ℕ) : List ℕ → List ℕ → Lent → List ℕ → ℕ → Type 0 where
  start : {r : Session} (line : List ℕ) → Fresh r → Running input input [] (lent_by r) line 0
  block : {text : List ℕ} {session after : Lent} {line : List ℕ} {begun : ℕ} (octets more : List ℕ) {out later : List ℕ} {kept taken : ℕ}
      {new : List ℕ} {end : ℕ} → Running input (octets ++ more) text session line begun
      → Feeds (going_in session line begun out 0) octets out after later kept taken new end
      → Running input (drop taken octets ++ more) (text ++ take end new) after later kept

pub record Program : Type 0 where
  -- the whole case (rule 26.17)
  pub whole_case : lines.WholeCase
  -- digits of both cases are read, and a line that is not made of paired digits is refused (rules 18.7 and 18.10)
  pub cases : lines.Cases
  -- a line that was written reads back to the same octets (rule 18.7)
  pub written_reads : lines.WrittenReads
  -- after each line the program releases all it can (rules 18.1 to 18.3)
  pub releases_all : lines.ReleasesAll
  -- each step alone; and with room for a line, some of each block is always taken (rule 18.12)
  pub in_turn : lines.InTurn
  -- once no input is left, the text of all steps, then what the end of the input adds, is what the program must write (rule 18.12)
  pub writes : {input text : List ℕ} {session after : Lent} {line : List ℕ} {begun : ℕ} {out new : List ℕ} {end : ℕ}
      → Running input [] text session line begun
      → Ends (going_in session line begun out 0) out after new end
      → program input ≡ text ++ take end new
