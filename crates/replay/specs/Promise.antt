-- What the functions of this program require of each other: that the next line can be dropped or stepped (rule 21.1). Definitions only.
use Rattle.std.specs.Prelude.{◌≡◌, ℕ, List, length}
use Rattle.session_held.specs.Table.{Lent}
use Rattle.line.specs.Promise.{Able, step_limit}
use Rattle.line.specs.FeedPromise.{Feedable}

-- after a line no other has begun, there is room for all that the next can write, and the buffer has the same length
pub record Writes (session : Lent) (begun : ℕ) (old out : List ℕ) (end : ℕ) : Type 0 where
  pub able : Able step_limit session out end
  pub none : begun ≡ 0
  pub long : length out ≡ length old

-- after some lines another may come, and its front may be kept
pub record Goes (session : Lent) (line : List ℕ) (begun : ℕ) (old out : List ℕ) (end : ℕ) : Type 0 where
  pub ready : Feedable step_limit session line begun out end
  pub long : length out ≡ length old
