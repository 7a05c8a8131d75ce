-- Laws of a block: after one the program can go on, and one with room for a step is taken in at least in part. Assumes nothing.
use Prim.Native.Nat.{ℕ, ◌≤◌, ◌<◌}
use mathlib.Core.Path.{◌≡◌, refl, sym, ◌∙◌}
use mathlib.Core.List.{List}
use mathlib.Core.Logic.{⊎_elim}
use lib.ListN.{length, take, replicate, length-replicate, get_or-replicate, get_or-eq_default}
use lib.Seq.{length-take-le}
use native.Mathlib.Omega.{arith}
use Rattle.octets.proofs.Laws.{below_or_not}
use Rattle.session_held.specs.Table.{Lent}
use Rattle.line.specs.Feed.{kept_limit, going_in}
use Rattle.line.specs.Promise.{step_limit}
use Rattle.line.specs.FeedPromise.{LineIn, Feedable, Feeds}
use Rattle.line.proofs.FeedTaken.{taken-line, line_end-some}

-- the lent line at the start
pub line-fresh : (n : ℕ) → kept_limit ≡ n → LineIn (replicate n 0) 0
line-fresh n size =
    record {
      size = size ∙ sym (length-replicate n 0);
      short = omega arith;
      zeros = λ k past.
          ⊎_elim (λ inside. get_or-replicate n k 0 0 inside)
          (λ out. get_or-eq_default (replicate n 0) 0 (omega (arith, length-replicate {A = ℕ} n 0)))
          (below_or_not k n);
    }

-- the line that has begun
pub begun-length : {line : List ℕ} {begun : ℕ} → LineIn line begun → length (take begun line) ≡ begun
begun-length {line} {begun} held = length-take-le begun line (omega (arith, held.size, held.short))

-- with room for a step a block may be taken in
pub feedable-block : {session : Lent} {l : List ℕ} {begun : ℕ} {out : List ℕ} {at : ℕ} → Feedable step_limit session l begun out at
    → Feedable 0 session l begun out at
feedable-block able =
    record { able = record { within = able.able.within; room = omega (arith, able.able.room) }; line = able.line }

-- after a block another may be taken in, once what was written is handed on
pub feeds-on : {session after : Lent} {l : List ℕ} {begun : ℕ} {s out : List ℕ} {new_l : List ℕ} {kept taken : ℕ}
    {new : List ℕ} {end : ℕ} → Feedable step_limit session l begun out 0
    → Feeds (going_in session l begun out 0) s out after new_l kept taken new end → Feedable step_limit after new_l kept new 0
feeds-on able f =
    record {
      able = record { within = f.takes.within; room = omega (arith, able.able.room, f.takes.long) };
      line = f.takes.line;
    }

-- a block with room for a step is taken in at least in part
pub feeds-some : {session after : Lent} {l : List ℕ} {begun : ℕ} {s out : List ℕ} {new_l : List ℕ} {kept taken : ℕ}
    {new : List ℕ} {end : ℕ} → Feedable step_limit session l begun out 0
    → Feeds (going_in session l begun out 0) s out after new_l kept taken new end → 1 ≤ length s → 0 < taken
feeds-some {session} {after} {l} {begun} {s} {out} able f some =
    omega (arith, f.all, taken-line (length out) s (going_in session l begun out 0) able.able.room refl, line_end-some s some)
