-- One line after another, on plain values: after each another may come. Assumes nothing.
use Rattle.std.proofs.Common.{◌≡◌, ℕ, ◌+◌, ◌-◌, ◌<◌, ◌≤◌, List, length, take, drop, replicate, sym, refl, ◌∙◌, arith, length-drop, length-take-le}
use Rattle.session_held.specs.Table.{Lent}
use Rattle.session_held.specs.Laid.{InRanges}
use Rattle.line.specs.Lines.{Made}
use Rattle.line.specs.Feed.{kept_limit}
use Rattle.line.specs.Promise.{Able, Does, step_limit}
use Rattle.line.specs.FeedPromise.{Found, LineIn, LineKept, Feedable}
use Rattle.line.proofs.Laws.{appends-long, line-fresh}
use Rattle.replay.specs.Promise.{Writes, Goes}

-- a line is done: its text goes out with all that waits, or waits
module _ {before after : Lent} {old : List ℕ} {at : ℕ} (able : Able step_limit before old at) {made : Made} {end : ℕ} {new : List ℕ}
    (d : Does made old at after end new) where
  pub line-out : Writes after 0 old new 0
  line-out =
      record {
        able = record { within = d.within; room = omega (arith, able.room, appends-long d.lent) };
        none = refl;
        long = appends-long d.lent;
      }

  pub line-waits : step_limit ≤ length new - end → Writes after 0 old new end
  line-waits room =
      record {
        able = record { within = d.within; room = omega (arith, d.lent.after, d.lent.fits, appends-long d.lent) };
        none = refl;
        long = appends-long d.lent;
      }

-- of a line that is done nothing is kept
pub goes-line : {session : Lent} {line : List ℕ} {kept begun : ℕ} {old out : List ℕ} {end : ℕ} → kept ≡ 0 → LineIn line kept
    → Writes session begun old out end
    → Goes session line begun old out end
goes-line is held w = record { ready = record { able = w.able; line = rw (w.none ∙ sym is) held }; long = w.long }

-- where the next line feed is, or the end of the block
pub feed-inside : (block : List ℕ) {at stop : ℕ} → at < length block → Found (take (length block - at) (drop at block)) stop
    → at + stop ≤ length block
feed-inside block {at} more found =
    omega (arith, found.begun.inside, length-take-le (length block - at) (drop at block) (omega (arith, length-drop at block)))

-- nothing has come yet
pub goes-start : {session : Lent} {line : List ℕ} {begun : ℕ} {out : List ℕ} {end : ℕ} → Feedable step_limit session line begun out end
    → Goes session line begun out out end
goes-start r = record { ready = r; long = refl }

module _ {session : Lent} {line : List ℕ} {begun : ℕ} {old out : List ℕ} {end : ℕ} (g : Goes session line begun old out end) where
  -- a line more
  pub goes_then : {after : Lent} {new_line : List ℕ} {kept : ℕ} {new : List ℕ} {later : ℕ} → Goes after new_line kept out new later
      → Goes after new_line kept old new later
  goes_then h = record { ready = h.ready; long = h.long ∙ g.long }

  -- the front of a line more
  pub goes_kept : {more new_line : List ℕ} {kept : ℕ} → LineKept line begun more new_line kept → Goes session new_line kept old out end
  goes_kept k = record { ready = record { able = g.ready.able; line = k.holds }; long = g.long }

-- ---- block after block
abbrev pub buffer_size : ℕ
buffer_size = 65536

-- beside what a line asks for, the lengths of the buffers
pub record Between (session : Lent) (line block : List ℕ) (begun : ℕ) (out : List ℕ) (end : ℕ) : Type 0 where
  pub ready : Feedable step_limit session line begun out end
  pub block-long : buffer_size ≡ length block
  pub out-long : buffer_size ≡ length out

pub between_start : {session : Lent} {block out : List ℕ} → InRanges session → buffer_size ≡ length block → buffer_size ≡ length out
    → Between session (replicate kept_limit 0) block 0 out 0
between_start within read room =
    record {
      ready = record { able = record { within = within; room = omega arith }; line = line-fresh kept_limit refl };
      block-long = read;
      out-long = room;
    }

module _ {session : Lent} {line block : List ℕ} {begun : ℕ} {out : List ℕ} {end : ℕ} (b : Between session line block begun out end) where
  -- something else stands in the block
  pub between-read : {new : List ℕ} → length new ≡ length block → Between session line new begun out end
  between-read same = record { ready = b.ready; block-long = b.block-long ∙ sym same; out-long = b.out-long }

  -- and is taken
  pub between-on : {new : List ℕ} → length new ≡ length block → {after : Lent} {new_line : List ℕ} {kept : ℕ} {new_out : List ℕ} {later : ℕ}
      → Goes after new_line kept out new_out later
      → Between after new_line new kept new_out later
  between-on same g = record { ready = g.ready; block-long = b.block-long ∙ sym same; out-long = b.out-long ∙ sym g.long }
