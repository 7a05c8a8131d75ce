-- What the writer puts into the lent buffer, after the bits that wait: bits, and an octet edge; one law for each answer. Assumes nothing.
use Prim.Native.Nat.{ℕ, ◌+◌, ◌-◌, ◌*◌, ◌/◌, ◌%◌, ◌^◌, ◌≤◌, ◌<◌}
use mathlib.Core.Path.{◌≡◌}
use mathlib.Core.List.{List}
use lib.ListN.{length, set}
use lib.Pow.{shl_lt, shr_lt}
use native.Mathlib.Omega.{arith}
use borrow.Author.Tests.{lt-ltb, le-ltb}
use Rattle.format.specs.Waiting.{waiting, full_octets, left, closed}
use Rattle.format.proofs.Laws.{joined_small}
use Rattle.packet_laws.specs.Items.{BitsFit, BitsPut, EdgeFits}
use Rattle.length.specs.Promise.{Put}
use Rattle.length.proofs.Laws.{put-none, put_one}

-- ---- bits after those that wait
pub bits-room : {k v n bits : ℕ} {old : List ℕ} → BitsFit (waiting k v) n bits old → 8 ≤ k + n → 1 ≤ length old
unfolding full_octets
bits-room {k} {v} {n} fits over = rw (le-ltb (k + n) 8 over) at fits.room

module _ {k v n bits : ℕ} {old : List ℕ} {a : ℕ} where
  pub bits_none : BitsFit (waiting k v) n bits old → a ≡ 2 ^ n → k + n < 8
      → BitsPut (waiting k v) n bits old old 0 (k + n) (v * a + bits)
  unfolding full_octets left
  bits_none fits is few =
      record {
        put = rw (lt-ltb (k + n) 8 few) put-none;
        waits = rw (lt-ltb (k + n) 8 few, is);
      }

  module _ {b : ℕ} where
    pub bits-octet : BitsFit (waiting k v) n bits old → a ≡ 2 ^ n → 8 ≤ k + n → b ≡ 2 ^ (k + n - 8) → (v * a + bits) / b < 256
    bits-octet fits is over part =
        let all : k + n ≡ 8 + (k + n - 8) = omega arith in
        let small = joined_small (waiting k v) fits.waits n bits fits.small in
        rw (is, part) (shr_lt 8 (k + n - 8) (rw all at small))

    pub bits-one : BitsFit (waiting k v) n bits old → a ≡ 2 ^ n → 8 ≤ k + n → b ≡ 2 ^ (k + n - 8)
        → BitsPut (waiting k v) n bits old (set old 0 ((v * a + bits) / b)) 1 (k + n - 8) ((v * a + bits) % b)
    unfolding full_octets left
    bits-one fits is over part =
        record {
          put = rw (le-ltb (k + n) 8 over, is, part) (put_one ((v * 2 ^ n + bits) / 2 ^ (k + n - 8)) put-none (bits-room fits over));
          waits = rw (le-ltb (k + n) 8 over, is, part);
        }

-- ---- the octet edge after them
module _ {k v : ℕ} {old : List ℕ} where
  pub edge_none : EdgeFits (waiting k v) old → k < 1 → Put (closed (waiting k v)) old old 0
  unfolding closed
  edge_none fits none = rw (le-ltb 0 k (omega arith)) put-none

  pub edge-room : EdgeFits (waiting k v) old → 1 ≤ k → 1 ≤ length old
  unfolding closed
  edge-room fits some = rw (lt-ltb 0 k some) at fits.room

  module _ {a : ℕ} where
    pub edge-octet : EdgeFits (waiting k v) old → 1 ≤ k → a ≡ 2 ^ (8 - k) → v * a < 256
    edge-octet fits some is =
        let all : k + (8 - k) ≡ 8 = omega (arith, fits.waits.few) in
        rw is (rw all at (shl_lt k (8 - k) fits.waits.small))

    pub edge-one : EdgeFits (waiting k v) old → 1 ≤ k → a ≡ 2 ^ (8 - k) → Put (closed (waiting k v)) old (set old 0 (v * a)) 1
    unfolding closed
    edge-one fits some is = rw (lt-ltb 0 k some, is) (put_one (v * 2 ^ (8 - k)) put-none (edge-room fits some))

-- the laws of putting bits and an edge
pub ruleset puts = (bits_none, bits-one, bits-octet, edge_none, edge-one, edge-octet)
