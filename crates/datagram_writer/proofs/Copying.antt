-- The loop that copies octets, on plain values. Assumes nothing.
use Prim.Native.Nat.{ℕ, ◌+◌, ◌≤◌, ◌<◌}
use mathlib.Core.Path.{◌≡◌, refl}
use mathlib.Core.List.{List}
use lib.ListN.{length, get_or, take, set, length-set}
use native.Mathlib.Omega.{arith}
use Rattle.length.specs.Promise.{Put}
use Rattle.length.proofs.Laws.{put-none, put-turn, put_all}

-- the first i octets are written
pub record Copied (octets old new : List ℕ) (i : ℕ) : Type 0 where
  pub bound : i ≤ length octets
  pub long : length new ≡ length old
  pub put : Put (take i octets) old new i

module _ {octets old : List ℕ} where
  pub copy_start : Copied octets old old 0
  copy_start = record { bound = omega arith; long = refl; put = put-none }

  pub copy-turn : {new : List ℕ} {i : ℕ} → Copied octets old new i → i < length octets → length octets ≤ length old
      → Copied octets old (set new i (get_or octets i 0)) (i + 1)
  copy-turn {new} {i} v more room =
      record {
        bound = omega arith;
        long = rw (length-set new i (get_or octets i 0)) v.long;
        put = put-turn octets v.put more (omega arith);
      }

  pub copy_done : {new : List ℕ} {i : ℕ} → Copied octets old new i → length octets ≤ i → Put octets old new (length octets)
  copy_done {new} {i} v end = let all : i ≡ length octets = omega (arith, v.bound) in rw all at (put_all v.put end)

pub ruleset copies = (copy_start, copy-turn, copy_done)
