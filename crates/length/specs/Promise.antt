-- What each public call of this crate promises, and what the length reader (rule 3.9) and every writer (rules 2.25 and 2.26) promise: one
-- record for each, which the contract cites. Definitions only.
use Rattle.std.specs.Prelude.{ℕ, ◌≤◌, ◌<◌, ◌≡◌, List, ◌++◌, length, drop, Result}
use Rattle.length.specs.Refusals.{refusal, refusal_at}
use Rattle.length.specs.Answers.{Answer, length_outcome, refusal_of, written_outcome, fitted, size_of, over}
use Rattle.length.specs.Length.{length_at, length_within}
use Rattle.length.specs.declared.Reason.{Reason}
use Rattle.length.specs.declared.Refusal.{Refusal}
use Rattle.length.specs.declared.Length.{Length}

-- an octet as a size
pub record Octet (octet r : ℕ) : Type 0 where
  pub same : r ≡ octet
  pub small : r < 256

-- a refusal with this reason and place 0 (rule 2.30)
pub record RefusalMade (why : Reason) (r : Refusal) : Type 0 where
  pub answer : r ≡ refusal why

-- a refusal with this reason, of an item that begins at the octet `place` (rule 2.27)
pub record RefusalPlaced (why : Reason) (place : ℕ) (r : Refusal) : Type 0 where
  pub answer : r ≡ refusal_at place why

-- what `length_code::read` promises for `octets`
pub record LengthRead (octets : List ℕ) (r : Result Length Refusal) : Type 0 where
  pub answer : length_outcome r ≡ length_at octets

-- what `length_code::read_within` promises for `octets`
pub record WithinRead (least most : ℕ) (octets : List ℕ) (r : Result Length Refusal) : Type 0 where
  pub answer : length_outcome r ≡ length_within least most octets

-- what a refused length says
pub record RefusalTold (found : Result Length Refusal) (r : Refusal) : Type 0 where
  pub answer : r ≡ refusal_of found

-- octets written to the front of a part of a buffer that has room for them; the rest is unchanged (rule 2.26)
pub record Put (octets old new : List ℕ) (size : ℕ) : Type 0 where
  pub inside : length octets ≤ length old
  pub answer : size ≡ length octets
  pub lent : new ≡ octets ++ drop (length octets) old

-- what a call promises that writes w to the front of the caller's buffer: its answer, and the whole buffer, after a refusal too (rules
-- 2.13, 2.25 and 2.26)
pub record Puts (w : Answer (List ℕ)) (old new : List ℕ) (r : Result ℕ Refusal) : Type 0 where
  pub answer : written_outcome r ≡ size_of (fitted w old)
  pub lent : new ≡ over (fitted w old) old
