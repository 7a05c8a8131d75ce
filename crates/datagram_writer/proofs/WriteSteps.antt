-- `put_datagram`, `write_allowed` and `write`, in the words of the code: one law for each answer. Assumes nothing.
use Rattle.std.proofs.Common.{Result, Err}
use Prim.Native.Nat.{ℕ, ◌+◌, ◌-◌, ◌≤◌, ◌<◌}
use mathlib.Core.Path.{◌≡◌, sym, ◌∙◌}
use mathlib.Core.Bool.{Bool, true, false, not}
use mathlib.Core.List.{List}
use lib.ListN.{length}
use lib.Dec.{eqb}
use native.Mathlib.Omega.{arith}
use borrow.Author.Tests.{not-true, not-false, eqb-true}
use borrow.Rule.Slice.PartMut.{mid_of, put_mid}
use Rattle.length.specs.Refusals.{outside_sizes, wrong_settings, no_room}
use Rattle.length.specs.Answers.{done}
use Rattle.length.specs.Tables.{unless}
use Rattle.length.specs.Length.{length_limit}
use Rattle.length.specs.Promise.{Puts, RefusalMade, Put}
use Rattle.length.specs.declared.Refusal.{Refusal}
use Rattle.length.proofs.Laws.{both, put_next, put-long, full-puts, room-left}
use Rattle.datagram.specs.Write.{items_octets, datagram_octets, datagram_to_write, carried_of, cut, sum_of}
use Rattle.datagram.specs.Write.{count_inside, lengths_inside}
use Rattle.datagram.specs.Inner.Heads.{Bounded, FrontAsked, front_octets, items_size, datagram_size}
use Rattle.datagram.specs.declared.kind.Kind.{Kind}
use Rattle.datagram.proofs.Laws.{Allowed, allowed-bounded, allowed-written, datagram-form, datagram-length, number-length, front_length}

module _ (number : ℕ) (packet : List ℕ) (k : Kind) (lengths run : List ℕ) where
  -- ---- put_datagram
  pub front-asked : {old : List ℕ} → Bounded packet k lengths run → datagram_size number packet k lengths ≤ length old
      → FrontAsked number packet k (length lengths) old
  front-asked b room =
      let size = front_length number packet k (length lengths) in
      let two = number-length number in
      record { newest = b.newest; head = b.head; room = omega arith }

  pub items-asked : {old mid : List ℕ} {at : ℕ} → Bounded packet k lengths run → datagram_size number packet k lengths ≤ length old
      → Put (front_octets number packet k (length lengths)) old mid at
      → (sum_of lengths ≡ length run) × (length run ≤ length_limit) × (items_size lengths ≤ length (mid_of at (length mid - at) mid))
  items-asked {old} {mid} {at} b room p =
      let size = front_length number packet k (length lengths) in
      let two = number-length number in
      let long = put-long p in
      let told = p.answer in
      (b.summed, b.few, room-left mid at (items_size lengths) (omega arith))

  pub datagram-put : {old mid part : List ℕ} {at n : ℕ} → Put (front_octets number packet k (length lengths)) old mid at
      → Put (items_octets (cut lengths run)) (mid_of at (length mid - at) mid) part n
      → Put (datagram_octets (carried_of number packet k lengths run)) old (put_mid at (length mid - at) mid part) (at + n)
  datagram-put p q = rw (datagram-form number packet k lengths run) (put_next p q)

  -- ---- write_allowed
  pub allowed-full : {old : List ℕ} {size : ℕ} {r : Refusal} → RefusalMade no_room r → Bounded packet k lengths run
      → size ≡ datagram_size number packet k lengths → length old < size
      → Puts (done (datagram_octets (carried_of number packet k lengths run))) old old (Err r)
  allowed-full made b e full =
      let long = datagram-length number packet k lengths run (omega arith) in
      full-puts made (omega arith)

  -- ---- write
  pub write-uncounted : {old : List ℕ} {b : Bool} {r : Refusal} → RefusalMade outside_sizes r → b ≡ count_inside k (length lengths)
      → not b ≡ true → Puts (datagram_to_write number packet k lengths run) old old (Err r)
  unfolding datagram_to_write unless
  write-uncounted made found out =
      let count : count_inside k (length lengths) ≡ false = sym found ∙ not-true _ out in
      record { answer = rw (count, made.answer); lent = rw count }

  pub write-unsummed : {old : List ℕ} {b d : Bool} {r : Refusal} → RefusalMade wrong_settings r → b ≡ count_inside k (length lengths)
      → not b ≡ false → d ≡ eqb (sum_of lengths) (length run) → not d ≡ true
      → Puts (datagram_to_write number packet k lengths run) old old (Err r)
  unfolding datagram_to_write unless
  write-unsummed made found in' told out =
      let count : count_inside k (length lengths) ≡ true = sym found ∙ not-false _ in' in
      let sum : eqb (sum_of lengths) (length run) ≡ false = sym told ∙ not-true _ out in
      record { answer = rw (count, sum, made.answer); lent = rw (count, sum) }

  pub write-unsized : {old : List ℕ} {b d f : Bool} {r : Refusal} → RefusalMade outside_sizes r → b ≡ count_inside k (length lengths)
      → not b ≡ false → d ≡ eqb (sum_of lengths) (length run) → not d ≡ false → f ≡ lengths_inside packet k lengths → not f ≡ true
      → Puts (datagram_to_write number packet k lengths run) old old (Err r)
  unfolding datagram_to_write unless
  write-unsized made found in' told in'' sized out =
      let count : count_inside k (length lengths) ≡ true = sym found ∙ not-false _ in' in
      let sum : eqb (sum_of lengths) (length run) ≡ true = sym told ∙ not-false _ in'' in
      let size : lengths_inside packet k lengths ≡ false = sym sized ∙ not-true _ out in
      record { answer = rw (count, sum, size, made.answer); lent = rw (count, sum, size) }

  pub passed : {b d f : Bool} → b ≡ count_inside k (length lengths) → not b ≡ false → d ≡ eqb (sum_of lengths) (length run) → not d ≡ false
      → f ≡ lengths_inside packet k lengths → not f ≡ false → Allowed packet k lengths run
  passed found in' told in'' sized in''' =
      let s = both _ _ (sym sized ∙ not-false _ in''') in
      record {
        counted = sym found ∙ not-false _ in';
        summed = eqb-true (sum_of lengths) (length run) (sym told ∙ not-false _ in'');
        newest = s.0;
        items = s.1;
      }

  pub write-passed : {old new : List ℕ} {r : Result ℕ Refusal} → Allowed packet k lengths run
      → Puts (done (datagram_octets (carried_of number packet k lengths run))) old new r
      → Puts (datagram_to_write number packet k lengths run) old new r
  write-passed a p = rw (allowed-written number a) p

-- the answers of the writer
pub ruleset writes = (
  front-asked,
  datagram-put,
  allowed-full,
  write-uncounted,
  write-unsummed,
  write-unsized,
  passed,
  write-passed,
  allowed-bounded,
)
