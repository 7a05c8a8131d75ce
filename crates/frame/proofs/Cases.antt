-- The cases of a joiner and of a line, each computed. Assumes nothing.
use Prim.Native.Nat.{ℕ, ◌≤◌}
use mathlib.Core.Path.{◌≡◌, refl}
use mathlib.Core.Bool.{true, false}
use mathlib.Core.List.{List, [], ◌∷◌, flatten}
use lib.ListN.{length, replicate}
use native.Mathlib.Omega.{arith}
use Rattle.length.specs.Answers.{refuse}
use Rattle.length.specs.Tables.{unless}
use Rattle.length.specs.Refusals.{outside_ranges}
use Rattle.octets.specs.Place.{all_below}
use Rattle.frame.specs.Frame.{frame_limit, tainted, opened, with_added, good_frame, on_open, field_step, would_pass}
use Rattle.frame.specs.Joiner.{in_storage, held_as, joining_of, zeros_after, ranges_of, joiner_in_ranges}
use Rattle.frame.specs.Promise.{field_answer, joiner_after, loss_answer, joiner_after_loss}
use Rattle.frame.specs.Line.{row_right, stretches, gathered, frame_of, senders_frames, row_of, marks_of, wholes, frames_where, frames_left}
use Rattle.frame.specs.Line.{events_on, none_lost}
use Rattle.frame.specs.Cases.{full_frame, saved_over, saved_tainted, saved_past, TypeCases, JoinerCases, LineCases, Cases}
use Rattle.frame.proofs.Laws.{laid_none, held-ranges}

type-cases : TypeCases
unfolding with_added good_frame on_open field_step would_pass joining_of field_answer unless
type-cases =
    record {
      on-open = refl;
      on-empty = refl;
      while-tainted = refl;
      bare = rw (held-ranges tainted 0);
      with-data = rw (held-ranges tainted 0);
    }

line-cases : LineCases
unfolding row_right stretches gathered frame_of senders_frames row_of marks_of wholes frames_where frames_left events_on none_lost flatten
line-cases =
    record {
      right = refl;
      right-none = refl;
      wrong_type = refl;
      wrong-data = refl;
      events = refl;
      sent = refl;
      lost-first = refl;
      lost-second = refl;
      lost-third = refl;
      lost-last = refl;
      none-lost = refl;
      is_none = refl;
      is_some = refl;
      dropped = refl;
      at-limit = refl;
      too_long = refl;
      empties = refl;
    }

-- ---- the cases: what the calls keep is within its ranges, by the law; the ranges themselves are computed
past-over : loss_answer saved_over ≡ refuse outside_ranges
unfolding loss_answer ranges_of unless
past-over = refl

past-tainted : loss_answer saved_tainted ≡ refuse outside_ranges
unfolding loss_answer ranges_of unless
past-tainted = refl

not-zero : joiner_in_ranges saved_past ≡ false
unfolding ranges_of zeros_after all_below
not-zero = refl

fits : (frame : List ℕ) → length frame ≤ frame_limit → joiner_in_ranges (held_as (opened frame)) ≡ true
fits frame small = held-ranges (opened frame) small

joiner-cases : JoinerCases
unfolding with_added good_frame on_open field_step would_pass in_storage joining_of field_answer joiner_after loss_answer joiner_after_loss unless
joiner-cases =
    record {
      fresh = record { state = rw laid_none };
      good-out = rw (fits (0xFF ∷ 0x13 ∷ []) (omega arith));
      bad-out = rw (fits (0xFF ∷ 0x13 ∷ []) (omega arith));
      out-after = rw (fits (0xFF ∷ 0x13 ∷ []) (omega arith));
      good-empty = rw (fits [] (omega arith));
      bad-empty = rw (fits [] (omega arith));
      drop-1 = rw (fits (0xFF ∷ []) (omega arith));
      drop-6 = rw (fits (0xFF ∷ []) (omega arith));
      drop-7 = rw (fits (0xFF ∷ []) (omega arith));
      drop-8 = rw (fits (0xFF ∷ []) (omega arith));
      drop-11 = rw (fits (0xFF ∷ []) (omega arith));
      drop-11-bare = rw (fits (0xFF ∷ []) (omega arith));
      bare-10 = rw (fits [] (omega arith));
      loss-taints = rw (fits (0xFF ∷ []) (omega arith));
      tainted-quiet = rw (held-ranges tainted 0);
      tainted-ends = rw (held-ranges tainted 0);
      tainted-goes-on = rw (held-ranges tainted 0);
      tainted-goes-on-11 = rw (held-ranges tainted 0);
      tainted-adds = rw (held-ranges tainted 0);
      tainted-14 = rw (held-ranges tainted 0);
      tainted-12 = rw (held-ranges tainted 0);
      adds-over-packet = rw (fits [] (omega arith));
      adds-last = rw (fits [] (omega arith));
      adds-over = rw (fits full_frame (omega arith));
      adds-257-44 = rw (fits (replicate 257 0x55) (omega arith));
      too-long-taints = rw (fits full_frame (omega arith));
      no_room = rw (fits (0xFF ∷ 0x13 ∷ []) (omega arith));
      no-room-stays = rw (fits (0xFF ∷ 0x13 ∷ []) (omega arith));
      octets-over = past-over;
      octets-tainted = past-tainted;
      octets-past = rw not-zero;
      ranges-first = rw not-zero;
      type-over = rw (fits [] (omega arith));
    }

pub cases : Cases
cases = record { types = type-cases; joiner = joiner-cases; lines = line-cases; limit = refl }
