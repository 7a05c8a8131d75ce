-- The cases of the receiving session, each computed. They come before the laws, so that a wrong definition is refused here first. Assumes
-- nothing.
use mathlib.Core.Path.{refl}
use Rattle.octets.specs.Place.{tab, all_below}
use Rattle.octets.specs.ExclusiveOr.{xor_at, exclusive_or, longest}
use Rattle.length.specs.Length.{length_at, allowed, length_within}
use Rattle.datagram.specs.Read.{item_at, number_of, read_datagram}
use Rattle.session.specs.Members.{members_of}
use Rattle.session.specs.Repair.{passing, usable, first_usable, mended, fill, repair_f, repair}
use Rattle.session.specs.Held.{messages_of, messages_in_row, held_messages}
use Rattle.session.specs.View.{fresh_view, gone_on}
use Rattle.session.specs.Offer.{keep, keep_spares, accept, offered, offer}
use Rattle.session.specs.Release.{release}
use Rattle.session.specs.Ranges.{sum_right, size_right, note_right, mark_right, held_right, cells_right, notes_right, all_held_right, in_ranges}
use Rattle.session.specs.RepairCases.{MembersCases, MessageCases, RepairCases}
use Rattle.session.specs.Cases.{ViewCases, OfferCases, ReleaseCases}
use Rattle.session.specs.RangesCases.{RangesCases}

pub members-cases : MembersCases
unfolding members_of tab
members-cases =
    record {
      one-message = refl;
      low-of-two = refl;
      high-of-two = refl;
      widest-low = refl;
      widest-high = refl;
    }

pub message-cases : MessageCases
unfolding tab xor_at exclusive_or longest
message-cases =
    record {
      longest-last = refl;
      longest-first = refl;
      zeros-too = refl;
      before-first = refl;
      over_nothing = refl;
    }

pub repair-cases : RepairCases
unfolding repair repair_f first_usable usable passing mended fill messages_of messages_in_row members_of tab xor_at exclusive_or longest
repair-cases =
    record {
      zeros-stay = refl;
      short-message = refl;
      empty-message = refl;
      two-missing = refl;
      first-number = refl;
      lowest-message = refl;
      both_used = refl;
      none-missing = refl;
      blank-member = refl;
    }

pub view-cases : ViewCases
unfolding fresh_view
view-cases =
    record {
      fresh = refl;
      unknown-is = refl;
      received-known = refl;
      spare-known = refl;
      repaired-known = refl;
      blank-known = refl;
      after-0 = refl;
      after_last = refl;
      ahead = refl;
      same = refl;
      behind = refl;
      half = refl;
      first-in-view = refl;
      before-base = refl;
      at_base = refl;
      behind-base = refl;
      last-in-view = refl;
      summed = refl;
      one-received = refl;
      one-spare = refl;
      one-repaired = refl;
      one-lost = refl;
      none-blank = refl;
    }

pub offer-cases : OfferCases
unfolding offer offered accept keep keep_spares fresh_view repair repair_f first_usable usable passing mended fill
    messages_of messages_in_row held_messages members_of tab xor_at exclusive_or read_datagram number_of item_at length_within allowed length_at
offer-cases =
    record {
      spare-kept = refl;
      spares-in-order = refl;
      spare-before-first = refl;
      spare-stays = refl;
      repaired-stays = refl;
      repaired-then = refl;
      noted-then = refl;
      used-at-next = refl;
      before-base = refl;
      two-missing = refl;
      across-last = refl;
      at-limit = refl;
      last-ahead = refl;
      first-far = refl;
      last-far = refl;
      first-late = refl;
      last-late = refl;
      last-ahead-across = refl;
      first-far-across = refl;
      last-far-across = refl;
      first-late-across = refl;
      read-before-far = refl;
      read-before-late = refl;
      read-before-again = refl;
      far-first = refl;
      late-first = refl;
      again = refl;
      again-at-end = refl;
    }

pub release-cases : ReleaseCases
unfolding release gone_on fresh_view
release-cases =
    record {
      passed-then-unknown = refl;
      passed-then-room = refl;
      passed-with-leave = refl;
      unknown-then-room = refl;
      unknown-with-room = refl;
      no_room = refl;
      no-room-by-one = refl;
      no-room-with-leave = refl;
      received-leaves = refl;
      repaired-leaves = refl;
      spare-leaves = refl;
      stays-unknown = refl;
    }

pub ranges-cases : RangesCases
unfolding in_ranges sum_right size_right note_right mark_right held_right cells_right notes_right all_held_right all_below fresh_view
ranges-cases =
    record {
      at-start = refl;
      before_last = refl;
      after_last = refl;
      not-wrapped = refl;
      base-apart = refl;
      each-counted = refl;
      sum-at-limit = refl;
      sum-past-limit = refl;
      sum_wraps = refl;
      before-first = refl;
      first-left = refl;
      second-before = refl;
      last-blank = refl;
      none-blank = refl;
      base-not-blank = refl;
      ahead-not-blank = refl;
      blank-elsewhere = refl;
      blank-there = refl;
      unknown-there = refl;
      received-there = refl;
      spare-there = refl;
      repaired-there = refl;
      unknown-empty = refl;
      unknown-with-octets = refl;
      blank-with-octets = refl;
      received-empty = refl;
      received-least = refl;
      received-at-limit = refl;
      received-over = refl;
      spare-empty = refl;
      spare-least = refl;
      spare-at-limit = refl;
      spare-over = refl;
      repaired-empty = refl;
      repaired-least = refl;
      repaired-at-limit = refl;
      repaired-over = refl;
      received-fills = refl;
      spare-fills = refl;
      repaired-fills = refl;
      unknown-empties = refl;
      blank-empties = refl;
      own-note = refl;
      another-note = refl;
      no_note = refl;
      unknown-note = refl;
      unknown-no-note = refl;
      blank-note = refl;
      blank-no-note = refl;
      spare-note = refl;
      repaired-note = refl;
      accepted-unknown = refl;
      accepted-known = refl;
      neither = refl;
      known_alone = refl;
      bare-messages = refl;
      bare-n = refl;
      n-without-messages = refl;
      n-0 = refl;
      least = refl;
      most = refl;
      n-9 = refl;
      m-5 = refl;
      message-empty = refl;
      message-at-limit = refl;
      message-over = refl;
      last-message-over = refl;
      messages-bare = refl;
      whole = refl;
      marked-unknown = refl;
      marked-unknown-at-end = refl;
      not-blank-at-front = refl;
      all-passed = refl;
      blank-at-end = refl;
      noted-at-end = refl;
      own-at-end = refl;
      noted-at-front = refl;
    }
