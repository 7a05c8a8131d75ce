-- The cases of the layout, each computed. Assumes nothing.
use mathlib.Core.Path.{refl}
use Rattle.octets.specs.Place.{tab, all_below}
use Rattle.session.specs.View.{fresh_view}
use Rattle.session.specs.Ranges.{sum_right, size_right, note_right, mark_right, held_right, cells_right, notes_right, all_held_right, in_ranges}
use Rattle.session_slots.specs.Store.{part, zeros_past}
use Rattle.session_held.specs.Table.{state_numbered, cell_in, message_in, held_in, cells_of, held_of, view_in}
use Rattle.session_held.specs.Laid.{kept_laid, message_laid, heard_laid, laid, lent_in_ranges}
use Rattle.session_held.specs.Promise.{fresh_table}
use Rattle.session_held.specs.Cases.{SlotCases, StateCases, LaidCases, WholeCases}

pub slot_cases : SlotCases
unfolding fresh_table
slot_cases =
    record {
      base-0 = refl;
      before-0 = refl;
      base-100 = refl;
      behind-last = refl;
      marked-100 = refl;
      marked-behind-last = refl;
      first-message = refl;
      last-message = refl;
      packet-octets = refl;
      message-octets = refl;
      numbers = refl;
      last-size = refl;
      last-note = refl;
      last-mark = refl;
      last-n = refl;
      last-m = refl;
      last-message-size = refl;
      kept = refl;
      heard = refl;
      dropped = refl;
      fresh = refl;
    }

pub state-cases : StateCases
unfolding state_numbered cell_in held_in message_in part tab
state-cases =
    record {
      state-0 = refl;
      state-1 = refl;
      state-2 = refl;
      state-3 = refl;
      state-4 = refl;
      as-received = refl;
      as-spare = refl;
      as-repaired = refl;
      as-lost = refl;
      counts = refl;
      cell = refl;
      held = refl;
    }

pub laid-cases : LaidCases
unfolding kept_laid message_laid heard_laid zeros_past all_below
laid-cases =
    record {
      state-4 = refl;
      state-5 = refl;
      size-256 = refl;
      size-257 = refl;
      no_more = refl;
      one_more = refl;
      at-the-end = refl;
      next-slot = refl;
      of-that-slot = refl;
      size-within-m = refl;
      size-past-m = refl;
      size-with-none = refl;
      message-256 = refl;
      message-257 = refl;
      message-more = refl;
      octets-past-m = refl;
      mark-1 = refl;
      mark-2 = refl;
      m-4 = refl;
      m-5 = refl;
      size-past-3 = refl;
    }

pub whole-cases : WholeCases
unfolding lent_in_ranges laid kept_laid message_laid heard_laid zeros_past all_below view_in cells_of held_of cell_in held_in message_in
    state_numbered part tab fresh_table fresh_view
    in_ranges sum_right size_right note_right mark_right held_right cells_right notes_right all_held_right
whole-cases =
    record {
      fresh = refl;
      right = refl;
      packet-octet = refl;
      message-octet = refl;
      base = refl;
    }
