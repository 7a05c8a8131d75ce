-- Each case is refused for its reason, 3, 4, 5, 12 and 14: its row is the first that is given. Assumes nothing.
use Prim.Native.Nat.{ℕ, ◌+◌, ◌*◌}
use mathlib.Core.Path.{ap, ◌∙◌}
use mathlib.Core.Bool.{not}
use mathlib.Core.List.{List, [], ◌∷◌}
use mathlib.Core.Option.{Option}
use lib.ListN.{length, get_or}
use lib.Dec.{ltb}
use borrow.Author.Tests.{lt-ltb, le-ltb}
use Rattle.length.specs.Refusals.{ends_early, bad_form, outside_sizes, spare_bit, not_assigned, wrong_data}
use Rattle.length.specs.Length.{within}
use Rattle.length.specs.Tables.{when}
use Rattle.length.specs.declared.Reason.{Reason}
use Rattle.format.specs.Spelling.{gap}
use Rattle.format.specs.Places.{bits_at}
use Rattle.datagram.specs.Sizes.{packet_limit}
use Rattle.packet.specs.Edition.{Edition}
use Rattle.packet.specs.Packet.{fields_least, fields_limit, right_fields}
use Rattle.packet_laws.specs.Octets.{kind_of}
use Rattle.packet.specs.declared.types.Ending.{Ending}
use Rattle.demands.specs.Demand1.Refusals.{length_rows}
use Rattle.demands.specs.Demand1.PacketItems.{first_value, fields_allowed, count_of_fields, header, padding, data_length, rows, value_rows}
use Rattle.demands.specs.Demand1.PacketItems.{octets_from}
use Rattle.demands.specs.Demand1.PacketItems.{has_fields, first_values, data_fits, data_size, begins}
use Rattle.demands.specs.Demand1.PacketRefusals.{FirstWrong, NotAssigned, value, field_type, BadForm, OutsideSizes, count, long_data}
use Rattle.demands.specs.Demand1.PacketRefusals.{SpareBit, WrongData, indicator, field}
use Rattle.demands.proofs.PacketRows.{past_row, given-row, first-front, first-later}
use Rattle.demands.proofs.PacketValues.{unassigned-rows}

-- ---- 5
pub of-spare : {edition : Edition} (ending : Ending) (s : List ℕ) → SpareBit edition s → FirstWrong edition ending s spare_bit
unfolding rows
of-spare ending s spare =
    let p = spare.place in
    record {
      item = padding spare.next;
      place = p;
      due = spare.due;
      wrong = given-row (ltb 0 (bits_at (gap p) s p)) spare_bit _ (lt-ltb 0 (bits_at (gap p) s p) spare.set-bits);
    }

-- ---- 14
pub of-data : {edition : Edition} (ending : Ending) (s : List ℕ) → WrongData edition s → FirstWrong edition ending s wrong_data
unfolding rows
of-data ending s (indicator p due kind present) =
    record {
      item = fields_allowed;
      place = p;
      due = due;
      wrong = given-row (not (right_fields (kind_of s) (has_fields s))) wrong_data _ (rw (kind, present));
    }
of-data {edition} ending s (field p left due assigned-there unfit) =
    record {
      item = header left;
      place = p;
      due = due;
      wrong =
          first-later (value_rows edition.types s (p + 1)) _ assigned-there
          ∙ given-row (not (data_fits edition s p)) wrong_data _ (ap not unfit);
    }

-- ---- 12
pub of-unassigned : {edition : Edition} (ending : Ending) (s : List ℕ) → NotAssigned edition s → FirstWrong edition ending s not_assigned
unfolding rows
of-unassigned {edition} ending s (value u) =
    record { item = first_value; place = 0; due = begins; wrong = unassigned-rows (first_values edition s) s 2 u }
of-unassigned {edition} ending s (field_type p left due u) =
    record {
      item = header left;
      place = p;
      due = due;
      wrong = first-front (value_rows edition.types s (p + 1)) _ not_assigned (unassigned-rows edition.types s (p + 1) u);
    }

-- ---- 3 and 4
-- the count's rows behind those of its form
abbrev size_row : List ℕ → List (Option Reason)
size_row rest = when (not (within fields_least fields_limit (get_or rest 0 0))) outside_sizes ∷ []

pub of-bad-count : {edition : Edition} (ending : Ending) (s : List ℕ) → BadForm edition s → FirstWrong edition ending s bad_form
unfolding rows
of-bad-count ending s b =
    record {
      item = count_of_fields;
      place = b.place;
      due = b.due;
      wrong = first-front (length_rows (octets_from s b.place)) (size_row (octets_from s b.place)) bad_form b.form;
    }

pub of-sizes : {edition : Edition} (ending : Ending) (s : List ℕ) → OutsideSizes edition s → FirstWrong edition ending s outside_sizes
unfolding rows
of-sizes ending s (count p due form outside) =
    let rest = octets_from s p in
    record {
      item = count_of_fields;
      place = p;
      due = due;
      wrong =
          first-later (length_rows rest) (size_row rest) form
          ∙ given-row (not (within fields_least fields_limit (get_or rest 0 0))) outside_sizes _ (ap not outside);
    }
of-sizes ending s (long_data p left due there long) =
    record {
      item = data_length left;
      place = p;
      due = due;
      wrong =
          past_row (ltb (8 * length s) (p + 16)) ends_early outside_sizes _ (le-ltb (8 * length s) (p + 16) there)
          (given-row (ltb packet_limit (data_size s p)) outside_sizes _ (lt-ltb packet_limit (data_size s p) long));
    }
