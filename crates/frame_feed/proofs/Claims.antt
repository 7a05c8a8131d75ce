-- The claims of this crate. Assumes nothing.
use mathlib.Core.Path.{◌≡◌, refl, sym, ap, ◌∙◌}
use mathlib.Core.List.{List, [], ◌∷◌}
use lib.ListN.{get_elem?}
use mathlib.Core.Option.{Option, none, some}
use Prim.Native.Nat.{ℕ}
use Rattle.length.specs.Length.{length_at, allowed, length_within}
use Rattle.format.specs.Reading as reading
use Rattle.format.specs.Format.{octets_front, two_front}
use Rattle.packet.specs.Packet.{every, root, addition, enumerated, type_of_msg, start, count, header, size, field_data, field}
use Rattle.packet.specs.Packet.{data_field, packet}
use Rattle.packet.specs.Packet as description
use Rattle.packet.specs.Edition.{choice_of, of_choice}
use Rattle.std.proofs.Common as std
use Rattle.packet.specs.declared.types.Named.{Named}
use Rattle.packet.specs.declared.types.Named.TheVariants.{Old, New}
use Rattle.packet.specs.declared.types.Ending.TheVariants.{Whole}
use Rattle.frame.specs.Frame.{Joining, fresh_joining, with_added, good_frame, on_open, field_step}
use Rattle.frame.specs.Joiner.{held_as, joining_of}
use Rattle.frame.specs.Line.{Event, a_field, a_loss, event_step, handed_by}
use Rattle.frame.specs.Claims.{HandedOut}
use Rattle.frame.specs.declared.Joiner.{Joiner}
use Rattle.frame.specs.declared.Joined.{Joined}
use Rattle.frame.proofs.Laws.{held-joining}
use Rattle.frame.proofs.Claims as joiner
use Rattle.frame_feed.specs.Feed.{Heard, events_of, events_read, events_from, frames_from, released}
use Rattle.frame_feed.specs.Promise.{EventOwes}
use Rattle.frame_feed.specs.Claims.{Claims, example_heard, new_heard}

one-event : (event : Option Event) (j : Joiner) (old new other : List ℕ) (r q : Joined) → EventOwes event j old new r
    → EventOwes event j old other q → (r ≡ q) × (new ≡ other)
one-event (some (a_field f)) j old new other r q m n = (joiner.claims).one_outcome.field m n
one-event (some a_loss) j old new other r q m n = ((joiner.claims).one_outcome.lost m.owes n.owes, m.lent ∙ sym n.lent)
one-event none j old new other r q m n = (m.answer ∙ sym n.answer, m.lent ∙ sym n.lent)

pub claims : Claims
unfolding frames_from events_from events_of handed_by event_step field_step on_open with_added good_frame description.read_packet
    description.whole_packet packet start type_of_msg enumerated root addition data_field count field header field_data size reading.bit
    reading.bits reading.flag reading.align reading.octetwise reading.sequence_of octets_front two_front every length_at
    allowed length_within
claims =
    record {
      one_outcome =
          record {
            turns = λ m n. m.answer ∙ sym n.answer;
            feed = λ {j} {edition} {kind} {packet} {turn} {old} {new} {other} {r} {q} m n.
                one-event (get_elem? (events_of (released edition kind packet)) turn) j old new other r q m.owes n.owes;
          };
      frames =
          λ heard {j} {frames} fresh fed.
          (joiner.claims).any_events.handed (HandedOut.fresh fresh) fed
          ∙ ap (λ (v : Joining). handed_by v (events_from heard)) (ap joining_of fresh.state ∙ held-joining fresh_joining);
      lost_alike = λ edition. by (choice_of edition);
      example = refl;
      new_example = refl;
    } where
      by : (c : std.Option Named) → events_read [] (of_choice c (λ e. description.read_packet e Whole [])) ≡ a_loss ∷ []
      by (std.Some Old) = refl
      by (std.Some New) = refl
      by std.None = refl
