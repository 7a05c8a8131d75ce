-- A session as it is lent: its packets and messages are of octets, and the one that was read is the very one. Assumes nothing.
use Prim.Native.Nat.{ℕ, ◌*◌, ◌<◌}
use mathlib.Core.Path.{◌≡◌, sym, ◌∙◌}
use mathlib.Core.List.{List, []}
use lib.ListN.{length, get_or, drop}
use native.Mathlib.Omega.{arith}
use Rattle.octets.proofs.Laws.{length-tab, tab-at}
use Rattle.length.specs.Answers.{done}
use Rattle.length.specs.Claims.{Octets}
use Rattle.length.proofs.Laws.{done-same}
use Rattle.datagram.specs.Sizes.{packet_limit}
use Rattle.session_slots.specs.Store.{part}
use Rattle.session.specs.View.{View, numbers}
use Rattle.session.specs.Ranges.{Sound}
use Rattle.session.proofs.Laws.{in_ranges-of}
use Rattle.session_held.specs.Slots.{slot_at, heard_slot_at, message_slot}
use Rattle.session_held.specs.Table.{Lent, lent_by, note_place, size_in, m_in, message_size_in, cell_in, message_in, held_in, view_in, view_of}
use Rattle.session_held.specs.Laid.{InRanges}
use Rattle.session_held.specs.declared.Session.{Session}
use Rattle.session_held.proofs.Laws.{cell-at, held-at, lent_same, session-same}
use Rattle.image.specs.Layout.{image_version02}
use Rattle.image.specs.Image.{image_text, read_text, OfOctets, LentOctets}
use Rattle.image.proofs.Numbers.{octets-take, octets-drop}
use Rattle.image.proofs.Holds.{sound-holds}
use Rattle.image.proofs.Answers.{held_reads, read-lines}
use Rattle.image.proofs.Editions.{reads02}

part_small : (o : List ℕ) (i n : ℕ) → Octets o → Octets (part o i n)
unfolding part
part_small o i n small = octets-take n (drop (i * packet_limit) o) (octets-drop (i * packet_limit) o small)

cell-small : {session : Lent} → LentOctets session → (i : ℕ) → ((cell_in session.table session.octets i).note < numbers)
    × Octets (cell_in session.table session.octets i).octets
unfolding cell_in
cell-small {session} x i = (x.table (note_place i), part_small session.octets i (size_in session.table i) x.octets)

message-small : {session : Lent} → LentOctets session → (j i : ℕ)
    → i < length (held_in session.table session.messages j).messages
    → Octets (get_or (held_in session.table session.messages j).messages i [])
unfolding held_in message_in
message-small {session} x j i below =
    let t = session.table in
    let g = session.messages in
    rw (tab-at (m_in t j) (message_in t g j) i [] (omega (arith, length-tab (m_in t j) (message_in t g j))))
    (part_small g (message_slot j i) (message_size_in t (message_slot j i)) x.messages)

pub lent-octets : {session : Lent} → LentOctets session → OfOctets (view_in session)
unfolding view_in
lent-octets {session} x =
    let slot = slot_at session.base in
    let at = cell-at session.base session.table session.octets in
    record {
      note = λ p below. rw (at p below) (cell-small x (slot p)).0;
      packet = λ p below. rw (at p below) (cell-small x (slot p)).1;
      message =
          λ d below.
          rw (held-at session.base session.table session.messages d below) (message-small x (heard_slot_at session.base d));
    }

pub lent_back : {session other : Lent} → InRanges session → LentOctets session → InRanges other
    → read_text (image_text image_version02 (view_in session)) ≡ done (view_in other) → other ≡ session
lent_back {session} {other} w x v e =
    lent_same v w (sym (done-same (sym (reads02 (view_in session) w.sound (lent-octets x)) ∙ e)))

pub struct_back : {session other : Session} → InRanges (lent_by session) → LentOctets (lent_by session) → InRanges (lent_by other)
    → read_text (image_text image_version02 (view_of session)) ≡ done (view_of other) → other ≡ session
struct_back {session} {other} w x v e =
    session-same other session v w (sym (done-same (sym (reads02 (view_of session) w.sound (lent-octets x)) ∙ e)))
