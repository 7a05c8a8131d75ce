-- Where each call places its refusals: offer where the datagram reader does, all others but the readers at 0. Assumes nothing.
use Rattle.std.proofs.Common.{Option, Some, None}
use Prim.Native.Nat.{ℕ}
use mathlib.Core.Path.{◌≡◌, refl, sym, ap, ◌∙◌}
use mathlib.Core.Logic.{⊎_elim}
use mathlib.Core.Bool.{Bool, true, false, not, cond, ◌&&◌}
use mathlib.Core.List.{List}
use lib.ListN.{length}
use lib.Dec.{leb, ltb}
use Rattle.length.specs.Refusals.{refusal, outside_sizes, repeated, too_far, late, base_unknown, no_room}
use Rattle.length.specs.Refusals.{wrong_settings, all_passed, outside_ranges}
use Rattle.length.specs.Answers.{Answer, done, refused, refuse, ◌>>=◌, fitted}
use Rattle.length.specs.Tables.{place_in}
use Rattle.length.specs.Length.{length_at, within, allowed, length_within, length_to_write}
use Rattle.length.specs.declared.Refusal.{Refusal}
use Rattle.length.proofs.Laws.{AtFront, refuse-front, done-front, cond-front, length_front}
use Rattle.length.proofs.Laws.{unless-front, fitted-front, front-place, mapped-place, puts-place}
use Rattle.length.specs.declared.Reason.{Reason}
use Rattle.datagram.specs.Carried.{Carried}
use Rattle.datagram.specs.Read.{read_datagram, carried_by}
use Rattle.datagram.specs.Write.{datagram_to_write}
use Rattle.datagram.specs.declared.kind.Kind.{Kind}
use Rattle.packet.specs.declared.types.Named.{Named}
use Rattle.packet.specs.Edition.{Edition, choice_of, of_choice}
use Rattle.packet.specs.Write.{packet_to_write}
use Rattle.packet.specs.declared.types.PacketKind as packets
use Rattle.packet.specs.Promise.{packet_by}
use Rattle.session.specs.Cells.{unknown_at, kept_before, kept_ahead}
use Rattle.session.specs.View.{View, sum, distance, session_limit}
use Rattle.session.specs.Offer as offers
use Rattle.session.specs.Offer.{late_from, accepted_at, offered}
use Rattle.session.specs.Release.{at_base, release}
use Rattle.session_held.specs.Table.{lent_by, view_of}
use Rattle.session_held.specs.Laid.{session_in_ranges}
use Rattle.session_held.specs.declared.Session.{Session}
use Rattle.session_calls.specs.Receiver.{offer_of, release_of}
use Rattle.sender.specs.Promise.{to_send}
use Rattle.sender.specs.declared.Sender.{Sender}
use Rattle.sender.specs.declared.Settings.{Settings}
use Rattle.line.specs.Hex.{line_octets}
use Rattle.frame.specs.Promise.{field_answer, loss_answer}
use Rattle.frame.specs.declared.Joiner.{Joiner}
use Rattle.image.specs.Layout.{image_version02}
use Rattle.image.specs.Image.{read_text, image_to_write}
use Rattle.demands.specs.Demand1.Demand1.{Places}
use Rattle.demands.proofs.ImageTexts.{refused-only}

-- ---- offer
offered-front : (datagram : Carried) (view : View) → AtFront (offered datagram view)
unfolding offered
offered-front datagram view =
    let d = distance view.base datagram.number in
    cond-front (ltb d kept_ahead)
    (cond-front (accepted_at view d) (refuse-front repeated) (done-front _))
    (cond-front (ltb d late_from) (refuse-front too_far) (refuse-front late))

-- of two steps, where the second gives 0, the place is the first's
bind-place : {A B : Type 0} (m : Answer A) (f : A → Answer B) → ((a : A) → AtFront (f a)) → place_in (◌>>=◌ m f) ≡ place_in m
bind-place (done a) f front = front-place (f a) (front a)
bind-place (refused why) f front = refl

ranged-place : {A : Type 0} (b : Bool) (m : Answer A) → place_in (cond b m (refuse outside_ranges)) ≡ cond b (place_in m) 0
ranged-place true m = refl
ranged-place false m = refl

offer-place : (octets : List ℕ) (s : Session)
    → place_in (offer_of octets s) ≡ cond (session_in_ranges s) (place_in (read_datagram octets)) 0
unfolding offer_of offers.offer
offer-place octets s =
    ranged-place (session_in_ranges s) (offers.offer octets (view_of s))
    ∙ ap (λ (k : ℕ). cond (session_in_ranges s) k 0)
    (bind-place (read_datagram octets) _ (λ parts. offered-front (carried_by octets parts) (view_of s)))

-- ---- release
release-front : (leave : Bool) (room : ℕ) (s : Session) → AtFront (release_of leave room s)
unfolding release_of release
release-front leave room s =
    cond-front (session_in_ranges s)
    (cond-front (leb session_limit (sum (view_of s).counts)) (refuse-front all_passed)
    (cond-front (unknown_at (view_of s).cells kept_before && not leave) (refuse-front base_unknown)
    (cond-front (ltb room (length (at_base (view_of s)).octets)) (refuse-front no_room) (done-front _))))
    (refuse-front outside_ranges)

-- ---- a length within sizes
within-place : (least most : ℕ) (s : List ℕ) → place_in (length_within least most s) ≡ 0
unfolding length_within allowed
within-place least most s =
    bind-place (length_at s) (allowed least most) (λ l. cond-front (within least most l.value) (done-front l) (refuse-front outside_sizes))
    ∙ front-place (length_at s) (length_front s)

-- ---- what follows from a table
length-writer : (n : ℕ) → AtFront (length_to_write n)
unfolding length_to_write
length-writer n = unless-front _ _

datagram-writer : (number : ℕ) (packet : List ℕ) (kind : Kind) (lengths run : List ℕ)
    → AtFront (datagram_to_write number packet kind lengths run)
unfolding datagram_to_write
datagram-writer number packet kind lengths run = unless-front _ _

packet-writer : (octet : ℕ) (kind : packets.PacketKind) (value : ℕ) (types lengths octets : List ℕ)
    → AtFront (packet_by octet kind value types lengths octets)
unfolding packet_to_write
packet-writer octet kind value types lengths octets = by (choice_of octet) where
  by : (c : Option Named) → AtFront (of_choice c (λ (e : Edition). packet_to_write e kind value types lengths octets))
  by (Some named) = unless-front _ _
  by None = refuse-front wrong_settings

line-front : (line : List ℕ) → AtFront (line_octets line)
unfolding line_octets
line-front line = unless-front _ _

send-front : (s : Sender) (settings : Settings) (packet : List ℕ) → AtFront (to_send s settings packet)
unfolding to_send
send-front s settings packet = unless-front _ _

field-front : (room type : ℕ) (octets : List ℕ) (j : Joiner) → AtFront (field_answer room type octets j)
unfolding field_answer
field-front room type octets j = unless-front _ _

loss-front : (j : Joiner) → AtFront (loss_answer j)
unfolding loss_answer
loss-front j = unless-front _ _

-- ---- images
image-writer : (s : Session) → AtFront (image_to_write image_version02 (lent_by s))
unfolding image_to_write
image-writer s = unless-front _ _

image-place : (text : List ℕ) → place_in (read_text text) ≡ 0
image-place text = by (read_text text) refl where
  at_front : {why : Refusal} {n : Reason} → why ≡ refusal n → why.place ≡ 0
  at_front same = ap (λ (r : Refusal). r.place) same

  by : (a : Answer View) → read_text text ≡ a → place_in a ≡ 0
  by (done view) e = refl
  by (refused why) e =
      ⊎_elim at_front (⊎_elim at_front at_front) (refused-only text why e)

-- ---- the calls
pub places : Places
places =
    record {
      length = λ {octets = s} p. ap place_in p.answer ∙ front-place (length_at s) (length_front s);
      length_within = λ {least} {most} {octets = s} p. ap place_in p.answer ∙ within-place least most s;
      offer = λ {s} {octets} p q.
          ap place_in p.answer ∙ mapped-place _ (offer_of octets s) ∙ offer-place octets s
          ∙ ap (λ (k : ℕ). cond (session_in_ranges s) k 0) (sym (ap place_in q.answer));
      release = λ {s} {leave} {old} p.
          ap place_in p.answer ∙ mapped-place _ (release_of leave (length old) s) ∙ front-place _ (release-front leave (length old) s);
      length_writer = λ n old new r p. puts-place (length-writer n) p;
      datagram_writer = λ number packet kind lengths run old new r p. puts-place (datagram-writer number packet kind lengths run) p;
      packet_writer = λ octet kind value types lengths octets old new r p.
          puts-place (packet-writer octet kind value types lengths octets) p;
      line = λ line old new r p. puts-place (line-front line) p;
      send = λ {s} {settings} {packet} {old} p.
          ap place_in p.answer ∙ mapped-place _ (fitted (to_send s settings packet) old)
          ∙ front-place _ (fitted-front (to_send s settings packet) old (send-front s settings packet));
      joiner_field = λ {j} {type} {octets} {old} p.
          ap place_in p.answer ∙ mapped-place _ (field_answer (length old) type octets j)
          ∙ front-place _ (field-front (length old) type octets j);
      joiner_lost = λ {j} p. ap place_in p.answer ∙ mapped-place _ (loss_answer j) ∙ front-place _ (loss-front j);
      image_writer = λ s old new r p. puts-place (image-writer s) p;
      image_reader = λ {text} p. ap place_in p.answer ∙ image-place text;
    }
