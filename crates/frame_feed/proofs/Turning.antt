-- The functions of this crate, on plain values: one law for each way in which one returns. Assumes nothing.
use Rattle.std.proofs.Common.{Result, Ok, Err, Some, None}
use Rattle.std.proofs.Common as std
use Prim.Native.Nat.{ℕ, zero, suc, ◌+◌, ◌-◌, ◌≤◌, ◌<◌}
use mathlib.Core.Path.{◌≡◌, refl, sym, ap, subst, ◌∙◌}
use mathlib.Core.List.{List, [], ◌∷◌, ◌++◌, map}
use mathlib.Core.Option.{Option, none, some}
use lib.ListN.{length, get_or, take, drop, get_elem?, replicate, length-append, get_or-append}
use native.Mathlib.Nat.{not-suc-le-zero, le_of_suc-le-suc}
use native.Mathlib.Omega.{arith}
use Rattle.length.specs.Answers.{Answer, done, refused}
use Rattle.length.specs.declared.Refusal.{Refusal}
use Rattle.packet.specs.Edition.{edition_of, choice_of, of_choice, by_edition}
use Rattle.packet.specs.Packet.{fields_limit, PacketAnswer, read_packet, no_field, data_of}
use Rattle.packet.specs.Promise.{padded_fields, packet_read, PacketTold}
use Rattle.packet.specs.declared.types.Named.{Named}
use Rattle.packet.specs.declared.types.Ending.{Ending}
use Rattle.packet.specs.declared.types.PacketKind.{PacketKind}
use Rattle.packet.specs.declared.types.Field as packets
use Rattle.packet.specs.declared.types.PacketRead.{PacketRead}
use Rattle.packet.proofs.Claims as packet_claims
use Rattle.session.specs.Cells.{State}
use Rattle.frame.specs.Promise.{FieldOwes, LossOwes}
use Rattle.frame.specs.Line.{Field, Event, a_field, a_loss}
use Rattle.frame.specs.declared.Joiner.{Joiner}
use Rattle.frame.specs.declared.Joined.{Joined}
use Rattle.frame.specs.declared.Handed.TheVariants as handed
use Rattle.frame_feed.specs.Feed.{released, events_of, events_read, ending_of, field_in}
use Rattle.frame_feed.specs.Promise.{TurnsTold, LossFed, NothingFed, EventOwes, FeedOwes}
use Rattle.frame_feed.specs.Inner.{event_in, TurnTold}
use Rattle.frame_feed.specs.declared.turn.Turn.{Turn}
use Rattle.frame_feed.specs.declared.turn.Turn.TheVariants as turns

-- ---- what was read, by the reader's answer
record DoneAs (a : Answer PacketAnswer) (read : PacketRead) (count : ℕ) : Type 0 where
  packet : PacketAnswer
  is : a ≡ done packet
  many : count ≡ length packet.fields
  fields : read.fields ≡ padded_fields packet.fields

done-as : (a : Answer PacketAnswer) {r : Result PacketRead Refusal} {read : PacketRead} → r ≡ packet_read a → r ≡ Ok read
    → DoneAs a read read.count
done-as (done p) {r} {read} whole told =
    let same : read ≡ record { kind = p.kind; value = p.value; count = length p.fields; fields = padded_fields p.fields } = cc in
    record { packet = p; is = refl; many = ap (λ (x : PacketRead). x.count) same; fields = ap (λ (x : PacketRead). x.fields) same }
done-as (refused why) {r} {read} whole told = let z : ◌≡◌ {A = ℕ} 0 1 = cc in absurd (omega arith)

refused-events : (s : List ℕ) (a : Answer PacketAnswer) {r : Result PacketRead Refusal} {why : Refusal} → r ≡ packet_read a
    → r ≡ Err why → events_read s a ≡ a_loss ∷ []
refused-events s (done p) {r} {why} whole told = let z : ◌≡◌ {A = ℕ} 0 1 = cc in absurd (omega arith)
refused-events s (refused x) whole told = refl

-- ---- a list's element
element : {A B : Type 0} (f : A → B) (l : List A) (i : ℕ) (d : A) → i < length l → get_elem? (map f l) i ≡ some (f (get_or l i d))
element f [] i d below = absurd (not-suc-le-zero below)
element f (x ∷ l) zero d below = refl
element f (x ∷ l) (suc i) d below = element f l i d (le_of_suc-le-suc below)

past : {A B : Type 0} (f : A → B) (l : List A) (i : ℕ) → length l ≤ i → get_elem? (map f l) i ≡ none
past f [] i end = refl
past f (x ∷ l) zero end = absurd (not-suc-le-zero end)
past f (x ∷ l) (suc i) end = past f l i (le_of_suc-le-suc end)

length-events : (s : List ℕ) (l : List packets.Field) → length (map (λ f. a_field (field_in s f)) l) ≡ length l
length-events s [] = refl
length-events s (x ∷ l) = ap suc (length-events s l)

-- what a struct's array says of its length
pub mapped-long : {A B : Type 0} (f : A → B) (l : List A) (n : ℕ) → length (map f l) ≡ n → length l ≡ n
mapped-long f [] n e = e
mapped-long f (x ∷ l) zero e = absurd (omega arith)
mapped-long f (x ∷ l) (suc n) e = ap suc (mapped-long f l n (omega arith))

-- ---- the turns
-- the parts of a packet that reads in the edition of its octet lie within its octets
parts_within : (c : std.Option Named) (ending : Ending) (s : List ℕ) (p : PacketAnswer) → of_choice c (λ e. read_packet e ending s) ≡ done p
    → (i : ℕ) → (get_or p.fields i no_field).start + (get_or p.fields i no_field).size ≤ length s
parts_within (std.Some named) ending s p is i = (packet_claims.claims).parts_within (edition_of named) ending s p is i
parts_within std.None ending s p is i = let z : ◌≡◌ {A = ℕ} 0 1 = cc in absurd (omega arith)

-- what a packet reads as, by the octet and by its kind
abbrev read_as : ℕ → State → List ℕ → Answer PacketAnswer
read_as edition kind s = by_edition edition (λ d. read_packet d (ending_of kind) s)

module _ (edition : ℕ) (kind : State) (s : List ℕ) {e : Ending} {r : Result PacketRead Refusal} (by_kind : e ≡ ending_of kind)
    (told : PacketTold (by_edition edition (λ d. read_packet d e s)) r) where
  whole-by-kind : r ≡ packet_read (read_as edition kind s)
  whole-by-kind = told.whole ∙ ap (λ (x : Ending). packet_read (by_edition edition (λ d. read_packet d x s))) by_kind

  module _ {read : PacketRead} (is : r ≡ Ok read) where
    packet-as : DoneAs (read_as edition kind s) read read.count
    packet-as = done-as (read_as edition kind s) whole-by-kind is

    pub turns-packet : TurnsTold edition kind s read.count
    unfolding events_of
    turns-packet =
        record {
          answer =
              packet-as.many
              ∙ sym
              (ap (λ (a : Answer PacketAnswer). length (events_read s a)) packet-as.is
              ∙ length-events s packet-as.packet.fields);
        }

    pub turn-there : {turn : ℕ} → turn < read.count → length read.fields ≡ fields_limit → turn < fields_limit
    unfolding padded_fields
    turn-there {turn} below long =
        let fields = packet-as.packet.fields in
        let padding = length-append fields (replicate (fields_limit - length fields) no_field) in
        omega (arith, packet-as.many, ap length packet-as.fields, padding)

    pub turn-field : {turn : ℕ} → turn < read.count → TurnTold edition kind s turn (Some (turns.Field (get_or read.fields turn no_field)))
    unfolding events_of padded_fields
    turn-field {turn} below =
        let fields = packet-as.packet.fields in
        let inside : turn < length fields = omega (arith, packet-as.many) in
        let same : get_or read.fields turn no_field ≡ get_or fields turn no_field =
        ap (λ (l : List packets.Field). get_or l turn no_field) packet-as.fields
        ∙ get_or-append fields (replicate (fields_limit - length fields) no_field) no_field turn inside in
        record {
          event =
              ap (λ (f : packets.Field). some (a_field (field_in s f))) same
              ∙ sym
              (ap (λ (a : Answer PacketAnswer). get_elem? (events_read s a) turn) packet-as.is
              ∙ element (λ (f : packets.Field). a_field (field_in s f)) fields turn no_field inside);
          inside = rw same (parts_within (choice_of edition) (ending_of kind) s packet-as.packet packet-as.is turn);
        }

    pub turn-over : {turn : ℕ} → read.count ≤ turn → TurnTold edition kind s turn None
    unfolding events_of
    turn-over {turn} end =
        let fields = packet-as.packet.fields in
        record {
          event =
              sym
              (ap (λ (a : Answer PacketAnswer). get_elem? (events_read s a) turn) packet-as.is
              ∙ past (λ (f : packets.Field). a_field (field_in s f)) fields turn (omega (arith, packet-as.many)));
          inside = omega arith;
        }

  module _ {why : Refusal} (is : r ≡ Err why) where
    loss-as : events_read s (read_as edition kind s) ≡ a_loss ∷ []
    loss-as = refused-events s (read_as edition kind s) whole-by-kind is

    pub turns-refused : TurnsTold edition kind s 1
    unfolding events_of
    turns-refused = record { answer = sym (ap length loss-as) }

    pub turn-loss : {turn : ℕ} → turn ≡ 0 → TurnTold edition kind s turn (Some turns.Loss)
    unfolding events_of
    turn-loss {turn} first =
        record { event = sym (ap (λ (l : List Event). get_elem? l turn) loss-as ∙ ap (get_elem? (a_loss ∷ [])) first); inside = omega arith }

    pub turn-past : {turn : ℕ} → (turn ≡ 0 → ⊥) → TurnTold edition kind s turn None
    unfolding events_of
    turn-past {turn} later =
        record { event = sym (ap (λ (l : List Event). get_elem? l turn) loss-as ∙ none_left turn later); inside = omega arith }
      where
        none_left : (t : ℕ) → (t ≡ 0 → ⊥) → get_elem? (a_loss ∷ []) t ≡ none
        none_left zero other = absurd (other refl)
        none_left (suc t) other = refl

pub ruleset turnings = (turns-packet, turns-refused, turn-field, turn-over, turn-loss, turn-past)
