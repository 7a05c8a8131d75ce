-- One outcome of the calls that only report a value: a limit, a slot, a size, a flag (rule 28.14). A record for each crate, with a field
-- for each call, under its name and with its promise. Statements only.
use Rattle.std.specs.Prelude.{ℕ, ◌%◌, ◌≡◌, Bool, List, [], length, Result, Option}
use Rattle.length.specs.Length as lengths
use Rattle.length.specs.Promise.{Octet, RefusalMade, RefusalPlaced, RefusalTold}
use Rattle.length.specs.Refusals as refusals
use Rattle.length.specs.Answers as answers
use Rattle.length.specs.declared.Length.{Length}
use Rattle.length.specs.declared.Refusal.{Refusal}
use Rattle.length.specs.declared.Reason.{Reason}
use Rattle.datagram.specs.Sizes as sizes
use Rattle.datagram.specs.Write as write
use Rattle.datagram.specs.Inner.Heads.{LengthSize, kind_head}
use Rattle.datagram.specs.declared.kind.Kind.{Kind}
use Rattle.packet.specs.Edition as edition
use Rattle.packet.specs.Edition.{edition02, edition_of, carries, allows}
use Rattle.packet.specs.Packet as packet
use Rattle.packet.specs.Promise.{padded_fields, packet_read}
use Rattle.packet.specs.declared.types.Enumerated.{Enumerated}
use Rattle.packet.specs.declared.types.PacketKind as packets
use Rattle.packet.specs.declared.types.Named.{Named}
use Rattle.packet.specs.declared.types.Ending as endings
use Rattle.packet.specs.declared.types.Field.{Field}
use Rattle.packet.specs.declared.types.PacketRead.{PacketRead}
use Rattle.session_slots.specs.Store as store
use Rattle.session.specs.View as views
use Rattle.session_held.specs.Slots as slots
use Rattle.session_held.specs.Table as table
use Rattle.session_held.specs.declared.Counts.{Counts}
use Rattle.session_held.specs.declared.ReleaseKind as kinds
use Rattle.sender.specs.Sending as history
use Rattle.sender.specs.Sender as sender
use Rattle.frame.specs.Frame as frames
use Rattle.line.specs.Hex as hex
use Rattle.line.specs.Feed as feed
use Rattle.line.specs.Lines as lines
use Rattle.line.specs.Promise as steps
use Rattle.line.specs.FeedPromise.{Found}
use Rattle.image.specs.Image as images

-- two answers that a promise allows are equal
abbrev pub One : {A : Type 0} → (A → Type 0) → Type 0
One {A} promise = (r q : A) → promise r → promise q → r ≡ q

-- two answers that a promise allows are equal, and so is all that they leave in the caller's buffer
abbrev pub OneLent : {A : Type 0} → (List ℕ → A → Type 0) → Type 0
OneLent {A} promise = (new other : List ℕ) (r q : A) → promise new r → promise other q → (r ≡ q) × (new ≡ other)

-- `length`: `number` and `numbered` of `Reason`, `new`, `at`, `number` and `further` of `Refusal`, `two_from`, `limit` and `refusal` of
-- `Length`, `wide`, `within`
pub record ToldByLengths : Type 0 where
  pub reason_number : (why : Reason) → One (λ (r : ℕ). r ≡ refusals.number_of why)
  pub reason_numbered : (number : ℕ) → One (λ (r : Reason). r ≡ refusals.numbered number)
  pub refusal : (why : Reason) → One (RefusalMade why)
  pub refusal_at : (why : Reason) (place : ℕ) → One (RefusalPlaced why place)
  pub refusal_number : (why : Refusal) → One (λ (r : ℕ). r ≡ refusals.number_of why.reason)
  pub refusal_further : (start : ℕ) (why : Refusal) → One (λ (r : Refusal). r ≡ refusals.further start why)
  pub length_two_from : One (λ (r : ℕ). r ≡ lengths.two_from)
  pub length_limit : One (λ (r : ℕ). r ≡ lengths.length_limit)
  pub length_refusal : (found : Result Length Refusal) → One (RefusalTold found)
  pub octet_wide : (octet : ℕ) → One (Octet octet)
  pub within : (least most n : ℕ) → One (λ (r : Bool). r ≡ lengths.within least most n)

-- `datagram_sizes`: `least` and `limit` of `Packet`, `Message` and `Spares`, `limit` of `Datagram`, the five limits of `Parity`;
-- `datagram`: `count_inside`; `datagram_writer`: `kind_size` and `length_size`
pub record ToldByDatagrams : Type 0 where
  pub packet_least : One (λ (r : ℕ). r ≡ sizes.packet_least)
  pub packet_limit : One (λ (r : ℕ). r ≡ sizes.packet_limit)
  pub message_least : One (λ (r : ℕ). r ≡ sizes.message_least)
  pub message_limit : One (λ (r : ℕ). r ≡ sizes.message_limit)
  pub datagram_limit : One (λ (r : ℕ). r ≡ sizes.datagram_limit)
  pub spares_least : One (λ (r : ℕ). r ≡ sizes.spares_least)
  pub spares_limit : One (λ (r : ℕ). r ≡ sizes.spares_limit)
  pub packets_least : One (λ (r : ℕ). r ≡ sizes.covered_least)
  pub packets_limit : One (λ (r : ℕ). r ≡ sizes.covered_limit)
  pub messages_least : One (λ (r : ℕ). r ≡ sizes.messages_least)
  pub messages_limit : One (λ (r : ℕ). r ≡ sizes.messages_limit)
  pub reach_limit : One (λ (r : ℕ). r ≡ sizes.reach_limit)
  pub count_inside : (kind : Kind) (count : ℕ) → One (λ (r : Bool). r ≡ write.count_inside kind count)
  pub kind_size : (kind : Kind) (count : ℕ) → One (λ (r : ℕ). r ≡ length (kind_head kind count))
  pub length_size : (n : ℕ) → One (LengthSize n)

-- `packet`: `least`, `limit` and `types_limit` of `Field`; `packet_rules`: `choice_of`, `values`, `types`, `right_fields`, `right_data`
pub record ToldByPackets : Type 0 where
  pub fields_least : One (λ (r : ℕ). r ≡ packet.fields_least)
  pub fields_limit : One (λ (r : ℕ). r ≡ packet.fields_limit)
  pub types_limit : One (λ (r : ℕ). r ≡ packet.types_limit edition02)
  pub choice_of : (octet : ℕ) → One (λ (r : Option Named). r ≡ edition.choice_of octet)
  pub values : (named : Named) (kind : packets.PacketKind) → One (λ (r : Enumerated). r ≡ edition.values (edition_of named) kind)
  pub types : (named : Named) → One (λ (r : Enumerated). r ≡ (edition_of named).types)
  pub right_fields : (kind : packets.PacketKind) (present : Bool) → One (λ (r : Bool). r ≡ packet.right_fields kind present)
  pub right_data : (kind : ℕ) (present : Bool) → One (λ (r : Bool). r ≡ allows (carries kind) present)

-- `packet_reader`: what its `read` shares with the second reader, `may_follow`, `no_fields` and what a refused packet reads as
pub record ToldByPacketReader : Type 0 where
  pub may_follow : (ending : endings.Ending) (left : List ℕ) → One (λ (r : Bool). r ≡ packet.may_follow ending left)
  pub no_fields : One (λ (r : List Field). r ≡ padded_fields [])
  pub refused : (why : Refusal) → One (λ (r : Result PacketRead Refusal). r ≡ packet_read (answers.refused why))

-- `octets`: `wide`; `session_slots`: `passing`
pub record ToldByStores : Type 0 where
  pub wide : (n : ℕ) → One (λ (r : ℕ). r ≡ n)
  pub passing : One (λ (r : List ℕ). r ≡ store.mask)

-- `session_held`: `limit`, `kept`, `heard`, `packet_octets`, `message_octets` and `places` of `Session`; then `kept_slot`, `heard_slot`
-- and `total`
pub record ToldByHeld : Type 0 where
  pub session_limit : One (λ (r : ℕ). r ≡ views.session_limit)
  pub kept : One (λ (r : ℕ). r ≡ slots.slots_kept)
  pub heard : One (λ (r : ℕ). r ≡ slots.slots_heard)
  pub kept_octets : One (λ (r : ℕ). r ≡ slots.kept_octets)
  pub message_octets : One (λ (r : ℕ). r ≡ slots.message_octets)
  pub places : One (λ (r : ℕ). r ≡ table.places)
  pub kept_slot : (number : ℕ) → One (λ (r : ℕ). r ≡ number % slots.slots_kept)
  pub heard_slot : (number : ℕ) → One (λ (r : ℕ). r ≡ number % slots.slots_heard)
  pub total : (c : Counts) → One (λ (r : ℕ). r ≡ views.sum (table.counts_of c))

-- `sender`: `limit`, `history` and `history_octets` of `Sender`; `sender_history`: `slot_of`
pub record ToldBySending : Type 0 where
  pub sender_limit : One (λ (r : ℕ). r ≡ views.session_limit)
  pub history_kept : One (λ (r : ℕ). r ≡ history.history_kept)
  pub history_octets : One (λ (r : ℕ). r ≡ sender.history_octets)
  pub slot_of : (number : ℕ) → One (λ (r : ℕ). r ≡ number % history.history_kept)

-- `line`: `limit`, `kept_limit` and `step_limit` of `Line`; `line_hex`: `all_digits`; `line_code`: `kind_octet` and `find_feed`
pub record ToldByLines : Type 0 where
  pub line_limit : One (λ (r : ℕ). r ≡ hex.line_limit)
  pub kept_limit : One (λ (r : ℕ). r ≡ feed.kept_limit)
  pub step_limit : One (λ (r : ℕ). r ≡ steps.step_limit)
  pub all_digits : (line : List ℕ) → One (λ (r : Bool). r ≡ hex.all_digits line)
  pub kind_octet : (kind : kinds.ReleaseKind) → One (λ (r : ℕ). r ≡ lines.kind_octet (table.state_of kind))
  pub find_feed : (octets : List ℕ) → One (Found octets)

-- `frame`: `limit` of `Joiner`
pub record ToldByFrames : Type 0 where
  pub frame_limit : One (λ (r : ℕ). r ≡ frames.frame_limit)

-- `image`: `line` and `limit` of `Image`
pub record ToldByImages : Type 0 where
  pub image_line : One (λ (r : ℕ). r ≡ images.number_line_limit sizes.packet_limit)
  pub image_limit : One (λ (r : ℕ). r ≡ images.image_limit sizes.packet_limit)

pub record OneTold : Type 0 where
  pub by_lengths : ToldByLengths
  pub by_datagrams : ToldByDatagrams
  pub by_packets : ToldByPackets
  pub by_packet_reader : ToldByPacketReader
  pub by_stores : ToldByStores
  pub by_held : ToldByHeld
  pub by_sending : ToldBySending
  pub by_lines : ToldByLines
  pub by_frames : ToldByFrames
  pub by_images : ToldByImages
