-- The hypotheses of the theorems on reading and writing can be met: for each promise and each relation that such a theorem takes, octets
-- that meet it, with the answer in numbers; and calls that meet those of OneCall. For demand 3 Example and Burst do the same. Definitions
-- only.
use Rattle.std.specs.Prelude.{ℕ, ◌≡◌, true, List, [], ◌∷◌, replicate, Ok, Err, Result}
use Rattle.session_release.specs.declared.Released.{Released}
use Rattle.length.specs.Length.{length_to_write}
use Rattle.length.specs.Promise.{LengthRead, WithinRead, Puts}
use Rattle.length.specs.Claims.{Octets}
use Rattle.length.specs.declared.Refusal.{Refusal}
use Rattle.length.specs.Refusals.{numbered}
use Rattle.datagram.specs.Promise.{DatagramReads}
use Rattle.datagram.specs.declared.kind.Kind.TheVariants as kind
use Rattle.datagram_writer.specs.Promise.{DatagramWritten}
use Rattle.packet.specs.Promise.{ReadBy, PacketWritten}
use Rattle.packet.specs.declared.types.Ending.TheVariants.{Whole, Repaired}
use Rattle.packet.specs.declared.types.Named.TheVariants.{Old, New}
use Rattle.packet.specs.declared.types.PacketKind.TheVariants.{Indicator}
use Rattle.packet.specs.declared.types.PacketRead.{PacketRead}
use Rattle.packet.specs.declared.types.Field.{Field}
use Rattle.session.specs.Cells.{received, kept_before}
use Rattle.session.specs.Reached.{Known}
use Rattle.session_held.specs.Table.{lent_by, view_of}
use Rattle.session_held.specs.Promise.{Fresh}
use Rattle.session_held.specs.declared.Session.{Session}
use Rattle.session_held.specs.declared.ReleaseKind.TheVariants.{Received}
use Rattle.session_calls.specs.Receiver.{OfferOwes, ReleaseOwes}
use Rattle.session_calls.specs.declared.Returned.{Returned}
use Rattle.image.specs.Layout.{image_version01, image_version02}
use Rattle.image.specs.Image.{LentOctets}
use Rattle.demands.specs.Common.NamedEdition.{Names}
use Rattle.demands.specs.Common.History.{left_as}
use Rattle.demands.specs.Common.Calls.{Calls, start, ◌then◌, offer, release, Called, left_by}
use Rattle.demands.specs.Demand2.Demand2.{Begins}
use Rattle.demands.specs.Sheet.{datagram0}
use Rattle.demands.specs.NotInside.{AlikeButOctets}
use Rattle.demands.specs.Requests.Editions.{HeldBy}
use Rattle.demands.specs.Requests.Fits.{full_size}

-- refusal n at a place
abbrev pub refused_at : ℕ → ℕ → Refusal
refused_at n place = record { reason = numbered n; place = place }

-- 16 places for fields, none of them used
abbrev pub no_fields : List Field
no_fields = replicate 16 (record { kind = 0; start = 0; size = 0 })

-- what `06` reads as: indicator 3 (rule 26.1)
abbrev pub indicator3 : Result PacketRead Refusal
indicator3 = Ok (record { kind = Indicator; value = 3; count = 0; fields = no_fields })

-- number 1, packet `06`, one spare `05`, and the same with other octets inside
abbrev pub one_spare : List ℕ
one_spare = 0x00 ∷ 0x01 ∷ 0x01 ∷ 0x06 ∷ 0x00 ∷ 0x01 ∷ 0x01 ∷ 0x05 ∷ []

abbrev pub other_spare : List ℕ
other_spare = 0x00 ∷ 0x01 ∷ 0x01 ∷ 0xAA ∷ 0x00 ∷ 0x01 ∷ 0x01 ∷ 0xBB ∷ []

-- number 0, packet `06`, and `02` where the kind is: 5 at 4 (rules 2.5 and 4.3)
abbrev pub wrong_kind : List ℕ
wrong_kind = 0x00 ∷ 0x00 ∷ 0x01 ∷ 0x06 ∷ 0x02 ∷ []

abbrev pub other_wrong_kind : List ℕ
other_wrong_kind = 0x00 ∷ 0x00 ∷ 0x01 ∷ 0xAA ∷ 0x02 ∷ []

-- what the calls return if a fresh session is offered datagram 0 of Sheet, and is then asked with leave to skip, into a buffer of two
-- octets. Such results exist, because each call terminates and keeps its promise
pub record OfferedThenReleased (s : Session) (one : Returned (Unit {0})) (new : List ℕ) (two : Returned Released) : Type 0 where
  pub fresh : Fresh s
  pub first : OfferOwes s datagram0 one
  pub second : ReleaseOwes one.session true (0xFF ∷ 0xFF ∷ []) new two

-- `06` is released as received, number 0, with note 0
abbrev pub then_released : List ℕ → Calls
then_released new = start then release true (0xFF ∷ 0xFF ∷ []) new (Ok (record { kind = Received; number = 0; note = 0; size = 1 }))

-- OneCall's hypotheses: a number is known when some calls begin, and leaves by them
pub record KnownLeaves (s : Session) (one : Returned (Unit {0})) (new : List ℕ) (two : Returned Released) : Type 0 where
  pub begins : Begins s
  pub before : Called s (start then offer datagram0 (Ok tt)) one.session
  pub known : Known (view_of one.session).cells kept_before
  pub more : Called one.session (then_released new) two.session
  pub left : left_by (then_released new) ≡ left_as received 0 0 (0x06 ∷ []) ∷ []
  pub buffer : new ≡ 0x06 ∷ 0xFF ∷ []

pub record PromiseCases : Type 0 where
  -- octet 0 names the old edition and octet 1 the new one (rule 7.1)
  pub old : Names 0 Old
  pub new : Names 1 New
  -- `06` as received, in both editions; as repaired with a zero behind it (rule 6.12); for octet 2 it is 15 at 0 (rule 7.2)
  pub received_old : ReadBy 0 Whole (0x06 ∷ []) indicator3
  pub received_new : ReadBy 1 Whole (0x06 ∷ []) indicator3
  pub repaired : ReadBy 0 Repaired (0x06 ∷ 0x00 ∷ []) indicator3
  pub left_over : ReadBy 0 Whole (0x06 ∷ 0x00 ∷ []) (Err (refused_at 6 1))
  pub another : ReadBy 2 Whole (0x06 ∷ []) (Err (refused_at 15 0))
  -- indicator 3 is written as `06`, and the rest of the buffer is unchanged (rule 2.26)
  pub packet_written : PacketWritten 0 Indicator 3 [] [] [] (0xFF ∷ 0xFF ∷ []) (0x06 ∷ 0xFF ∷ []) (Ok 1)
  -- a length of 128, written and read (rule 26.8); 0 is not from 1 to 256 (rule 3.6)
  pub length_written : Puts (length_to_write 128) (0xFF ∷ 0xFF ∷ 0xFF ∷ []) (0x80 ∷ 0x80 ∷ 0xFF ∷ []) (Ok 2)
  pub length_read : LengthRead (0x80 ∷ 0x80 ∷ 0xFF ∷ []) (Ok (record { value = 128; size = 2 }))
  pub within_read : WithinRead 1 256 (0x00 ∷ []) (Err (refused_at 4 0))
  -- a datagram with one spare, written and read
  pub datagram_written : DatagramWritten 1 (0x06 ∷ []) kind.Spares (1 ∷ []) (0x05 ∷ []) (replicate 9 0xFF)
      (0x00 ∷ 0x01 ∷ 0x01 ∷ 0x06 ∷ 0x00 ∷ 0x01 ∷ 0x01 ∷ 0x05 ∷ 0xFF ∷ []) (Ok 8)
  pub datagram_read : DatagramReads one_spare (Ok (record {
    number = 1;
    packet = record { start = 3; size = 1 };
    kind = kind.Spares;
    count = 1;
    items = record { start = 7; size = 1 } ∷ replicate 7 (record { start = 0; size = 0 });
  }))
  -- and its octets are octets
  pub octets : Octets one_spare
  -- with other octets inside it is alike (rule 4.22), and so are two datagrams that are refused with 5 at 4
  pub alike : AlikeButOctets one_spare other_spare
  pub alike_refused : AlikeButOctets wrong_kind other_wrong_kind
  pub refused : DatagramReads wrong_kind (Err (refused_at 5 4))
  -- a known number leaves, and is not lost (rules 9.9 and 12.2)
  pub one_call : (s : Session) (one : Returned (Unit {0})) (new : List ℕ) (two : Returned Released) → OfferedThenReleased s one new two
      → KnownLeaves s one new two
  -- a fresh session can be held by both image versions (rules 20.8 and 20.9)
  pub held_old : (s : Session) → Fresh s → LentOctets (lent_by s) → HeldBy image_version01 s
  pub held_new : (s : Session) → Fresh s → LentOctets (lent_by s) → HeldBy image_version02 s
  -- a datagram with eight spares of 256 octets and a packet of 256 has 2,326 octets (rule 1.17)
  pub full : full_size ≡ 2326
