-- Answers and choices as C sees them, in numbers: a case for each row of rules 24.1, 24.2, 24.5 to 24.8 and 24.10. Definitions only.
use Rattle.std.specs.Prelude.{ℕ, ◌≡◌, true, false, List, [], ◌∷◌, Result, Ok, Err, map, replicate}
use Rattle.length.specs.Refusals.{refusal, refusal_at, numbered}
use Rattle.length.specs.Answers.{done, refused}
use Rattle.length.specs.declared.Refusal.{Refusal}
use Rattle.packet.specs.declared.types.PacketKind.TheVariants.{Indicator, Data}
use Rattle.packet.specs.declared.types.Ending.TheVariants.{Whole, Repaired}
use Rattle.packet.specs.declared.types.Field.{Field}
use Rattle.session_held.specs.declared.ReleaseKind.{ReleaseKind}
use Rattle.session_held.specs.declared.ReleaseKind.TheVariants as kind
use Rattle.session_release.specs.Outcome.{released_outcome}
use Rattle.session_offer.specs.Outcome.{offered_outcome}
use Rattle.frame.specs.Promise.{handed_outcome}
use Rattle.frame.specs.declared.Handed.{Handed}
use Rattle.frame.specs.declared.Handed.TheVariants as handed
use Rattle.sender.specs.declared.Settings.TheVariants as settings
use Rattle.host_answers.specs.Answers.{told, release_number, wrote_told}
use Rattle.host_answers.specs.Joiner.{flag_of, frame_told, outside}
use Rattle.host_answers.specs.Packet.{ending_named, kind_told, kind_named, packet_told}
use Rattle.host_answers.specs.Settings.{settings_of}
use Rattle.host_answers.specs.declared.answers.Number.{Number}

-- number 1234 with note 5678 and a packet of nine octets, as it leaves by this kind; and what C sees of it
abbrev pub left : ReleaseKind → Number
left by = release_number (released_outcome (Ok (record { kind = by; number = 0x1234; note = 0x5678; size = 9 })))

abbrev pub seen : ℕ → Number
seen octet = record { refusal = 0; kind = octet; number = 0x1234; note = 0x5678; place = 0; size = 9 }

-- a field of a packet, and a place without one
abbrev pub data_field : Field
data_field = record { kind = 6; start = 5; size = 2 }

abbrev pub no_field : Field
no_field = record { kind = 0; start = 0; size = 0 }

pub record Cases : Type 0 where
  -- rules 24.1 and 24.2: 0 and place 0, or the refusal's number and place
  pub accepted : told (offered_outcome (Ok tt)) ≡ record { refusal = 0; place = 0 }
  pub not-accepted : told (offered_outcome (Err (refusal_at 5 (numbered 3)))) ≡ record { refusal = 3; place = 5 }
  -- rule 24.8: the kinds as in the program's lines, the number, its note, the size of its packet
  pub kinds : map left (kind.Received ∷ kind.Spare ∷ kind.Repaired ∷ kind.Lost ∷ []) ≡ seen 0 ∷ seen 1 ∷ seen 2 ∷ seen 3 ∷ []
  -- rule 24.17: with a refusal all else is 0
  pub stays : release_number (released_outcome (Err (refusal_at 7 (numbered 10))))
      ≡ record { refusal = 10; kind = 0; number = 0; note = 0; place = 7; size = 0 }
  -- rule 24.10: how many octets were written, 0 with a refusal
  pub wrote : wrote_told (done 7) ≡ record { refusal = 0; place = 0; size = 7 }
  pub unwritten : wrote_told (refused (refusal_at 2 (numbered 13))) ≡ record { refusal = 13; place = 2; size = 0 }
  -- rules 24.6 and 24.8: nothing is 0, a good frame 1, a bad frame 2, each with its size; tainted is 1; 17 leaves the joiner unchanged
  pub frames : map (λ (h : Result Handed Refusal). frame_told (handed_outcome h))
      (Ok handed.Nothing ∷ Ok (handed.Good 7) ∷ Ok (handed.Bad 7) ∷ Err (refusal (numbered 18)) ∷ [])
      ≡ record { refusal = 0; kind = 0; size = 0 }
      ∷ record { refusal = 0; kind = 1; size = 7 }
      ∷ record { refusal = 0; kind = 2; size = 7 }
      ∷ record { refusal = 18; kind = 0; size = 0 }
      ∷ []
  pub flags : map flag_of (false ∷ true ∷ []) ≡ 0 ∷ 1 ∷ []
  pub no-joiner : outside 2 9 ≡ record { head = record { tainted = 2; size = 9 }; frame = record { refusal = 17; kind = 0; size = 0 } }
  -- rule 24.5: 0 is an indicator and 1 is data, both ways
  pub told-kinds : map kind_told (Indicator ∷ Data ∷ []) ≡ 0 ∷ 1 ∷ []
  pub named-kinds : map kind_named (0 ∷ 1 ∷ []) ≡ Indicator ∷ Data ∷ []
  -- rules 6.12 and 24.11: a repaired packet is read as one
  pub endings : map ending_named (false ∷ true ∷ []) ≡ Whole ∷ Repaired ∷ []
  -- rules 6.27 and 24.17: the fields of a packet, and zeros in the other places; with a refusal all is 0 but its number and place
  pub packet : packet_told (done (record { kind = Data; value = 8; fields = data_field ∷ [] }))
      ≡ record { refusal = 0; kind = 1; value = 8; place = 0; count = 1; fields = data_field ∷ replicate 15 no_field }
  pub no-packet : packet_told (refused (refusal_at 4 (numbered 14)))
      ≡ record { refusal = 14; kind = 0; value = 0; place = 4; count = 0; fields = replicate 16 no_field }
  -- rule 24.7: with parity the count is m, and n is n; else the count is k
  pub parity : settings_of true 2 3 ≡ settings.Parity 3 2
  pub spares : settings_of false 2 3 ≡ settings.Spares 2
