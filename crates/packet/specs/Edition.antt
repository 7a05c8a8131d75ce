-- What an edition of the ASN.1 decides: which values are assigned, how many bits hold them, and which field types carry data (rules 6.3,
-- 6.7, 6.10 and 7.1 to 7.10). Both editions of T.38's Annex A are values of one record. Definitions only.
use Rattle.std.specs.Prelude.{Option, Some, None, ℕ, ◌+◌, ◌^◌, ◌≤◌, ◌<◌, ◌≡◌, Bool, true, false, not, cond, ltb, eqb}
use Rattle.length.specs.Refusals.{wrong_settings}
use Rattle.length.specs.Answers.{Answer, refuse}
pub use Rattle.packet.specs.declared.types.Enumerated.{Enumerated}
use Rattle.packet.specs.declared.types.PacketKind.{PacketKind}
use Rattle.packet.specs.declared.types.PacketKind.TheVariants.{Indicator, Data}
use Rattle.packet.specs.declared.types.Named.{Named}
use Rattle.packet.specs.declared.types.Named.TheVariants.{Old, New}

-- how many values it has, from 0 on: the added ones follow the others (rule 7.4)
abbrev pub many : Enumerated → ℕ
many e = e.assigned + e.added

-- an added value is one 1 bit for extension, one 0 bit, then six bits counted from zero (rule 7.5)
abbrev pub added_width : ℕ
added_width = 6

-- what its values need so that no two share their bits: it has at least one, its bits hold those before the extension mark, six bits hold
-- those added after it, and none is added where there is no mark
pub record SoundEnumerated (e : Enumerated) : Type 0 where
  pub some : 1 ≤ e.assigned
  pub wide : e.assigned ≤ 2 ^ e.width
  pub few : e.added ≤ 2 ^ added_width
  pub marked : 0 < e.added → e.extensible ≡ true

-- whether a field of a type carries data (rules 6.10 and 7.10)
pub data Rule : Type 0 where
  never : Rule
  always : Rule
  may : Rule

-- whether a `Rule` allows a field with data, or one without
abbrev pub allows : Rule → Bool → Bool
allows never present = not present
allows always present = present
allows may present = true

pub record Edition : Type 0 where
  pub indicators : Enumerated
  pub kinds : Enumerated
  pub types : Enumerated
  pub rule : ℕ → Rule

-- the values of a kind of packet
abbrev pub values : Edition → PacketKind → Enumerated
values edition Indicator = edition.indicators
values edition Data = edition.kinds

-- no two of its values share their bits
pub record SoundEdition (edition : Edition) : Type 0 where
  pub of_kind : (kind : PacketKind) → SoundEnumerated (values edition kind)
  pub of_types : SoundEnumerated edition.types

-- types 1 to 5 carry no data, 0 and 6 always do, 7 may (rule 6.10); added types 8 cm, 9 jm and 10 ci always do, 11 v34rate may (rule 7.10)
abbrev pub carries : ℕ → Rule
carries type =
    cond (eqb type 0) always
    (cond (ltb type 6) never
    (cond (eqb type 6) always
    (cond (eqb type 7) may
    (cond (ltb type 11) always may))))

-- T.38 (06/98), Annex A: 16 indicators, 9 data kinds and 8 field types, with no added values (rules 6.3, 6.28 to 6.30 and 7.3)
--     t30-indicator ENUMERATED { no-signal, .. v17-14400-long-training, ... }
--     data ENUMERATED { v21, .. v17-14400, ... }
--     field-type ENUMERATED { hdlc-data, .. t4-non-ecm-sig-end }
abbrev pub edition98 : Edition
edition98 = record {
  indicators = record { extensible = true; width = 4; assigned = 16; added = 0 };
  kinds = record { extensible = true; width = 4; assigned = 9; added = 0 };
  types = record { extensible = false; width = 3; assigned = 8; added = 0 };
  rule = carries;
}

-- T.38 (2002), Annex A: a field type has an extension bit, so a header has five bits or more (rule 7.9), and 7 indicators, 6 data kinds and
-- 4 field types are added (rules 7.4, 7.14 and 7.15)
--     t30-indicator ENUMERATED { no-signal, .. v17-14400-long-training, ..., v8-ansam, v8-signal, v34-cntl-channel-1200,
--         v34-pri-channel, v34-CC-retrain, v33-12000-training, v33-14400-training }
--     t30-data ENUMERATED { v21, .. v17-14400, ..., v8, v34-pri-rate, v34-CC-1200, v34-pri-ch, v33-12000, v33-14400 }
--     field-type ENUMERATED { hdlc-data, .. t4-non-ecm-sig-end, ..., cm-message, jm-message, ci-message, v34rate }
abbrev pub edition02 : Edition
edition02 = record {
  indicators = record { extensible = true; width = 4; assigned = 16; added = 7 };
  kinds = record { extensible = true; width = 4; assigned = 9; added = 6 };
  types = record { extensible = true; width = 3; assigned = 8; added = 4 };
  rule = carries;
}

-- the caller names the edition at each packet read or written, by octet 0 or 1 (rule 7.1)
abbrev pub edition_of : Named → Edition
edition_of Old = edition98
edition_of New = edition02

abbrev pub choice_of : ℕ → Option Named
choice_of octet = cond (eqb octet 0) (Some Old) (cond (eqb octet 1) (Some New) None)

-- another octet is 15, before all other refusals (rule 7.2)
abbrev pub of_choice : {A : Type 0} → Option Named → (Edition → Answer A) → Answer A
of_choice (Some named) answer = answer (edition_of named)
of_choice None answer = refuse wrong_settings

abbrev pub by_edition : {A : Type 0} → ℕ → (Edition → Answer A) → Answer A
by_edition octet answer = of_choice (choice_of octet) answer
