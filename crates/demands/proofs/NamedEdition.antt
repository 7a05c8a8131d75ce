-- An octet over 1 names no edition: 15, before all else, and of a reader only then. Assumes nothing.
use Rattle.std.proofs.Common.{Result, Option, Some, None}
use Prim.Native.Nat.{ℕ, zero, suc, ◌≤◌, ◌<◌}
use mathlib.Core.Path.{◌≡◌, refl, sym, ap, subst, ◌∙◌}
use mathlib.Core.Logic.{◌⊎◌, inl, inr}
use mathlib.Core.List.{List}
use mathlib.Core.Option.{some}
use lib.ListN.{length}
use native.Mathlib.Omega.{arith}
use borrow.Author.Tests.{ne_eqb}
use Rattle.octets.proofs.Laws.{below_or_not}
use Rattle.length.specs.declared.Refusal.{Refusal}
use Rattle.length.specs.Refusals.{wrong_settings, wrong_data, number_of}
use Rattle.length.specs.Answers.{fitted, size_of, refuse}
use Rattle.length.specs.Tables.{refusal_in}
use Rattle.datagram.specs.Sizes.{packet_limit}
use Rattle.packet.specs.Edition.{Edition, SoundEdition, edition_of, choice_of, of_choice}
use Rattle.packet.specs.Packet.{read_packet}
use Rattle.packet.specs.Write.{packet_to_write}
use Rattle.packet.specs.Promise.{PacketTold, packet_outcome, ReadBy}
use Rattle.packet.specs.declared.types.Ending.{Ending}
use Rattle.packet.specs.declared.types.Named.{Named}
use Rattle.packet.specs.declared.types.Named.TheVariants.{Old, New}
use Rattle.packet.specs.declared.types.PacketRead.{PacketRead}
use Rattle.packet.proofs.Claims as packet-claims
use Rattle.demands.specs.Common.NamedEdition.{Names, AnotherEdition}
use Rattle.demands.proofs.PacketRows.{same_reason}
use Rattle.demands.proofs.PacketStops.{over-limit, refused-wrong}
use Rattle.demands.proofs.PacketCases.{case-of}
use Rattle.demands.proofs.PacketExact.{of-data}

-- the values of both editions can be told apart
pub sound : (named : Named) → SoundEdition (edition_of named)
sound Old = (packet-claims.claims).sound98
sound New = (packet-claims.claims).sound02

-- what a call reads that names an edition
pub read_as : (octet : ℕ) (named : Named) (ending : Ending) (s : List ℕ) {r : Result PacketRead Refusal} → Names octet named
    → ReadBy octet ending s r
    → PacketTold (read_packet (edition_of named) ending s) r
read_as octet named ending s {r} names told =
    subst (λ (c : Option Named). PacketTold (of_choice c (λ (e : Edition). read_packet e ending s)) r) names told

-- ---- an octet that names none
over_none : (octet : ℕ) → 1 < octet → choice_of octet ≡ None
over_none octet over = rw (ne_eqb octet 0 (λ same. omega arith), ne_eqb octet 1 (λ same. omega arith))

none_over : (octet : ℕ) → choice_of octet ≡ None → 1 < octet
none_over zero none = let z : ◌≡◌ {A = ℕ} 0 1 = cc in absurd (omega arith)
none_over (suc zero) none = let z : ◌≡◌ {A = ℕ} 0 1 = cc in absurd (omega arith)
none_over (suc (suc n)) none = omega arith

-- what is read by an edition is never refused with 15
never-15 : (named : Named) (ending : Ending) (s : List ℕ) → refusal_in (read_packet (edition_of named) ending s) ≡ some wrong_settings → ⊥
never-15 named ending s e = by (below_or_not packet_limit (length s)) where
  by : (packet_limit < length s) ⊎ (length s ≤ packet_limit) → ⊥
  by (inl over) = let same = ap number_of (same_reason (sym e ∙ over-limit (edition_of named) ending s over)) in omega arith
  by (inr fits) =
      let wrong = case-of named ending s wrong_settings ((refused-wrong named ending s fits wrong_settings).0 e) in
      let same = ap number_of (same_reason (sym e ∙ (refused-wrong named ending s fits wrong_data).1 (of-data ending s wrong))) in
      omega arith

read-only : (octet : ℕ) (ending : Ending) (s : List ℕ) {r : Result PacketRead Refusal} → ReadBy octet ending s r
    → refusal_in (packet_outcome r) ≡ some wrong_settings → 1 < octet
read-only octet ending s {r} told e = by (choice_of octet) refl where
  by : (c : Option Named) → choice_of octet ≡ c → 1 < octet
  by (Some named) names =
      absurd (never-15 named ending s (sym (ap refusal_in (read_as octet named ending s names told).answer) ∙ e))
  by None none = none_over octet none

read_none : (octet : ℕ) (ending : Ending) (s : List ℕ) {r : Result PacketRead Refusal} → ReadBy octet ending s r → 1 < octet
    → packet_outcome r ≡ refuse wrong_settings
read_none octet ending s told over =
    told.answer ∙ ap (λ (c : Option Named). of_choice c (λ (e : Edition). read_packet e ending s)) (over_none octet over)

pub another-edition : AnotherEdition
another-edition =
    record {
      named = λ octet. (none_over octet, over_none octet);
      read = λ octet ending s told.
          (λ e. read-only octet ending s told (ap refusal_in e), read_none octet ending s told);
      read_only = λ octet ending s told.
          (read-only octet ending s told, λ over. ap refusal_in (read_none octet ending s told over));
      written = λ octet kind value types lengths octets {old} p over.
          p.answer
          ∙ ap (λ (c : Option Named). size_of (fitted (of_choice c (λ (e : Edition). packet_to_write e kind value types lengths octets)) old))
          (over_none octet over);
    }
