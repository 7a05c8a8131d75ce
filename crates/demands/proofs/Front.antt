-- A packet that reads as repaired is one that reads as received, then zeros: each of its items lies in the octets up to its end, and
-- is as it must be in these alone. Assumes nothing.
use Prim.Native.Nat.{ℕ, suc, ◌*◌, ◌/◌, ◌≤◌, ◌<◌}
use mathlib.Core.Path.{◌≡◌, refl, sym, ap, ap₂, subst, ◌∙◌}
use mathlib.Core.Logic.{◌⊎◌, inl, inr}
use mathlib.Core.Bool.{true}
use mathlib.Core.List.{List, [], ◌∷◌, ◌++◌}
use mathlib.Core.Option.{none}
use lib.ListN.{length, take, drop, replicate, length-drop, take-append-drop}
use lib.Seq.{length-take-le}
use lib.Dec.{eqb}
use native.Mathlib.Omega.{arith}
use borrow.Author.Tests.{eq-eqb, eqb-true}
use Rattle.octets.proofs.Laws.{below_or_not, and_left, and_right}
use Rattle.length.specs.Refusals.{ends_early}
use Rattle.length.specs.Tables.{refusal_in}
use Rattle.length.specs.Claims.{Octets}
use Rattle.length.proofs.Laws.{octets-cons, octets-none}
use Rattle.format.specs.Places.{Place}
use Rattle.datagram.specs.Sizes.{packet_limit}
use Rattle.packet.specs.Edition.{Edition, edition_of}
use Rattle.packet.specs.Packet.{every, all_zero, read_packet}
use Rattle.packet.specs.declared.types.Named.{Named}
use Rattle.packet.specs.declared.types.Ending.{Ending}
use Rattle.packet.specs.declared.types.Ending.TheVariants.{Whole, Repaired}
use Rattle.packet_laws.proofs.Laws.{narrow}
use Rattle.demands.specs.Demand1.PacketItems.{end, octets_from, Due}
use Rattle.demands.specs.Demand1.PacketRefusals.{FirstWrong}
use Rattle.demands.proofs.PacketRows.{not-both}
use Rattle.demands.proofs.PacketPlaces.{due-end, due-inside}
use Rattle.demands.proofs.PacketFronts.{in-front}
use Rattle.demands.proofs.PacketStops.{Ended, over-limit, passed-ended}

zeros-only : (s : List ℕ) → all_zero s ≡ true → s ≡ replicate (length s) 0
unfolding every
zeros-only [] e = refl
zeros-only (x ∷ s) e =
    ap₂ (λ (a : ℕ) (l : List ℕ). a ∷ l) (eqb-true x 0 (and_left (eqb x 0) (every (λ y. eqb y 0) s) e))
    (zeros-only s (and_right (eqb x 0) (every (λ y. eqb y 0) s) e))

octets-front : (w more : List ℕ) → Octets (w ++ more) → Octets w
octets-front [] more octets = octets-none
octets-front (a ∷ w) more octets = octets-cons a w (octets 0) (octets-front w more (λ i. octets (suc i)))

-- the octets up to the packet's end, and so many zeros
pub record InFront (edition : Edition) (s : List ℕ) : Type 0 where
  pub front : List ℕ
  pub zeros : ℕ
  pub is : s ≡ front ++ replicate zeros 0
  pub fits : length s ≤ packet_limit
  pub octets : Octets s → Octets front
  pub reads : refusal_in (read_packet edition Whole front) ≡ none

within-limit : (edition : Edition) (ending : Ending) (s : List ℕ) → refusal_in (read_packet edition ending s) ≡ none
    → length s ≤ packet_limit
within-limit edition ending s e = by (below_or_not packet_limit (length s)) where
  by : (packet_limit < length s) ⊎ (length s ≤ packet_limit) → length s ≤ packet_limit
  by (inl over) = absurd (not-both e (over-limit edition ending s over))
  by (inr fits) = fits

ends_there : {edition : Edition} (w : List ℕ) → Due edition w (8 * length w) end → Ended edition Whole w
ends_there w due =
    let nothing : length (octets_from w (8 * length w)) ≡ 0 = omega (arith, length-drop (8 * length w / 8) w) in
    record { place = 8 * length w; due = due; follows = eq-eqb (length (octets_from w (8 * length w))) 0 nothing }

pub repaired-front : (named : Named) (s : List ℕ) → refusal_in (read_packet (edition_of named) Repaired s) ≡ none
    → InFront (edition_of named) s
repaired-front named s e =
    let fits = within-limit (edition_of named) Repaired s e in
    let t = (passed-ended named Repaired s fits).0 e in
    let p = t.place in
    let edge = due-end t.due in
    let inside = due-inside t.due in
    let w : List ℕ = take (p / 8) s in
    let more : List ℕ = drop (p / 8) s in
    let whole : take (p / 8) s ++ drop (p / 8) s ≡ s = take-append-drop (p / 8) s in
    let long : length (take (p / 8) s) ≡ p / 8 = length-take-le (p / 8) s (omega arith) in
    let there : p ≡ 8 * length (take (p / 8) s) = omega arith in
    let due : Due (edition_of named) w (8 * length w) end =
    subst (λ (q : Place). Due (edition_of named) w q end) there
    (kept w more p (omega arith)
    (in-front (narrow named) Whole w more (subst (λ (l : List ℕ). Due (edition_of named) l p end) (sym whole) t.due))) in
    record {
      front = w;
      zeros = length more;
      is = sym whole ∙ ap (λ (l : List ℕ). w ++ l) (zeros-only more t.follows);
      fits = fits;
      octets = λ octets. octets-front w more (subst Octets (sym whole) octets);
      reads = (passed-ended named Whole w (omega arith)).1 (ends_there w due);
    } where
      kept : (w more : List ℕ) (p : Place) → p ≤ 8 * length w
          → Due (edition_of named) w p end ⊎ ((8 * length w < p) × FirstWrong (edition_of named) Whole w ends_early)
          → Due (edition_of named) w p end
      kept w more p low (inl due) = due
      kept w more p low (inr behind) = absurd (omega (arith, behind.0))
