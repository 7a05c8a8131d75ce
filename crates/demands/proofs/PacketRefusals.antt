-- What the packet reader refuses, of the public call's answer: reading stops at the first wrong item, and each sentence is what that
-- item's table says. Assumes nothing.
use Rattle.std.proofs.Common.{Result}
use Prim.Native.Nat.{ℕ, zero, suc, ◌*◌, ◌/◌, ◌≤◌, ◌<◌}
use mathlib.Core.Path.{◌≡◌, refl, sym, ap, subst, ◌∙◌}
use mathlib.Core.Logic.{◌↔◌, ◌⊎◌, inl, inr, ⊎_elim, ◌≢◌}
use mathlib.Core.Bool.{Bool, true, false}
use mathlib.Core.List.{List, ◌++◌}
use mathlib.Core.Option.{none, some}
use lib.ListN.{length, length-append, length-drop}
use native.Mathlib.Omega.{arith}
use borrow.Author.Tests.{eq-eqb, ne_eqb, eqb-true, eqb-false}
use Rattle.octets.proofs.Laws.{below_or_not}
use Rattle.length.specs.Refusals.{refusal_at, ends_early, bad_form, outside_sizes, spare_bit, not_assigned, wrong_data}
use Rattle.length.specs.Refusals as reason
use Rattle.length.specs.Answers.{refused, refuse}
use Rattle.length.specs.declared.Reason.{Reason}
use Rattle.length.specs.declared.Refusal.{Refusal}
use Rattle.length.proofs.Laws.{refused-same}
use Rattle.format.specs.Places.{Place}
use Rattle.datagram.specs.Sizes.{packet_limit}
use Rattle.packet.specs.Edition.{Edition, edition_of}
use Rattle.packet.specs.Packet.{may_follow, read_packet}
use Rattle.packet.specs.Promise.{PacketTold, packet_outcome, ReadBy}
use Rattle.packet.specs.declared.types.Named.{Named}
use Rattle.packet.specs.declared.types.Ending.{Ending}
use Rattle.packet.specs.declared.types.Ending.TheVariants.{Whole, Repaired}
use Rattle.packet.specs.declared.types.PacketRead.{PacketRead}
use Rattle.length.specs.Tables.{first, refusal_in}
use Rattle.packet_laws.proofs.Laws.{narrow}
use Rattle.demands.specs.Common.NamedEdition.{Names}
use Rattle.demands.specs.Demand1.PacketItems.{Item, end, octet_of, rows, octets_from, Due, Packet}
use Rattle.demands.specs.Demand1.PacketRefusals.{FirstWrong, PacketThen}
use Rattle.demands.specs.Demand1.PacketRefusals.{PacketRefusals}
use Rattle.demands.proofs.NamedEdition.{read_as}
use Rattle.demands.proofs.PacketRows.{not-both, end-wrong, wrong-end, rows_alike}
use Rattle.demands.proofs.PacketWalk.{why_in}
use Rattle.demands.proofs.PacketStops.{wrong-refused, refused-wrong, passed-ended}
use Rattle.demands.proofs.PacketStops as stops
use Rattle.demands.proofs.PacketPlaces.{due-end, due-inside}
use Rattle.demands.proofs.PacketMore.{wrong-more}
use Rattle.demands.proofs.PacketEarly.{of-early}
use Rattle.demands.proofs.PacketCases.{Case, case-of}
use Rattle.demands.proofs.PacketExact.{of-spare, of-data, of-unassigned, of-bad-count, of-sizes}

-- ---- the call's answer
module _ (named : Named) (ending : Ending) (s : List ℕ) {r : Result PacketRead Refusal}
    (told : PacketTold (read_packet (edition_of named) ending s) r) where
  over-limit : packet_limit < length s → refusal_in (packet_outcome r) ≡ some outside_sizes
  over-limit over = ap refusal_in told.answer ∙ stops.over-limit (edition_of named) ending s over

  wrong-item : (n : Reason) → length s ≤ packet_limit → (refusal_in (packet_outcome r) ≡ some n) ↔ FirstWrong (edition_of named) ending s n
  wrong-item n fits =
      let same = ap refusal_in told.answer in
      let t = refused-wrong named ending s fits n in
      (λ e. t.0 (sym same ∙ e), λ w. same ∙ t.1 w)

  -- at the octet of the first wrong item, or at 0
  placed : (n : Reason) (why : Refusal) → length s ≤ packet_limit → packet_outcome r ≡ refused why
      → (w : FirstWrong (edition_of named) ending s n)
      → why ≡ refusal_at (octet_of w.item w.place) n
  placed n why fits is w =
      let same : some why ≡ some (refusal_at (octet_of w.item w.place) n) =
      sym (ap why_in (sym told.answer ∙ is)) ∙ wrong-refused named ending s fits n w in
      cc

  over-placed : (why : Refusal) → packet_limit < length s → packet_outcome r ≡ refused why → why.place ≡ 0
  over-placed why over is =
      let same : refuse outside_sizes ≡ refused why = sym (stops.over-refused (edition_of named) ending s over) ∙ sym told.answer ∙ is in
      ap (λ (x : Refusal). x.place) (sym (refused-same same))

  -- refused for a reason exactly in its case, where the case is refused with it
  exactly : (n : Reason) → (Case named ending s n → FirstWrong (edition_of named) ending s n) → length s ≤ packet_limit
      → (refusal_in (packet_outcome r) ≡ some n) ↔ Case named ending s n
  exactly n back fits = (λ e. case-of named ending s n ((wrong-item n fits).0 e), λ c. (wrong-item n fits).1 (back c))

  -- not refused, or refused with 6: a packet, and what follows it
  followed : Bool → Type 0
  followed may = (rest : List ℕ) × PacketThen (edition_of named) s rest × (may_follow ending rest ≡ may)

  there : (rest : List ℕ) (t : PacketThen (edition_of named) s rest) (may : Bool) → may_follow ending rest ≡ may
      → may_follow ending (octets_from s t.place) ≡ may
  there rest t may e = ap (λ (l : List ℕ). may_follow ending l) (sym t.is) ∙ e

  not-refused : length s ≤ packet_limit → (refusal_in (packet_outcome r) ≡ none) ↔ followed true
  unfolding followed
  not-refused fits =
      let same = ap refusal_in told.answer in
      let t = passed-ended named ending s fits in (
        λ e.
            let w = t.0 (sym same ∙ e) in
            (octets_from s w.place, record { place = w.place; due = w.due; is = refl }, w.follows),
        λ w. same ∙ t.1 (record { place = w.1.place; due = w.1.due; follows = there w.0 w.1 true w.2 }),
      )

  left_over_lem : length s ≤ packet_limit → (refusal_in (packet_outcome r) ≡ some reason.left_over) ↔ followed false
  unfolding followed
  left_over_lem fits = (
    λ e.
        let l = case-of named ending s reason.left_over ((wrong-item reason.left_over fits).0 e) in
        (octets_from s l.place, record { place = l.place; due = l.due; is = refl }, l.left),
    λ w.
        let p = w.1.place in
        (wrong-item reason.left_over fits).1
        (record {
          item = end;
          place = p;
          due = w.1.due;
          wrong = wrong-end (edition_of named) ending s p (there w.0 w.1 false w.2);
        }),
  )

-- ---- two calls
stays : (named : Named) (ending : Ending) (s more : List ℕ) {r t : Result PacketRead Refusal} {n : Reason}
    → PacketTold (read_packet (edition_of named) ending s) r → PacketTold (read_packet (edition_of named) ending (s ++ more)) t
    → length (s ++ more) ≤ packet_limit → refusal_in (packet_outcome r) ≡ some n → n ≢ ends_early → refusal_in (packet_outcome t) ≡ some n
stays named ending s more {r} {t} {n} told longer fits e apart =
    let long = length-append s more in
    (wrong-item named ending (s ++ more) longer n fits).1
    (wrong-more (narrow named) ending s more n apart ((wrong-item named ending s told n (omega arith)).0 e))

never : (named : Named) (ending : Ending) (s more : List ℕ) {r t : Result PacketRead Refusal} {n : Reason}
    → PacketTold (read_packet (edition_of named) ending s) r → PacketTold (read_packet (edition_of named) ending (s ++ more)) t
    → refusal_in (packet_outcome r) ≡ some n → n ≢ ends_early → refusal_in (packet_outcome t) ≡ none → ⊥
never named ending s more told longer e apart reads =
    ⊎_elim (λ over. not-both reads (over-limit named ending (s ++ more) longer over))
    (λ fits. not-both reads (stays named ending s more told longer fits e apart))
    (below_or_not packet_limit (length (s ++ more)))

-- from one ending to the other
other_way : (named : Named) (one other : Ending) (s : List ℕ) {r t : Result PacketRead Refusal} {n : Reason}
    → PacketTold (read_packet (edition_of named) one s) r → PacketTold (read_packet (edition_of named) other s) t → n ≢ reason.left_over
    → refusal_in (packet_outcome r) ≡ some n → refusal_in (packet_outcome t) ≡ some n
other_way named one other s {r} {t} {n} told again apart e = by (below_or_not packet_limit (length s)) where
  same : (w : FirstWrong (edition_of named) one s n)
      → (w.item ≡ end) ⊎ (rows (edition_of named) one w.item s w.place ≡ rows (edition_of named) other w.item s w.place)
      → first (rows (edition_of named) other w.item s w.place) ≡ some n
  same w (inl is-end) =
      let at-end = ap (λ (i : Item). first (rows (edition_of named) one i s w.place)) (sym is-end) ∙ w.wrong in
      absurd (apart (sym (end-wrong (edition_of named) one s w.place n at-end).1))
  same w (inr alike) = ap first (sym alike) ∙ w.wrong

  by : (packet_limit < length s) ⊎ (length s ≤ packet_limit) → refusal_in (packet_outcome t) ≡ some n
  by (inl over) = over-limit named other s again over ∙ sym (over-limit named one s told over) ∙ e
  by (inr fits) =
      let w = (wrong-item named one s told n fits).0 e in
      (wrong-item named other s again n fits).1
      (record {
        item = w.item;
        place = w.place;
        due = w.due;
        wrong = same w (rows_alike (edition_of named) one other w.item s w.place);
      })

-- ---- as received, nothing follows
nothing_left : {edition : Edition} (s : List ℕ) (p : Place) → Due edition s p end → length (octets_from s p) ≡ 0 → Packet edition s
nothing_left {edition} s p due none-there =
    let inside = due-inside due in
    let edge = due-end due in
    subst (λ (q : Place). Due edition s q end) (omega (arith, length-drop (p / 8) s)) due

received : (named : Named) (s : List ℕ) {r : Result PacketRead Refusal} → PacketTold (read_packet (edition_of named) Whole s) r
    → length s ≤ packet_limit
    → (refusal_in (packet_outcome r) ≡ none) ↔ Packet (edition_of named) s
unfolding followed
received named s told fits = (
  λ e.
      let w = (not-refused named Whole s told fits).0 e in
      let p = w.1.place in
      nothing_left s p w.1.due (sym (ap length w.1.is) ∙ eqb-true (length w.0) 0 w.2),
  λ whole.
      let nothing : length (octets_from s (8 * length s)) ≡ 0 = omega (arith, length-drop (8 * length s / 8) s) in
      (not-refused named Whole s told fits).1
      (octets_from s (8 * length s), record { place = 8 * length s; due = whole; is = refl }, eq-eqb _ 0 nothing),
)

positive : (n : ℕ) → (n ≡ 0 → ⊥) → 1 ≤ n
positive zero apart = absurd (apart refl)
positive (suc n) apart = omega arith

module _ (octet : ℕ) (named : Named) (names : Names octet named) where
  read : (ending : Ending) (s : List ℕ) {r : Result PacketRead Refusal} → ReadBy octet ending s r
      → PacketTold (read_packet (edition_of named) ending s) r
  read ending s told = read_as octet named ending s names told

  in-case : (n : Reason) → ((ending : Ending) (s : List ℕ) → Case named ending s n → FirstWrong (edition_of named) ending s n)
      → (ending : Ending) (s : List ℕ) (r : Result PacketRead Refusal) → ReadBy octet ending s r → length s ≤ packet_limit
      → (refusal_in (packet_outcome r) ≡ some n) ↔ Case named ending s n
  in-case n back ending s r told = exactly named ending s (read ending s told) n (back ending s)

  pub packet-refusals : PacketRefusals octet named
  unfolding followed
  packet-refusals =
      record {
        over_limit = λ ending s told. over-limit named ending s (read ending s told);
        first_wrong = λ ending s n told fits. wrong-item named ending s (read ending s told) n fits;
        place = λ ending s {r} {why} {n} told fits is w. placed named ending s (read ending s told) n why fits is w;
        over_place = λ ending s {r} {why} told over is. over-placed named ending s (read ending s told) why over is;
        received = λ s told. received named s (read Whole s told);
        repaired = λ s told fits. not-refused named Repaired s (read Repaired s told) fits;
        left_over = λ s told fits.
            let t = left_over_lem named Whole s (read Whole s told) fits in (
              λ e. let w = t.0 e in (w.0, w.1, positive (length w.0) (eqb-false (length w.0) 0 w.2)),
              λ w. t.1 (w.0, w.1, ne_eqb (length w.0) 0 (λ same. omega (arith, w.2))),
            );
        left_over_repaired = λ s told fits. left_over_lem named Repaired s (read Repaired s told) fits;
        ends_early = in-case ends_early (of-early (narrow named));
        bad_form = in-case bad_form of-bad-count;
        outside_sizes = in-case outside_sizes of-sizes;
        spare_bit = in-case spare_bit of-spare;
        not_assigned = in-case not_assigned of-unassigned;
        wrong_data = in-case wrong_data of-data;
        never = λ ending s more told longer. never named ending s more (read ending s told) (read ending (s ++ more) longer);
        stays = λ ending s more told longer. stays named ending s more (read ending s told) (read ending (s ++ more) longer);
        either_way = λ s told again apart. (
          other_way named Whole Repaired s (read Whole s told) (read Repaired s again) apart,
          other_way named Repaired Whole s (read Repaired s again) (read Whole s told) apart,
        );
      }
