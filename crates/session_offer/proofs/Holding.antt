-- The number that was marked and whose messages were laid, in the words of the code: what the laws of the table say of it is what
-- hold owes. Assumes nothing.
use Rattle.std.proofs.Common.{◌≡◌, ℕ, ◌+◌, ◌%◌, ◌<◌, ◌≤◌, true, List, length, set, ap, ◌∙◌, ⊎_elim, arith, eq-eqb, ne_eqb, le-leb}
use Rattle.octets.proofs.Laws.{and_both, tab-take}
use Rattle.datagram.specs.Sizes.{message_limit, covered_limit, messages_limit}
use Rattle.datagram.specs.Read.{octets_of}
use Rattle.datagram.specs.Promise.{nowhere}
use Rattle.datagram.specs.declared.reader.Part.{Part}
use Rattle.session.specs.View.{numbers}
use Rattle.session.specs.Ranges.{mark_right}
use Rattle.session_held.specs.Slots.{heard_slot_at, slots_heard, message_octets}
use Rattle.session_held.specs.Table.{places, held_of, heard_set}
use Rattle.session_held.proofs.Laws.{heard-small, heard-cells, heard-held, heard-ranges}
use Rattle.session_offer.specs.KeepSteps.{part_octets, Fit, ItemsLaid}
use Rattle.session_offer.specs.KeepPromise.{Settings, CarriesMessages, MayHold, Holds}
use Rattle.session_offer.proofs.Laying.{length-octets}

-- ---- the settings
settings-few : {n m : ℕ} → Settings n m → (n ≤ covered_limit) × (m ≤ messages_limit)
settings-few {n} {m} settings =
    ⊎_elim (λ none. (omega (arith, none.1), omega (arith, none.0))) (λ sizes. (sizes.covered, sizes.messages)) settings

settings-right : (n m : ℕ) → Settings n m → mark_right true true n m ≡ true
unfolding mark_right
settings-right n m settings =
    ⊎_elim (λ none. rw (eq-eqb m 0 none.0) (eq-eqb n 0 none.1))
    (λ sizes.
    rw (ne_eqb m 0 (λ none. omega (arith, sizes.some)))
    (and_both (and_both (le-leb 1 n sizes.least) (le-leb n covered_limit sizes.covered)) (le-leb m messages_limit sizes.messages)))
    settings

module _ {s : List ℕ} {d n : ℕ} {items : List Part} {count : ℕ} (c : CarriesMessages s d n items count) where
  pub carried-fit : Fit s items count
  carried-fit = record { few = (settings-few c.settings).1; each = c.each }

  pub covered-small : n < 65536
  covered-small = omega (arith, (settings-few c.settings).0)

-- ---- the lengths
module _ {base : ℕ} {t g : List ℕ} {d : ℕ} (may : MayHold base t g d) where
  pub may-long : length t ≡ places
  may-long = may.unmarked.within.laid.long

  pub may-octets : length g ≡ message_octets
  may-octets = may.unmarked.within.laid.messages

-- ---- what hold owes
pub number-held : {base d : ℕ} {s : List ℕ} {n : ℕ} {items : List Part} {count number slot : ℕ} {t g marked new_t new_g : List ℕ}
    → CarriesMessages s d n items count → number ≡ (base + d) % numbers → slot ≡ number % slots_heard → marked ≡ heard_set t slot 1 n count
    → ItemsLaid s slot items count marked g new_t new_g → Holds base d s n items count t g new_t new_g
number-held {base} {d} {s} {n} {items} {count} {number} {slot} {t} {g} {marked} {new_t} {new_g} carries e-number e-slot e-marked l =
    let at : slot ≡ heard_slot_at base d = omega arith in
    let small : slot < slots_heard = rw at (heard-small base d) in
    let few = (settings-few carries.settings).1 in
    let fits : (i : ℕ) → i < count → length (part_octets s items i) ≤ message_limit =
    λ i below. omega (arith, length-octets (carries.each i below), (carries.each i below).high) in
    let sizes = rw e-marked at l.sizes in
    record {
      holds = λ c o u.
          record {
            held =
                heard-held u.within.laid n small few sizes l.octets base d carries.near at
                ∙ ap (λ (messages : List (List ℕ)). set (held_of base t g) d (record { accepted = true; n = n; messages = messages }))
                (tab-take (octets_of s) items nowhere count carries.there);
            cells = heard-cells u.within.laid n small few sizes l.octets base;
            within =
                heard-ranges u.within carries.near u.known u.unmarked n (settings-right n count carries.settings) fits at
                sizes l.octets;
          };
    }
