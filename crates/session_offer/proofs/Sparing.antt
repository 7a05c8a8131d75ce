-- Spares kept one after the other: at each turn what is left to keep, kept in what is there now, gives the whole. Assumes nothing.
use Rattle.std.proofs.Common.{◌≡◌, ℕ, ◌+◌, ◌-◌, ◌%◌, ◌<◌, ◌≤◌, List, [], ◌∷◌, map, length, get_or, take, drop, sym, refl, ap, ◌∙◌, ap₂, add-one, arith, drop_of_length-le, length-take, length-take-le, drop-cons, get_or-take}
use Rattle.datagram.specs.Sizes.{packet_least, packet_limit}
use Rattle.datagram.specs.Claims.{PartInside}
use Rattle.datagram.specs.Promise.{nowhere}
use Rattle.datagram.specs.Read.{octets_of}
use Rattle.datagram.specs.declared.reader.Part.{Part}
use Rattle.session.specs.Cells.{Cell, spare, kept_numbers}
use Rattle.session.specs.View.{numbers, number_at}
use Rattle.session.specs.Offer as offers
use Rattle.session_held.specs.Slots.{kept_octets}
use Rattle.session_held.specs.Table.{lent, places, cells_of, held_of}
use Rattle.session_held.specs.Laid.{InRanges}
use Rattle.session_held.specs.declared.Counts.{Counts}
use Rattle.session_offer.specs.KeepSteps.{part_at}
use Rattle.session_offer.specs.KeepPromise.{MayKeep, Keeps, CarriesSpares, KeepsSpares}
use Rattle.session_offer.proofs.Keeping.{spare-number}

-- ---- one spare more to keep
keep_spares-cons : (S p : ℕ) (x : List ℕ) (xs : List (List ℕ)) (cells : List Cell)
    → offers.keep_spares S p (x ∷ xs) cells ≡ offers.keep_spares S (p - 1) xs (offers.keep S spare (p - 1) x cells)
unfolding offers.keep_spares
keep_spares-cons S p x xs cells = refl

spares-step : (S : ℕ) (s : List ℕ) (items : List Part) (count p j : ℕ) (cells : List Cell) → count ≤ length items → j < count → count ≤ p
    → offers.keep_spares S (p - j) (map (octets_of s) (drop j (take count items))) cells
    ≡ offers.keep_spares S (p - (j + 1)) (map (octets_of s) (drop (j + 1) (take count items)))
    (offers.keep S spare (p - (j + 1)) (octets_of s (part_at items j)) cells)
spares-step S s items count p j cells fits more low =
    let long : length (take count items) ≡ count = length-take-le count items fits in
    let part : get_or (take count items) j nowhere ≡ part_at items j = get_or-take count items j nowhere more in
    let back : (p - j) - 1 ≡ p - (j + 1) = omega arith in
    let parted : drop j (take count items) ≡ part_at items j ∷ drop (j + 1) (take count items) =
    drop-cons (take count items) j nowhere (rw long more)
    ∙ ap₂ (λ (x : Part) (k : ℕ). x ∷ drop k (take count items)) part (sym (add-one j)) in
    ap (λ (l : List Part). offers.keep_spares S (p - j) (map (octets_of s) l) cells) parted
    ∙ keep_spares-cons S (p - j) (octets_of s (part_at items j)) (map (octets_of s) (drop (j + 1) (take count items))) cells
    ∙ ap (λ (k : ℕ). offers.keep_spares S k (map (octets_of s) (drop (j + 1) (take count items)))
    (offers.keep S spare k (octets_of s (part_at items j)) cells)) back

-- ---- the loop
pub record SparesNow (S : ℕ) (s : List ℕ) (items : List Part) (count base : ℕ) (c : Counts) (g : List ℕ) (p : ℕ)
    (t o new store : List ℕ) (at j : ℕ) : Type 0 where
  pub number : at ≡ number_at base (p - j)
  pub left : offers.keep_spares S (p - j) (map (octets_of s) (drop j (take count items))) (cells_of base new store)
      ≡ offers.keep_spares S p (map (octets_of s) (take count items)) (cells_of base t o)
  pub held : held_of base new g ≡ held_of base t g
  pub within : InRanges (lent base c new store g)

pub record Sparing (number : ℕ) (s : List ℕ) (items : List Part) (count : ℕ) (t o new store : List ℕ) (at j : ℕ) : Type 0 where
  pub few : j ≤ count
  pub long : length new ≡ places
  pub octets : length store ≡ kept_octets
  pub now : (base : ℕ) (c : Counts) (g : List ℕ) (p : ℕ) → InRanges (lent base c t o g) → p < kept_numbers → count ≤ p
      → number ≡ number_at base p → SparesNow number s items count base c g p t o new store at j

pub sparing-start : (number : ℕ) (s : List ℕ) (items : List Part) (count : ℕ) (t o : List ℕ) → length t ≡ places → length o ≡ kept_octets
    → Sparing number s items count t o t o number 0
sparing-start number s items count t o long octets =
    record {
      few = omega arith;
      long = long;
      octets = octets;
      now = λ base c g p w there low e.
          let none : p - 0 ≡ p = omega arith in
          record { number = rw none e; left = rw none; held = refl; within = w };
    }

module _ {number : ℕ} {s : List ℕ} {items : List Part} {count : ℕ} {t o new store : List ℕ} {at j : ℕ}
    (l : Sparing number s items count t o new store at j) where
  pub sparing-long : length new ≡ places
  sparing-long = l.long

  pub sparing-octets : length store ≡ kept_octets
  sparing-octets = l.octets

  pub sparing-part : CarriesSpares s items count → j < count → PartInside packet_least packet_limit s (part_at items j)
  sparing-part carries more = carries.each j more

  pub sparing-may : {before : ℕ} → MayKeep number count t o → j < count → before ≡ (at + 65535) % numbers → MayKeep before 0 new store
  sparing-may {before} may more e-before =
      let n =
      l.now may.base may.counts may.messages may.place may.within may.there may.low may.stands in
      let at-is = n.number in
      let low = may.low in
      let there = may.there in
      record {
        base = may.base;
        counts = may.counts;
        messages = may.messages;
        place = may.place - (j + 1);
        within = n.within;
        there = omega arith;
        low = omega arith;
        stands = omega arith;
      }

  pub sparing-turn : {before : ℕ} {new_t new_o : List ℕ} → CarriesSpares s items count → j < count
      → before ≡ (at + 65535) % numbers → Keeps number 2 before (octets_of s (part_at items j)) new store new_t new_o → length new_t ≡ length new
      → length new_o ≡ length store → Sparing number s items count t o new_t new_o before (j + 1)
  sparing-turn {before} {new_t} {new_o} carries more e-before k same-t same-o =
      record {
        few = omega arith;
        long = same-t ∙ l.long;
        octets = same-o ∙ l.octets;
        now = λ base c g p w there low e.
            let n = l.now base c g p w there low e in
            let at-is = n.number in
            let here : before ≡ number_at base (p - (j + 1)) = omega arith in
            let kept = k.kept base c g (p - (j + 1)) n.within (omega arith) here in
            record {
              number = here;
              left =
                  ap (offers.keep_spares number (p - (j + 1)) (map (octets_of s) (drop (j + 1) (take count items))))
                  (rw spare-number at kept.cells)
                  ∙ sym (spares-step number s items count p j (cells_of base new store) carries.there more low)
                  ∙ n.left;
              held = kept.held ∙ n.held;
              within = kept.within;
            };
      }

  pub sparing-done : count ≤ j → KeepsSpares number s items count t o new store
  unfolding offers.keep_spares
  sparing-done all =
      record {
        kept = λ base c g p w there low e.
            let n = l.now base c g p w there low e in
            let none : drop j (take count items) ≡ [] =
            drop_of_length-le (take count items) {i = j} (omega (arith, length-take count items)) in
            record { cells = rw none at n.left; held = n.held; within = n.within };
      }
