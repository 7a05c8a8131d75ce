-- The offer's answers, on plain values: one law for each. The tests that led to an answer are those of `offered` in `session`. Assumes
-- nothing.
use Rattle.std.proofs.Common.{◌≡◌, ℕ, ◌+◌, ◌%◌, ◌<◌, ◌≤◌, Bool, true, false, eqb, List, length, sym, refl, ap, ◌∙◌, arith, length-take, le-ltb, lt-ltb, Result, Ok, Err}
use Rattle.length.specs.Refusals.{repeated, too_far, late}
use Rattle.length.specs.Answers.{done, refused, refuse}
use Rattle.length.specs.declared.Refusal.{Refusal}
use Rattle.length.specs.declared.Reason.{Reason}
use Rattle.datagram.specs.Carried.{Carried}
use Rattle.datagram.specs.Claims.{Inside}
use Rattle.datagram.specs.Promise.{DatagramReads}
use Rattle.datagram.specs.Read.{carried_by}
use Rattle.datagram.proofs.Laws.{refused-read, accepted-read, accepted-count, accepted-inside}
use Rattle.datagram.specs.declared.reader.Part.{Part}
use Rattle.datagram.specs.declared.reader.DatagramRead.{DatagramRead}
use Rattle.datagram.specs.declared.kind.Kind.{Kind}
use Rattle.session.specs.Cells.{kept_ahead}
use Rattle.session.specs.Held.{Held, held_at}
use Rattle.session.specs.View.{distance, numbers}
use Rattle.session.specs.Offer as offers
use Rattle.session_held.specs.Slots.{slots_heard, heard_slot_at}
use Rattle.session_held.specs.Table.{Lent, lent, mark_in, held_in, held_of, view_in}
use Rattle.session_held.specs.Laid.{InRanges}
use Rattle.session_held.specs.declared.Counts.{Counts}
use Rattle.session_held.proofs.Laws.{held-at}
use Rattle.session_offer.specs.Outcome.{refused_as}
use Rattle.session_offer.specs.Steps.{carried_items, MayBeAccepted, AcceptedAt, OffersRead}
use Rattle.session_offer.specs.Promise.{Offers}

-- ---- a refusal: the very session before
refused-read-so : {datagram : Carried} {l : Lent} {why : Reason} {r : Result (Unit {0}) Refusal} → InRanges l
    → offers.offered datagram (view_in l) ≡ refuse why → r ≡ refused_as why → OffersRead datagram l l r
refused-read-so w e is = rw is (record { told = rw e; state = rw e; within = w; stays = λ x same. refl })

done_refused : {A : Type 0} {a : A} {x : Refusal} → done a ≡ refused x → ⊥
done_refused e = let z : ◌≡◌ {A = ℕ} 0 1 = cc in omega arith

-- ---- a datagram that was read: d is its distance from the base
carried-number : (s : List ℕ) (number : ℕ) (packet : Part) (k : Kind) (count : ℕ) (items : List Part)
    → (carried_items s number packet k count items).number ≡ number
unfolding carried_by
carried-number s number packet k count items = refl

module _ {base : ℕ} {c : Counts} {t o g : List ℕ} (w : InRanges (lent base c t o g)) (s : List ℕ) {number : ℕ} (packet : Part) (k : Kind)
    (count : ℕ) (items : List Part) (small : number < numbers) {d : ℕ} (near : d < numbers) (e-d : (d + base) % numbers ≡ number) where
  base-small : base < numbers
  unfolding view_in
  base-small = w.sound.small

  d-is : distance base (carried_items s number packet k count items).number ≡ d
  d-is = omega (arith, base-small, carried-number s number packet k count items)

  offered-far : kept_ahead ≤ d → d < offers.late_from
      → offers.offered (carried_items s number packet k count items) (view_in (lent base c t o g)) ≡ refuse too_far
  unfolding offers.offered view_in
  offered-far far low = rw (d-is, le-ltb d kept_ahead far, lt-ltb d offers.late_from low)

  offered-late : kept_ahead ≤ d → offers.late_from ≤ d
      → offers.offered (carried_items s number packet k count items) (view_in (lent base c t o g)) ≡ refuse late
  unfolding offers.offered view_in
  offered-late far past = rw (d-is, le-ltb d kept_ahead far, le-ltb d offers.late_from past)

  offered-again : d < kept_ahead → (held_at (held_of base t g) d).accepted ≡ true
      → offers.offered (carried_items s number packet k count items) (view_in (lent base c t o g)) ≡ refuse repeated
  unfolding offers.offered view_in
  offered-again low again = rw (d-is, lt-ltb d kept_ahead low, again)

  offered-new : d < kept_ahead → (held_at (held_of base t g) d).accepted ≡ false
      → offers.offered (carried_items s number packet k count items) (view_in (lent base c t o g))
      ≡ done (offers.accept d (carried_items s number packet k count items) (view_in (lent base c t o g)))
  unfolding offers.offered view_in
  offered-new low new = rw (d-is, lt-ltb d kept_ahead low, new)

  pub made-far : {r : Result (Unit {0}) Refusal} → kept_ahead ≤ d → d < offers.late_from → r ≡ refused_as too_far
      → OffersRead (carried_items s number packet k count items) (lent base c t o g) (lent base c t o g) r
  made-far far low is = refused-read-so w (offered-far far low) is

  pub made-late : {r : Result (Unit {0}) Refusal} → kept_ahead ≤ d → offers.late_from ≤ d → r ≡ refused_as late
      → OffersRead (carried_items s number packet k count items) (lent base c t o g) (lent base c t o g) r
  made-late far past is = refused-read-so w (offered-late far past) is

  -- ---- near: the mark is read in the number's slot
  module _ (low : d < kept_ahead) {slot : ℕ} (e-slot : slot ≡ number % slots_heard) {again : Bool} (e-again : again ≡ eqb (mark_in t slot) 1)
    where
      mark-is : (held_at (held_of base t g) d).accepted ≡ again
      unfolding held_in
      mark-is =
          let same : heard_slot_at base d ≡ slot = omega arith in
          ap (λ (x : Held). x.accepted) (held-at base t g d low) ∙ ap (λ (j : ℕ). eqb (mark_in t j) 1) same ∙ sym e-again

      pub made_again : {r : Result (Unit {0}) Refusal} → again ≡ true → r ≡ refused_as repeated
          → OffersRead (carried_items s number packet k count items) (lent base c t o g) (lent base c t o g) r
      made_again so is = refused-read-so w (offered-again low (mark-is ∙ so)) is

      -- what accept requires
      pub may-accept : again ≡ false → Inside s packet k count items → count ≤ length items
          → MayBeAccepted (lent base c t o g) s number d packet k count items
      may-accept new inside there =
          record { near = low; place = omega (arith, base-small); unmarked = mark-is ∙ new; inside = inside; there = there }

      pub made-accepted : {t₁ o₁ g₁ : List ℕ} → again ≡ false
          → AcceptedAt (carried_items s number packet k count items) d (lent base c t o g) (lent base c t₁ o₁ g₁)
          → OffersRead (carried_items s number packet k count items) (lent base c t o g) (lent base c t₁ o₁ g₁) (Ok tt)
      made-accepted new a =
          let e = offered-new low (mark-is ∙ new) in
          record { told = rw e; state = rw e a.state; within = a.within; stays = λ x is. absurd (done_refused (sym e ∙ is)) }

-- ---- the whole offer
module _ {s : List ℕ} {found : Result DatagramRead Refusal} (reads : DatagramReads s found) where
  pub offer-refused : {l : Lent} {why : Refusal} → InRanges l → found ≡ Err why → Offers s l l (Err why)
  unfolding offers.offer
  offer-refused {l} {why} w is =
      let e : offers.offer s (view_in l) ≡ refused why = rw (refused-read reads is) in
      record { told = rw e; state = rw e; within = w; stays = λ x same. refl }

  module _ {read : DatagramRead} (is : found ≡ Ok read) where
    pub offer-inside : Inside s read.packet read.kind read.count read.items
    offer-inside = accepted-inside reads is

    pub offer-there : read.count ≤ length read.items
    offer-there = omega (arith, accepted-count reads is, length-take read.count read.items)

    pub offer-taken : {l after : Lent} {r : Result (Unit {0}) Refusal} → OffersRead (carried_items s read.number read.packet read.kind read.count read.items) l after r
        → Offers s l after r
    unfolding offers.offer
    offer-taken {l} {after} {r} m =
        let e : offers.offer s (view_in l) ≡ offers.offered (carried_items s read.number read.packet read.kind read.count read.items) (view_in l) =
        rw (accepted-read reads is) in
        record {
          told = rw e m.told;
          state = rw e m.state;
          within = m.within;
          stays = λ x same. m.stays x (sym e ∙ same);
        }
