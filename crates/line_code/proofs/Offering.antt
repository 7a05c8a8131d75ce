-- A line that is offered, on plain values: its octets, the offer's answer, and the line for a refusal. Assumes nothing.
use Rattle.std.proofs.Common.{Result, Ok, Err}
use Prim.Native.Nat.{ℕ, ◌≤◌}
use mathlib.Core.Path.{◌≡◌, refl, sym, ap, ap₂, ◌∙◌}
use mathlib.Core.Bool.{not}
use mathlib.Core.List.{List, [], ◌∷◌, ◌++◌}
use lib.ListN.{length, take, drop, length-append}
use lib.Seq.{take-append_seam, length-take-le}
use lib.Dec.{ltb}
use native.Mathlib.Omega.{arith}
use borrow.Author.Tests.{ltb-false, le-leb}
use Rattle.length.specs.Refusals.{too_long, wrong_settings}
use Rattle.length.specs.Tables.{when}
use Rattle.length.specs.Answers.{Answer, done, refused, fitted, size_of, over, written_outcome, afterwards}
use Rattle.length.specs.Promise.{Puts}
use Rattle.length.specs.declared.Refusal.{Refusal}
use Rattle.length.proofs.Laws.{unless-past, unless-done}
use Rattle.datagram.specs.Sizes.{datagram_limit}
use Rattle.session.specs.View.{View}
use Rattle.session.specs.Offer.{offer}
use Rattle.session_held.specs.Table.{Lent, view_in}
use Rattle.session_held.specs.Laid.{InRanges}
use Rattle.session_offer.specs.Outcome.{offered_outcome, accepted_of}
use Rattle.session_offer.specs.Promise.{Offers}
use Rattle.line.specs.Hex.{line_limit, paired, line_rows, octets_in, line_octets}
use Rattle.line.specs.Lines.{refusal_line, offer_made, line_offered, offer_line}
use Rattle.line.specs.Promise.{Appends, Does}
use Rattle.line.proofs.Laws.{appends-none, length-octets_in}

-- ---- an offer's answer
offer-silent : (x : Answer View) (view : View) → done tt ≡ accepted_of x → (offer_made x view).text ≡ []
offer-silent (done after) view e = refl
offer-silent (refused r) view e = let z : ◌≡◌ {A = ℕ} 0 1 = cc in absurd (omega arith)

offer-refused : (x : Answer View) (view : View) {why : Refusal} {old : List ℕ} {at : ℕ} {new : List ℕ} {end : ℕ}
    → refused why ≡ accepted_of x
    → Appends (refusal_line why) old at new end → Appends (offer_made x view).text old at new end
offer-refused (done after) view e a = let z : ◌≡◌ {A = ℕ} 0 1 = cc in absurd (omega arith)
offer-refused (refused r) view {why} e a = let same : why ≡ r = cc in rw same at a

after-offer : (x : Answer View) (view : View) → afterwards x view ≡ (offer_made x view).after
after-offer (done after) view = refl
after-offer (refused r) view = refl

module _ {octets : List ℕ} {before session : Lent} {answer : Result (Unit {0}) Refusal} (made : Offers octets before session answer) where
  pub offer-taken : {old : List ℕ} {at : ℕ} → answer ≡ Ok tt → at ≤ length old
      → Does (offer_made (offer octets (view_in before)) (view_in before)) old at session at old
  offer-taken is inside =
      let x = offer octets (view_in before) in
      record {
        lent = rw (offer-silent x (view_in before) (sym (ap offered_outcome is) ∙ made.told)) (appends-none inside);
        state = made.state ∙ after-offer x (view_in before);
        within = made.within;
      }

  pub offer-not-taken : {why : Refusal} {old : List ℕ} {at : ℕ} {new : List ℕ} {end : ℕ} → answer ≡ Err why
      → Appends (refusal_line why) old at new end → Does (offer_made (offer octets (view_in before)) (view_in before)) old at session end new
  offer-not-taken is a =
      let x = offer octets (view_in before) in
      record {
        lent = offer-refused x (view_in before) (sym (ap offered_outcome is) ∙ made.told) a;
        state = made.state ∙ after-offer x (view_in before);
        within = made.within;
      }

-- ---- a line's octets
-- a line's octets are no more than a datagram may have
pub line-fits : (line octets : List ℕ) → line_octets line ≡ done octets → length octets ≤ datagram_limit
unfolding line_octets
line-fits line octets e =
    let short = unless-past (ltb line_limit (length line)) too_long (when (not (paired line)) wrong_settings ∷ []) (octets_in line) octets e in
    let same : octets ≡ octets_in line = unless-done (line_rows line) (octets_in line) octets e in
    omega (arith, ltb-false line_limit (length line) short.0, ap length same, length-octets_in line)

-- what hex_to_octets says of a line's octets, with room for a datagram
pub read-octets : (x : Answer (List ℕ)) (size : ℕ) (old new : List ℕ) → ((l : List ℕ) → x ≡ done l → length l ≤ length old)
    → done size ≡ size_of (fitted x old) → new ≡ over (fitted x old) old → (x ≡ done (take size new)) × (size ≤ length new)
read-octets (done l) size old new fits e lent =
    let room = le-leb (length l) (length old) (fits l refl) in
    let size_is : done size ≡ done (length l) = rw room at e in
    let same : size ≡ length l = cc in
    let all : new ≡ l ++ drop (length l) old = rw room at lent in
    let front : take size new ≡ l = ap₂ (λ (j : ℕ) (s : List ℕ). take j s) same all ∙ take-append_seam l (drop (length l) old) in
    (ap (λ (s : List ℕ). done s) (sym front), omega (arith, ap length all, length-append l (drop (length l) old)))
read-octets (refused r) size old new fits e lent = let z : ◌≡◌ {A = ℕ} 0 1 = cc in absurd (omega arith)

pub read-refused : (x : Answer (List ℕ)) (why : Refusal) (old : List ℕ) → ((l : List ℕ) → x ≡ done l → length l ≤ length old)
    → refused why ≡ size_of (fitted x old) → x ≡ refused why
read-refused (done l) why old fits e =
    let bad : refused why ≡ done (length l) = rw (le-leb (length l) (length old) (fits l refl)) at e in
    let z : ◌≡◌ {A = ℕ} 0 1 = cc in absurd (omega arith)
read-refused (refused r) why old fits e = cc

-- the lent work has room for any line's octets
fits : (line old : List ℕ) → datagram_limit ≤ length old → (l : List ℕ) → line_octets line ≡ done l → length l ≤ length old
fits line old work l e = omega (arith, line-fits line l e)

module _ (line : List ℕ) {old new : List ℕ} (work : datagram_limit ≤ length old) where
  module _ {r : Result ℕ Refusal} (p : Puts (line_octets line) old new r) where
    octets : {size : ℕ} → r ≡ Ok size → (line_octets line ≡ done (take size new)) × (size ≤ length new)
    octets {size} is =
        read-octets (line_octets line) size old new (fits line old work) (sym (ap written_outcome is) ∙ p.answer) p.lent

    pub line-inside : {size : ℕ} → r ≡ Ok size → size ≤ length new
    line-inside is = (octets is).1

    pub line-length : {size : ℕ} → r ≡ Ok size → size ≡ length (take size new)
    line-length {size} is = sym (length-take-le size new (line-inside is))

    pub line-offered : (view : View) {size : ℕ} {out : List ℕ} {at : ℕ} {session : Lent} {end : ℕ} {after : List ℕ}
        → r ≡ Ok size
        → Does (offer_made (offer (take size new) view) view) out at session end after → Does (offer_line line view) out at session end after
    unfolding offer_line line_offered
    line-offered view is d = rw (octets is).0 d

    pub line_refused : {why : Refusal} {out : List ℕ} {at : ℕ} {session : Lent} {end : ℕ} {after : List ℕ} → r ≡ Err why
        → InRanges session → Appends (refusal_line why) out at after end → Does (offer_line line (view_in session)) out at session end after
    unfolding offer_line line_offered
    line_refused {why} is w a =
        rw (read-refused (line_octets line) why old (fits line old work) (sym (ap written_outcome is) ∙ p.answer))
        (record { lent = a; state = refl; within = w })
