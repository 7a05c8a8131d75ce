-- With k + 1 lost in a row something stays waiting: the first of them is no spare of the datagram that arrives, so that the base stays
-- unknown and nothing leaves. Assumes nothing.
use Prim.Native.Nat.{ℕ, ◌+◌, ◌%◌, ◌≤◌, ◌<◌}
use mathlib.Core.Path.{◌≡◌, refl, sym, ap, ap₂, subst, ◌∙◌}
use mathlib.Core.List.{List, [], ◌∷◌, ◌++◌, map, append_assoc, append-nil}
use lib.ListN.{length, get_or, take, replicate, length-append, length-replicate}
use lib.Seq.{take-append_seam, take-append-le, get_or-append_seam}
use native.Mathlib.Omega.{arith}
use Rattle.octets.specs.Place.{tab}
use Rattle.octets.proofs.Laws.{length-tab}
use Rattle.session.specs.Cells.{unknown_at, kept_before, kept_ahead}
use Rattle.session.specs.Reached.{Known, Unknown}
use Rattle.session.specs.View.{View, numbers}
use Rattle.session_held.specs.Table.{view_of}
use Rattle.session_held.specs.declared.Session.{Session}
use Rattle.session_calls.specs.Receiver.{SeenAs, OfferOwes}
use Rattle.session_calls.specs.declared.Returned.{Returned}
use Rattle.sender.proofs.Laws.{run_holds}
use Rattle.sender_to_modem.specs.Marks.{Mark, arrives, lost}
use Rattle.sender_to_modem.specs.Transfer.{Delivered, Drained, Transfer, begins, refuses, loses, brings}
use Rattle.sender_to_modem.specs.Sharp.{one_more, one_too_many, StaysWaiting, Sharp, LastMatters}
use Rattle.sender_to_modem.proofs.Lines.{pending, pending-after, pending-lost, Steady, steady, steady-after}
use Rattle.sender_to_modem.proofs.Offered.{first-missed, come-known}
use Rattle.sender_to_modem.proofs.Draining.{drained-none}
use Rattle.sender_to_modem.proofs.Copies.{copies_of, copies-long, sender-run, SentAs, sent-as}
use Rattle.sender_to_modem.proofs.Modem.{wanted, wanted-front}
use Rattle.sender_to_modem.proofs.Standing.{Stands, row_is, copies-few, after_offer, offer-accepted}
use Rattle.sender_to_modem.proofs.Sold.{holds}

-- ---- the last of a list
module _ {A : Type 0} (a b : List A) (x y : A) (e : a ++ (x ∷ []) ≡ b ++ (y ∷ [])) where
  as_long : length a ≡ length b
  as_long = omega (arith, ap length e, length-append a (x ∷ []), length-append b (y ∷ []))

  same-front : a ≡ b
  same-front =
      sym (take-append_seam a (x ∷ []))
      ∙ ap₂ (λ (n : ℕ) (l : List A). take n l) as_long e
      ∙ take-append_seam b (y ∷ [])

  same-last : x ≡ y
  same-last =
      sym (get_or-append_seam a x [] x)
      ∙ ap₂ (λ (n : ℕ) (l : List A). get_or l n x) as_long e
      ∙ get_or-append_seam b y [] x

-- a line with one too many, before its last
short-line : (k : ℕ) (before : List Mark) → one_too_many k before ≡ (before ++ replicate (one_more k) lost) ++ (arrives ∷ [])
short-line k before = sym (append_assoc before (replicate (one_more k) lost) (arrives ∷ []))

not-empty : (l : List Mark) → [] ≡ l ++ (arrives ∷ []) → ⊥
not-empty l e = omega (arith, ap length e, length-append l (arrives ∷ []))

not-lost : lost ≡ arrives → ⊥
not-lost e = let z : ◌≡◌ {A = ℕ} 0 1 = cc in omega arith

-- ---- the datagram that arrives after k + 1 were lost
module _ {line : List Mark} {packets : List (List ℕ)} {t : Session} {modem : List Delivered} (stands : Stands line packets t modem)
    {k : ℕ} {packet octets : List ℕ} (wrote : SentAs k packets packet octets) {o : Returned (Unit {0})} (owes : OfferOwes t octets o)
    (many : pending line ≡ one_more k) where
  near : pending line < kept_ahead
  near = omega (arith, wrote.few)

  seen : SeenAs (after_offer stands wrote owes near) o.session
  seen = (offer-accepted stands wrote owes near).1

  base-unknown : Unknown (view_of o.session).cells kept_before
  base-unknown =
      ap (λ (v : View). unknown_at v.cells kept_before) seen.view
      ∙ first-missed stands.within.sound stands.ready near packet (copies_of k packets) (copies-few stands wrote owes near) _
      (omega (arith, copies-long k packets))

  others-known : (d : ℕ) → 1 ≤ d → d ≤ k + 1 → Known (view_of o.session).cells (kept_before + d)
  others-known d least most =
      ap (λ (v : View). unknown_at v.cells (kept_before + d)) seen.view
      ∙ come-known stands.within.sound stands.ready near packet (copies_of k packets) (copies-few stands wrote owes near) _ d
      (omega arith)
      (omega (arith, copies-long k packets, row_is stands wrote owes))

  stays : {more : List Delivered} {u : Session} → Drained o.session more u → (before : ℕ) → stands.left ≡ before → {x : Transfer}
      → x.packets ≡ packets ++ (packet ∷ []) → x.modem ≡ modem ++ more → x.receiver ≡ u
      → StaysWaiting k before x
  stays {more} {u} drained before left {x} row has is =
      let none = drained-none seen.within base-unknown drained in
      let same : x.receiver ≡ o.session = is ∙ none.1 in
      let octets-of : List Delivered → List (List ℕ) = map (λ (d : Delivered). d.octets) in
      let fits : before ≤ length packets = omega (arith, row_is stands wrote owes) in
      record {
        released =
            ap octets-of (has ∙ ap (λ (l : List Delivered). modem ++ l) none.0 ∙ append-nil modem ∙ stands.modem_has)
            ∙ ap (λ (n : ℕ). octets-of (tab n (wanted line packets))) left
            ∙ wanted-front line packets before fits
            ∙ sym (take-append-le before packets (packet ∷ []) fits)
            ∙ ap (take before) (sym row);
        base =
            ap (λ (z : Session). (view_of z).base) same
            ∙ ap (λ (v : View). v.base) seen.view
            ∙ stands.ready.base
            ∙ ap (λ (n : ℕ). n % numbers) left;
        unknown = ap (λ (z : Session). unknown_at (view_of z).cells kept_before) same ∙ base-unknown;
        waiting = λ d least most.
            ap (λ (z : Session). unknown_at (view_of z).cells (kept_before + d)) same ∙ others-known d least most;
      }

pub sharp : Sharp
sharp k x (begins made fresh) before e few begin = absurd (not-empty (before ++ replicate (one_more k) lost) (e ∙ short-line k before))
sharp k x (refuses {x = y} ran sends refused) before e few begin =
    let rest = sharp k y ran before e few begin in
    record { released = rest.released; base = rest.base; unknown = rest.unknown; waiting = rest.waiting }
sharp k x (loses {x = y} ran sends sent) before e few begin =
    absurd (not-lost (same-last y.line (before ++ replicate (one_more k) lost) lost arrives (e ∙ short-line k before)))
sharp k x (brings {x = y} ran sends sent owes drained) before e few begin =
    let burst = before ++ replicate (one_more k) lost in
    let line : y.line ≡ burst = same-front y.line burst arrives arrives (e ∙ short-line k before) in
    let good : Steady k y.line = subst (Steady k) (sym line) (steady-after k before (one_more k) (steady k before few)) in
    let stands = (holds ran good).stands in
    let wrote = sent-as (run_holds (sender-run ran).1) sends sent in
    let many : pending y.line ≡ one_more k = ap pending line ∙ pending-after before (one_more k) begin in
    let long = ap length line ∙ length-append before (replicate (one_more k) lost) in
    let left : stands.left ≡ length before =
    omega (arith, stands.marks, long, many, length-replicate (one_more k) lost) in
    stays stands wrote owes many drained (length before) left refl refl refl

-- ---- the last one lost
pub last-matters : LastMatters
last-matters k x ran few before e =
    let stands = (holds ran (steady k x.line few)).stands in
    let some : pending x.line ≡ pending before + 1 = ap pending e ∙ pending-lost before in
    let has : length x.modem ≡ stands.left =
    ap length stands.modem_has ∙ length-tab stands.left (wanted x.line x.packets) in
    omega (arith, stands.marks, stands.sent, some, has)
