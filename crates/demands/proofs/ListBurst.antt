-- Demand 3, of views. A burst is mended, since no held message adds a number to the known ones. Assumes nothing.
use Prim.Native.Nat.{ℕ, ◌+◌, ◌-◌, ◌≤◌, ◌<◌}
use mathlib.Core.Path.{◌≡◌, sym, subst}
use mathlib.Core.Logic.{inl, inr, ⊎_elim}
use mathlib.Core.List.{List}
use mathlib.Core.Option.{none}
use lib.ListN.{length}
use native.Mathlib.Omega.{arith}
use Rattle.octets.proofs.Laws.{below_or_not}
use Rattle.session.specs.Cells.{Cell, kept_before, kept_ahead}
use Rattle.session.specs.Repair.{Message, first_usable}
use Rattle.session.specs.Held.{Held, held_at, held_messages}
use Rattle.session.specs.Reached.{Known, Closed}
use Rattle.session.specs.Claims.{SentBefore}
use Rattle.session.proofs.Laws.{known-not-unknown, usable-says, found-usable, found-or-none, messages_of-among, burst-mended}
use Rattle.session.specs.View.{View}
use Rattle.sender.specs.Sending.{history_kept}
use Rattle.sender.specs.Honest.{packet_at, HonestSender}
use Rattle.demands.specs.Demand3.Feeding.{place_of, sent_at}
use Rattle.demands.specs.Demand3.Demand3.{BurstBack}
use Rattle.demands.proofs.Sent.{packet_at-sent, packet-sized}
use Rattle.demands.proofs.Sound.{Marked, Sound, held-sound}
use Rattle.demands.proofs.FedViews.{FedView, none}
use Rattle.demands.proofs.Fed.{fed-sound}

-- ---- a burst
-- where the known numbers are closed, no message is usable
closed_none : (cells : List Cell) (messages : List Message) → Closed messages (Known cells) → first_usable cells messages ≡ none
closed_none cells messages closed =
    ⊎_elim
    (λ found.
    let got = found-usable cells messages found.0 found.1 in
    let says = usable-says cells found.0 got.1 in
    absurd
    (known-not-unknown cells _
    (closed found.0 _ got.0 says.length-one says.member says.others)
    says.unknown))
    (λ e. e)
    (found-or-none cells messages)

module _ {row datagrams : List (List ℕ)} (honest : HonestSender row datagrams) {view : View} (s : Sound row datagrams view) (d : ℕ)
    (low : d < kept_ahead) (m : Marked row datagrams view d) where
  -- an unknown number before the datagram is one that was sent
  sent-before : SentBefore (sent_at row view) view.cells (kept_before + d)
  sent-before p before u =
      ⊎_elim (λ blank. absurd (known-not-unknown view.cells p (s.blanks p blank) u))
      (λ past.
      let place : place_of view + p ≡ history_kept + (place_of view + p - history_kept) = omega arith in
      let least = (packet-sized honest (place_of view + p - history_kept) (omega (arith, m.sent))).0 in
      subst (λ (x : ℕ). 1 ≤ length (packet_at row x)) (sym place)
      (subst (λ (l : List ℕ). 1 ≤ length l) (sym (packet_at-sent row (place_of view + p - history_kept))) least))
      (below_or_not (place_of view + p) kept_before)

pub view-burst : {row datagrams : List (List ℕ)} → HonestSender row datagrams → {view : View} → FedView row datagrams view
    → BurstBack view
unfolding held_messages
view-burst {row} honest {view} f d low is a k few rest p inside =
    let s = fed-sound honest f in
    let h : Held = held_at view.held d in
    burst-mended (sent_at row view) view.cells (held_messages view.held) (kept_before + d) (held_at view.held d) a (held-sound s d low)
    (closed_none view.cells (held_messages view.held) s.closed)
    (λ message among. messages_of-among kept_before view.held d message (rw s.ranges.heard low) among)
    (sent-before honest s d low (s.marked d low is))
    (λ q reach u.
    ⊎_elim (λ under. absurd (known-not-unknown view.cells q (rest q reach (inl under)) u))
    (λ over-a.
    ⊎_elim (λ under. (over-a, omega arith)) (λ over-k. absurd (known-not-unknown view.cells q (rest q reach (inr over-k)) u))
    (below_or_not q (a + k)))
    (below_or_not q a))
    p
    inside
