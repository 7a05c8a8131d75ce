-- Where a transfer stands at each step, if never more than k were lost before an arrival: all up to the last arrival is with the modem, and
-- nothing else is known. A lost datagram leaves it so; one that arrives brings those that were lost before it. Assumes nothing.
use Rattle.std.proofs.Common.{Ok}
use Prim.Native.Nat.{ℕ, ◌+◌, ◌%◌, ◌≤◌, ◌<◌}
use mathlib.Core.Path.{◌≡◌, sym, ap, subst, ◌∙◌}
use mathlib.Core.Logic.{⊎_elim}
use mathlib.Core.List.{List, [], ◌∷◌, ◌++◌}
use lib.ListN.{length, get_or, length-append, get_or-append}
use lib.Seq.{get_or-append_seam}
use native.Mathlib.Omega.{arith}
use Rattle.octets.specs.Place.{tab}
use Rattle.octets.proofs.Laws.{same_or_not, tab-ext}
use Rattle.datagram.specs.Claims.{ReadsAs}
use Rattle.session.specs.Cells.{received, spare, kept_before, kept_ahead}
use Rattle.session.specs.View.{View, numbers}
use Rattle.session_held.specs.Table.{lent_by, view_of}
use Rattle.session_held.specs.Laid.{InRanges}
use Rattle.session_held.specs.declared.Session.{Session}
use Rattle.session_calls.specs.Receiver.{SeenAs, OfferOwes}
use Rattle.session_calls.specs.declared.Returned.{Returned}
use Rattle.session_calls.proofs.Laws.{offer-done}
use Rattle.sender_to_modem.specs.Marks.{Mark, arrives, lost, how_many_arrive, how_many_lost}
use Rattle.sender_to_modem.specs.Transfer.{Delivered}
use Rattle.sender_to_modem.proofs.Lines.{arrive_same, lost-more, pending, pending-lost}
use Rattle.sender_to_modem.proofs.Ready.{Ready}
use Rattle.sender_to_modem.proofs.Offered.{spares_at, view_with, offer-is}
use Rattle.sender_to_modem.proofs.Copies.{copies_of, copies-long, SentAs}
use Rattle.sender_to_modem.proofs.Modem.{wanted, wanted-more}

-- the receiver and the modem
pub record Stands (line : List Mark) (packets : List (List ℕ)) (t : Session) (modem : List Delivered) : Type 0 where
  pub within : InRanges (lent_by t)
  -- so many have left, so many of them from spares
  pub left : ℕ
  pub filled : ℕ
  pub ready : Ready left 0 (view_of t)
  pub counts : (view_of t).counts ≡ record { received = how_many_arrive line; spare = filled; repaired = 0; lost = 0 }
  pub modem_has : modem ≡ tab left (wanted line packets)
  -- the others were lost since
  pub marks : left + pending line ≡ length line
  pub sent : length packets ≡ length line
  pub losses : filled + pending line ≡ how_many_lost line
  pub since : (j : ℕ) → left ≤ j → j < length line → get_or line j arrives ≡ lost

-- ---- one datagram more
module _ {line : List Mark} {packets : List (List ℕ)} {t : Session} {modem : List Delivered} (stands : Stands line packets t modem)
    (m : Mark) (packet : List ℕ) where
  pub longer-line : length (line ++ (m ∷ [])) ≡ length line + 1
  longer-line = length-append line (m ∷ [])

  pub longer-row : length (packets ++ (packet ∷ [])) ≡ length packets + 1
  longer-row = length-append packets (packet ∷ [])

  -- what the modem had it still has
  pub modem-before : modem ≡ tab stands.left (wanted (line ++ (m ∷ [])) (packets ++ (packet ∷ [])))
  modem-before =
      let marks = stands.marks in
      let sent = stands.sent in
      stands.modem_has
      ∙ tab-ext stands.left (wanted line packets) (wanted (line ++ (m ∷ [])) (packets ++ (packet ∷ [])))
      (λ j low. wanted-more line m packets packet j (omega arith) (omega arith))

-- ---- a lost one
pub stands-lost : {line : List Mark} {packets : List (List ℕ)} {t : Session} {modem : List Delivered} → Stands line packets t modem
    → (packet : List ℕ)
    → Stands (line ++ (lost ∷ [])) (packets ++ (packet ∷ [])) t modem
stands-lost {line} {packets} {t} {modem} stands packet =
    let marks = stands.marks in
    let longer = longer-line stands lost packet in
    record {
      within = stands.within;
      left = stands.left;
      filled = stands.filled;
      ready = stands.ready;
      counts =
          stands.counts
          ∙ ap (λ (n : ℕ). record { received = n; spare = stands.filled; repaired = 0; lost = 0 }) (sym (arrive_same line));
      modem_has = modem-before stands lost packet;
      marks = omega (arith, pending-lost line);
      sent = omega (arith, longer-row stands lost packet, stands.sent);
      losses = omega (arith, pending-lost line, lost-more line, stands.losses);
      since = λ j high low.
          ⊎_elim
          (λ (e : j ≡ length line). ap (λ (i : ℕ). get_or (line ++ (lost ∷ [])) i arrives) e ∙ get_or-append_seam line lost [] arrives)
          (λ other.
          let before : j < length line = omega arith in
          get_or-append line (lost ∷ []) arrives j before ∙ stands.since j high before)
          (same_or_not j (length line));
    }

-- ---- one that arrives, with as many lost before it as it has spares, or fewer
module _ {line : List Mark} {packets : List (List ℕ)} {t : Session} {modem : List Delivered} (stands : Stands line packets t modem)
    {k : ℕ} {packet octets : List ℕ} (wrote : SentAs k packets packet octets) {o : Returned (Unit {0})} (owes : OfferOwes t octets o) where
  pub row_is : length packets ≡ stands.left + pending line
  row_is = let marks = stands.marks in let sent = stands.sent in omega arith

  module _ (near : pending line < kept_ahead) where
    pub copies-few : length (copies_of k packets) ≤ kept_before
    copies-few = let few = wrote.few in omega (arith, copies-long k packets)

    -- the session after the offer
    abbrev pub after_offer : View
    after_offer = view_with ((stands.left + pending line) % numbers) (pending line) packet (copies_of k packets) (view_of t)

    pub offer-accepted : (o.answer ≡ Ok tt) × SeenAs after_offer o.session
    offer-accepted =
        offer-done stands.within owes
        (offer-is stands.within.sound stands.ready near packet (copies_of k packets) copies-few
        (subst (λ (n : ℕ). ReadsAs octets (spares_at n packet (copies_of k packets))) row_is wrote.reads))
