-- A datagram that arrives after at most k were lost: those that were lost come from its spares, it is received, and after the draining all
-- that was sent is with the modem. Assumes nothing.
use Prim.Native.Nat.{ℕ, suc, ◌+◌, ◌-◌, ◌%◌, ◌≤◌, ◌<◌}
use mathlib.Core.Path.{◌≡◌, sym, ap, ap₂, subst, ◌∙◌}
use mathlib.Core.Logic.{⊎_elim}
use mathlib.Core.List.{List, [], ◌∷◌, ◌++◌, map}
use lib.ListN.{length, get_or, get_or-append}
use lib.Seq.{take-length, get_or-append_seam}
use native.Mathlib.Omega.{arith}
use Rattle.octets.specs.Place.{tab}
use Rattle.octets.proofs.Laws.{same_or_not, tab-ext}
use Rattle.session.specs.Cells.{received, spare, Cell, filled_cell, cell_at, kept_before, kept_ahead}
use Rattle.session.specs.View.{View, Counts, numbers}
use Rattle.session_held.specs.Table.{view_of}
use Rattle.session_held.specs.declared.Session.{Session}
use Rattle.session_calls.specs.Receiver.{SeenAs, OfferOwes}
use Rattle.session_calls.specs.declared.Returned.{Returned}
use Rattle.sender_to_modem.specs.Marks.{Mark, arrives, lost, how_many_arrive, kind_by}
use Rattle.sender_to_modem.specs.Transfer.{Delivered, delivered_as, Drained}
use Rattle.sender_to_modem.specs.Sold.{NothingWaits}
use Rattle.sender_to_modem.proofs.Lines.{arrive-more, lost-same, pending, pending-arrives}
use Rattle.sender_to_modem.proofs.Ready.{Ready}
use Rattle.sender_to_modem.proofs.Offered.{own-received, lost-spare, ready-offered}
use Rattle.sender_to_modem.proofs.Draining.{waiting_at, kinds_in, DrainsTo, drains, counts-spares}
use Rattle.sender_to_modem.proofs.Copies.{copies_of, copies-long, copies_at, SentAs}
use Rattle.sender_to_modem.proofs.Modem.{wanted, tab-append, wanted-octets}
use Rattle.sender_to_modem.proofs.Standing.{Stands, longer-line, longer-row, modem-before, row_is, copies-few, after_offer}
use Rattle.sender_to_modem.proofs.Standing.{offer-accepted}

module _ {line : List Mark} {packets : List (List ℕ)} {t : Session} {modem : List Delivered} (stands : Stands line packets t modem)
    {k : ℕ} {packet octets : List ℕ} (wrote : SentAs k packets packet octets) {o : Returned (Unit {0})} (owes : OfferOwes t octets o)
    (near : pending line < kept_ahead) (enough : pending line ≤ k) where
  seen : SeenAs (after_offer stands wrote owes near) o.session
  seen = (offer-accepted stands wrote owes near).1

  covered : pending line ≤ length (copies_of k packets)
  covered = omega (arith, copies-long k packets, row_is stands wrote owes)

  pub ready-now : Ready stands.left (suc (pending line)) (view_of o.session)
  ready-now =
      subst (Ready stands.left (suc (pending line))) (sym seen.view)
      (ready-offered stands.within.sound stands.ready near packet (copies_of k packets) (copies-few stands wrote owes near) _ covered)

  -- ---- what waits then
  -- one that was lost
  spare-cell : (i : ℕ) → i < pending line
      → cell_at (view_of o.session).cells (kept_before + i)
      ≡ filled_cell ((stands.left + pending line) % numbers) spare (get_or packets (stands.left + i) [])
  spare-cell i low =
      let l = pending line in
      let row = row_is stands wrote owes in
      let place : length packets - suc (l - suc i) ≡ stands.left + i = omega arith in
      ap (λ (v : View). cell_at v.cells (kept_before + i)) seen.view
      ∙ lost-spare stands.within.sound stands.ready near packet (copies_of k packets) (copies-few stands wrote owes near) _ i low
      (omega (arith, covered))
      ∙ ap (filled_cell ((stands.left + l) % numbers) spare)
      (copies_at k packets wrote.few (l - suc i) (omega (arith, covered, copies-long k packets))
      ∙ ap (λ (n : ℕ). get_or packets n []) place)

  -- its own
  own-cell : cell_at (view_of o.session).cells (kept_before + pending line)
      ≡ filled_cell ((stands.left + pending line) % numbers) received packet
  own-cell =
      ap (λ (v : View). cell_at v.cells (kept_before + pending line)) seen.view
      ∙ own-received stands.within.sound stands.ready near packet (copies_of k packets) (copies-few stands wrote owes near) _

  abbrev line_on : List Mark
  line_on = line ++ (arrives ∷ [])

  abbrev row_on : List (List ℕ)
  row_on = packets ++ (packet ∷ [])

  spare-wanted : (i : ℕ) → i < pending line
      → waiting_at (view_of o.session) stands.left i ≡ wanted line_on row_on (stands.left + i)
  spare-wanted i low =
      let j = stands.left + i in
      let marks = stands.marks in
      let sent = stands.sent in
      let mark : get_or line_on j arrives ≡ lost =
      get_or-append line (arrives ∷ []) arrives j (omega arith) ∙ stands.since j (omega arith) (omega arith) in
      ap (λ (c : Cell). delivered_as c.state (j % numbers) c.octets) (spare-cell i low)
      ∙ ap₂ (λ (m : Mark) (p : List ℕ). delivered_as (kind_by m) (j % numbers) p) (sym mark)
      (sym (get_or-append packets (packet ∷ []) [] j (omega arith)))

  own-wanted : waiting_at (view_of o.session) stands.left (pending line) ≡ wanted line_on row_on (stands.left + pending line)
  own-wanted =
      let j = stands.left + pending line in
      let row = row_is stands wrote owes in
      let mark : get_or line_on j arrives ≡ arrives =
      ap (λ (n : ℕ). get_or line_on n arrives) stands.marks ∙ get_or-append_seam line arrives [] arrives in
      ap (λ (c : Cell). delivered_as c.state (j % numbers) c.octets) own-cell
      ∙ ap₂ (λ (m : Mark) (p : List ℕ). delivered_as (kind_by m) (j % numbers) p) (sym mark)
      (sym (ap (λ (n : ℕ). get_or row_on n []) (sym row) ∙ get_or-append_seam packets packet [] []))

  all_wanted : (i : ℕ) → i < suc (pending line)
      → waiting_at (view_of o.session) stands.left i ≡ wanted line_on row_on (stands.left + i)
  all_wanted i low =
      ⊎_elim
      (λ (e : i ≡ pending line).
      subst (λ (n : ℕ). waiting_at (view_of o.session) stands.left n ≡ wanted line_on row_on (stands.left + n)) (sym e) own-wanted)
      (λ other. spare-wanted i (omega arith))
      (same_or_not i (pending line))

  -- ---- after the draining
  module _ {more : List Delivered} {u : Session} (drained : Drained o.session more u) where
    to : DrainsTo stands.left (suc (pending line)) (view_of o.session) more u
    to =
        let row = row_is stands wrote owes in
        let free = wrote.free in
        drains (suc (pending line)) stands.left o.session u more seen.within ready-now (omega arith) drained

    modem-now : modem ++ more ≡ tab (stands.left + suc (pending line)) (wanted line_on row_on)
    modem-now =
        ap₂ (λ (a b : List Delivered). a ++ b) (modem-before stands arrives packet)
        (to.modem
        ∙ tab-ext (suc (pending line)) (waiting_at (view_of o.session) stands.left) (λ i. wanted line_on row_on (stands.left + i))
        all_wanted)
        ∙ sym (tab-append stands.left (suc (pending line)) (wanted line_on row_on))

    -- l more from spares, and one more received
    counts-now : (view_of u).counts
        ≡ record { received = how_many_arrive line_on; spare = stands.filled + pending line; repaired = 0; lost = 0 }
    counts-now =
        let l = pending line in
        to.counts
        ∙ counts-spares l (kinds_in (view_of o.session)) (view_of o.session).counts
        (λ i low. ap (λ (c : Cell). c.state) (spare-cell i low))
        (ap (λ (c : Cell). c.state) own-cell)
        ∙ ap
        (λ (c : Counts). record { received = c.received + 1; spare = c.spare + l; repaired = c.repaired; lost = c.lost })
        (ap (λ (v : View). v.counts) seen.view ∙ stands.counts)
        ∙ ap (λ (n : ℕ). record { received = n; spare = stands.filled + l; repaired = 0; lost = 0 }) (sym (arrive-more line))

    pub stands-arrived : Stands line_on row_on u (modem ++ more)
    stands-arrived =
        let marks = stands.marks in
        let longer = longer-line stands arrives packet in
        record {
          within = to.within;
          left = stands.left + suc (pending line);
          filled = stands.filled + pending line;
          ready = to.ready;
          counts = counts-now;
          modem_has = modem-now;
          marks = omega (arith, pending-arrives line);
          sent = omega (arith, longer-row stands arrives packet, stands.sent);
          losses = omega (arith, pending-arrives line, lost-same line, stands.losses);
          since = λ j high low. absurd (omega arith);
        }

    -- nothing waits after it
    pub nothing-waits : NothingWaits row_on (record { sent = length row_on; answer = o.answer; modem = modem ++ more; receiver = u })
    nothing-waits =
        let now = to.ready in
        let marks = stands.marks in
        let line-long = longer-line stands arrives packet in
        let row-long = longer-row stands arrives packet in
        let all : stands.left + suc (pending line) ≡ length row_on = omega (arith, stands.sent) in
        record {
          accepted = (offer-accepted stands wrote owes near).0;
          sent_by_then = omega arith;
          released =
              ap (map (λ (d : Delivered). d.octets)) modem-now
              ∙ wanted-octets line_on row_on (stands.left + suc (pending line)) (omega arith) all
              ∙ sym (take-length row_on);
          base = now.base ∙ ap (λ (n : ℕ). n % numbers) all;
          none_known = λ p high low. now.unknown p high low;
        }
