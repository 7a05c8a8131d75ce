-- What is sold: by the steps of a transfer, from fresh sessions on. Assumes nothing.
use Prim.Native.Nat.{ℕ, zero, suc, ◌+◌, ◌-◌, ◌≤◌, ◌<◌}
use mathlib.Core.Path.{◌≡◌, refl, sym, ap, subst, ◌∙◌}
use mathlib.Core.Logic.{⊎_elim}
use mathlib.Core.List.{List, [], ◌∷◌, ◌++◌, map}
use mathlib.Core.List.Memᴰ
use mathlib.Core.List.{Memᴰ as Among}
use lib.ListN.{length, get_or, replicate, get_or-replicate, length-append}
use lib.Seq.{take-append-le}
use native.Mathlib.Nat.{not-suc-le-zero}
use native.Mathlib.Omega.{arith}
use borrow.Author.Tests.{le-leb, leb-true}
use Rattle.octets.specs.Place.{tab}
use Rattle.datagram.specs.Sizes.{spares_limit}
use Rattle.session.specs.Cells.{Cell, blank_cell, unknown_cell, is_unknown, kept_before, kept_ahead}
use Rattle.session.specs.Held.{nothing_held}
use Rattle.session.specs.View.{View, Counts, sum, session_limit, fresh_view}
use Rattle.session_held.specs.Promise.{Fresh}
use Rattle.session_held.specs.declared.Session.{Session}
use Rattle.sender.specs.Sending.{Sending}
use Rattle.sender.specs.Inner.Held.{Within}
use Rattle.sender.specs.declared.Settings.TheVariants as settings
use Rattle.sender.proofs.Laws.{run_holds, sent-limit, send-takes}
use Rattle.session_calls.proofs.Laws.{fresh-seen}
use Rattle.sender_to_modem.specs.Marks.{arrives, lost, NeverMoreInARow, LastArrives, how_many_arrive, how_many_lost}
use Rattle.sender_to_modem.specs.Transfer.{Delivered, AfterArrival, Transfer, Ran, begins, refuses, loses, brings}
use Rattle.sender_to_modem.specs.Sold.{NothingWaits, Sold, LineSold}
use Rattle.sender_to_modem.proofs.Lines.{arrive-more, arrive_same, pending, pending_from, pending-arrives, Steady, steady}
use Rattle.sender_to_modem.proofs.Lines.{steady-before}
use Rattle.sender_to_modem.proofs.Lines.{steady-arrival}
use Rattle.sender_to_modem.proofs.Ready.{Ready}
use Rattle.sender_to_modem.proofs.Copies.{sender-run, sent-as}
use Rattle.sender_to_modem.proofs.Modem.{wanted-octets, wanted-numbers, wanted-kinds}
use Rattle.sender_to_modem.proofs.Standing.{Stands, stands-lost}
use Rattle.sender_to_modem.proofs.Arriving.{stands-arrived, nothing-waits}

-- ---- a fresh receiver
all_alike : {A : Type 0} (a : A) (n i : ℕ) → get_or (replicate n a) i a ≡ a
all_alike a zero i = refl
all_alike a (suc n) zero = refl
all_alike a (suc n) (suc i) = all_alike a n i

front : {A : Type 0} (a d : A) (l : List A) (n i : ℕ) → i < n → get_or (replicate n a ++ l) i d ≡ a
front a d l zero i low = absurd (not-suc-le-zero low)
front a d l (suc n) zero low = refl
front a d l (suc n) (suc i) low = front a d l n i (omega arith)

behind : {A : Type 0} (a d : A) (l : List A) (n i : ℕ) → n ≤ i → get_or (replicate n a ++ l) i d ≡ get_or l (i - n) d
behind a d l zero i past = let same : i ≡ i - 0 = omega arith in ap (λ (k : ℕ). get_or l k d) same
behind a d l (suc n) zero past = absurd (not-suc-le-zero past)
behind a d l (suc n) (suc i) past =
    let same : i - n ≡ suc i - suc n = omega arith in
    behind a d l n i (omega arith) ∙ ap (λ (k : ℕ). get_or l k d) same

fresh-ready : Ready 0 0 fresh_view
unfolding fresh_view
fresh-ready =
    record {
      passed = refl;
      base = refl;
      few = omega arith;
      known = λ p low.
          ap (λ (c : Cell). is_unknown c.state) (front blank_cell blank_cell (replicate kept_ahead unknown_cell) kept_before p (omega arith));
      unknown = λ p high low.
          ap (λ (c : Cell). is_unknown c.state)
          (behind blank_cell blank_cell (replicate kept_ahead unknown_cell) kept_before p (omega arith)
          ∙ get_or-replicate kept_ahead (p - kept_before) unknown_cell blank_cell (omega arith));
      none = λ d past. all_alike nothing_held kept_ahead d;
    }

stands-fresh : {t : Session} → Fresh t → Stands [] [] t []
unfolding tab pending_from how_many_lost how_many_arrive fresh_view
stands-fresh {t} fresh =
    let seen = fresh-seen t fresh in
    record {
      within = seen.within;
      left = 0;
      filled = 0;
      ready = subst (Ready 0 0) (sym seen.view) fresh-ready;
      counts = ap (λ (v : View). v.counts) seen.view;
      modem_has = refl;
      marks = refl;
      sent = refl;
      losses = refl;
      since = λ j high low. absurd (not-suc-le-zero low);
    }

-- ---- the steps
pub record Holds (x : Transfer) : Type 0 where
  pub stands : Stands x.line x.packets x.receiver x.modem
  pub each : (a : AfterArrival) → Among a x.arrivals → NothingWaits x.packets a
  pub all : length x.arrivals ≡ how_many_arrive x.line

-- one packet more changes nothing for the arrivals before it
waits-more : (packets : List (List ℕ)) (packet : List ℕ) (a : AfterArrival) → NothingWaits packets a
    → NothingWaits (packets ++ (packet ∷ [])) a
waits-more packets packet a w =
    let longer = length-append packets (packet ∷ []) in
    let by-then = w.sent_by_then in
    record {
      accepted = w.accepted;
      sent_by_then = omega arith;
      released = w.released ∙ sym (take-append-le a.sent packets (packet ∷ []) by-then);
      base = w.base;
      none_known = w.none_known;
    }

pub holds : {k : ℕ} {x : Transfer} → Ran k x → Steady k x.line → Holds x
unfolding how_many_arrive
holds (begins made fresh) e =
    record { stands = stands-fresh fresh; each = λ a among. absurd (Memᴰ.not-nil among); all = refl }
holds (refuses ran sends refused) e =
    let before = holds ran e in
    record { stands = before.stands; each = before.each; all = before.all }
holds {k} (loses {x = x} {packet = packet} ran sends sent) e =
    let before = holds ran (steady-before k x.line lost e) in
    record {
      stands = stands-lost before.stands packet;
      each = λ a among. waits-more x.packets packet a (before.each a among);
      all = before.all ∙ sym (arrive_same x.line);
    }
holds {k} (brings {x = x} {packet = packet} ran sends sent owes drained) e =
    let before = holds ran (steady-before k x.line arrives e) in
    let enough = steady-arrival k x.line e in
    let wrote = sent-as (run_holds (sender-run ran).1) sends sent in
    let near : pending x.line < kept_ahead = omega (arith, wrote.few) in
    record {
      stands = stands-arrived before.stands wrote owes near enough drained;
      each = λ a among.
          ⊎_elim (λ old. waits-more x.packets packet a (before.each a old))
          (λ new.
          ⊎_elim
          (λ same.
          subst (NothingWaits (x.packets ++ (packet ∷ []))) (sym same) (nothing-waits before.stands wrote owes near enough drained))
          (λ none. absurd (Memᴰ.not-nil none))
          (Memᴰ.cases_cons new))
          (Memᴰ.append_cases x.arrivals among);
      all = length-append x.arrivals _ ∙ ap (λ (n : ℕ). n + 1) before.all ∙ sym (arrive-more x.line);
    }

-- ---- the whole
pub count-sent : {k : ℕ} {x : Transfer} → Ran k x → x.sender.sent ≡ length x.packets
count-sent ran = ap (λ (z : Sending). z.sent) (run_holds (sender-run ran).1).state

-- a mark for each packet
pub as_many : {k : ℕ} {x : Transfer} → Ran k x → length x.packets ≡ length x.line
as_many (begins made fresh) = refl
as_many (refuses ran sends refused) = as_many ran
as_many (loses {x = x} {packet = packet} ran sends sent) =
    omega (arith, as_many ran, length-append x.packets (packet ∷ []), length-append x.line (lost ∷ []))
as_many (brings {x = x} {packet = packet} ran sends sent owes drained) =
    omega (arith, as_many ran, length-append x.packets (packet ∷ []), length-append x.line (arrives ∷ []))

sold-of : (k : ℕ) (x : Transfer) → Ran k x → NeverMoreInARow k x.line → LastArrives x.line → Sold x
sold-of k x ran few last =
    let h = holds ran (steady k x.line few) in
    let s = h.stands in
    let none : pending x.line ≡ 0 = ap pending last.last ∙ pending-arrives last.before in
    let marks : s.left ≡ length x.line = omega (arith, s.marks) in
    let row : s.left ≡ length x.packets = omega (arith, s.sent) in
    let spares : s.filled ≡ how_many_lost x.line = omega (arith, s.losses) in
    let modem = s.modem_has in
    let counts = s.counts in
    let count = count-sent ran in
    let total : how_many_arrive x.line + s.filled + 0 + 0 ≡ s.left = ap sum (sym counts) ∙ s.ready.passed in
    record {
      octets = ap (map (λ (d : Delivered). d.octets)) modem ∙ wanted-octets x.line x.packets s.left marks row;
      in_order = ap (map (λ (d : Delivered). d.number)) modem ∙ wanted-numbers x.line x.packets s.left marks row;
      kinds = ap (map (λ (d : Delivered). d.kind)) modem ∙ wanted-kinds x.line x.packets s.left marks row;
      none_lost = ap (λ (c : Counts). c.lost) counts;
      none_repaired = ap (λ (c : Counts). c.repaired) counts;
      received = ap (λ (c : Counts). c.received) counts;
      spare = ap (λ (c : Counts). c.spare) counts ∙ spares;
      sent = count;
      totals =
          let some = ap (λ (c : Counts). c.received) counts in
          let others = ap (λ (c : Counts). c.spare) counts in
          omega arith;
      each = h.each;
      all = h.all;
    }

pub line-sold : LineSold
line-sold =
    record {
      sold = λ k least most x ran few last. sold-of k x ran few last;
      least = λ k x ran last.
          omega (arith, as_many ran, ap length last.last, length-append last.before (arrives ∷ []));
      most = λ k x ran.
          let proper = (run_holds (sender-run ran).1).proper in
          let within : Within x.sender.sent x.sender.sizes x.sender.octets =
          record { arrays = proper.arrays; ranges = proper.ranges } in
          omega (arith, count-sent ran, leb-true x.sender.sent session_limit (sent-limit within));
      takes = λ k few x ran free newest room sends.
          send-takes x.sender (settings.Spares k) _ (run_holds (sender-run ran).1).proper (omega (arith, count-sent ran))
          (le-leb k spares_limit few) newest room sends;
    }
