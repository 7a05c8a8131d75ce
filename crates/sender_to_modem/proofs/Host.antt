-- A host's calls make a transfer: as long as never more than k are lost in a row no send and no offer is refused, and k + 2 releases drain
-- the receiver. Assumes nothing.
use Rattle.length.specs.declared.Refusal.{Refusal}
use Rattle.std.proofs.Common.{Result}
use Prim.Native.Nat.{ℕ, zero, suc, ◌+◌, ◌≤◌, ◌<◌}
use mathlib.Core.Path.{◌≡◌, refl, sym, subst, ◌∙◌}
use mathlib.Core.List.{List, [], ◌∷◌, ◌++◌}
use lib.ListN.{length, take, length-append}
use native.Mathlib.Omega.{arith}
use Rattle.datagram.specs.Sizes.{spares_limit}
use Rattle.session.specs.Cells.{kept_before, kept_ahead}
use Rattle.session.specs.Reached.{Unknown}
use Rattle.session.specs.Ranges.{Sound}
use Rattle.session.specs.Release.{moved_on}
use Rattle.session.specs.View.{session_limit}
use Rattle.session_held.specs.Table.{lent_by, view_of}
use Rattle.session_held.specs.Laid.{InRanges}
use Rattle.session_held.specs.declared.Session.{Session}
use Rattle.sender.specs.declared.Sender.{Sender}
use Rattle.sender.proofs.Laws.{run_holds}
use Rattle.session_calls.specs.Receiver.{OfferOwes}
use Rattle.session_calls.proofs.Laws.{release-refused, release-done}
use Rattle.sender_to_modem.specs.Marks.{Mark, arrives, lost}
use Rattle.sender_to_modem.specs.Transfer.{Delivered, AfterArrival, Drained, ends, releases}
use Rattle.sender_to_modem.specs.Transfer as transfers
use Rattle.sender_to_modem.specs.Host.{ReleasesCalled, none, one, datagram_written, Hosted, begins, loses, brings, Transferred}
use Rattle.sender_to_modem.specs.Host.{HostedTransfers}
use Rattle.sender_to_modem.proofs.Lines.{pending, Steady, steady, steady-before, steady-arrival}
use Rattle.sender_to_modem.proofs.Ready.{Ready, release-one, release-none, ready_on}
use Rattle.sender_to_modem.proofs.Copies.{sender-run, sent-as}
use Rattle.sender_to_modem.proofs.Standing.{offer-accepted}
use Rattle.sender_to_modem.proofs.Arriving.{ready-now}
use Rattle.sender_to_modem.proofs.Sold.{holds, as_many, line-sold}

-- ---- releases with an unknown base change nothing
unmoved : {m : ℕ} {s t : Session} → InRanges (lent_by s) → Unknown (view_of s).cells kept_before → ReleasesCalled m s t → t ≡ s
unmoved within u none = refl
unmoved {s = s} within u (one {old = old} {r = r} room owes rest) =
    let refused = release-none (view_of s) (length old) u in
    let same : r.session ≡ s = (release-refused within owes refused.1).1 in
    unmoved (subst (λ (z : Session). InRanges (lent_by z)) (sym same) within)
    (subst (λ (z : Session). Unknown (view_of z).cells kept_before) (sym same) u) rest
    ∙ same

-- ---- with n waiting, n + 1 releases or more drain the receiver
abbrev Drainable : ℕ → Type 0
Drainable n = (m q : ℕ) (s t : Session) → InRanges (lent_by s) → Ready q n (view_of s) → q + n ≤ session_limit → n < m → ReleasesCalled m s t
    → (more : List Delivered) × Drained s more t

drain-none : Drainable 0
drain-none m q s t within ready fits some none = absurd (omega arith)
drain-none m q s t within ready fits some (one {old = old} {r = r} room owes rest) =
    let u = ready.unknown kept_before (omega arith) (omega arith) in
    let refused = release-none (view_of s) (length old) u in
    let told = release-refused within owes refused.1 in
    let same : t ≡ r.session =
    unmoved (subst (λ (z : Session). InRanges (lent_by z)) (sym told.1) within)
    (subst (λ (z : Session). Unknown (view_of z).cells kept_before) (sym told.1) u) rest in
    ([], subst (Drained s []) (sym same) (ends room owes told.0))

drain-more : (n : ℕ) → Drainable n → Drainable (suc n)
drain-more n later m q s t within ready fits some none = absurd (omega arith)
drain-more n later m q s t within ready fits some (one {n = left} {old = old} {r = r} room owes rest) =
    let free : q < session_limit = omega arith in
    let told = release-done within owes (release-one within.sound ready free room) in
    let after = told.1 in
    let sound : Sound (moved_on (view_of s)) = subst Sound after.view after.within.sound in
    let on : Ready (q + 1) n (view_of r.session) =
    subst (Ready (q + 1) n) (sym after.view) (ready_on within.sound ready free sound) in
    let tail = later left (q + 1) r.session t after.within on (omega arith) (omega arith) rest in
    (_, releases room owes told.0.4 tail.1)

drainable : (n : ℕ) → Drainable n
drainable zero = drain-none
drainable (suc n) = drain-more n (drainable n)

-- ---- the whole
transferred : (k : ℕ) → k ≤ spares_limit → {line : List Mark} {packets : List (List ℕ)} {s : Sender} {t : Session}
    → Hosted k line packets s t → Steady k line → length line ≤ session_limit → Transferred k line packets s t
transferred k few (begins made fresh) good fits = record { modem = []; arrivals = []; ran = transfers.begins made fresh }
transferred k few (loses {line = line} hosted newest room sends) good fits =
    let longer = length-append line (lost ∷ []) in
    let before = transferred k few hosted (steady-before k line lost good) (omega arith) in
    let many = as_many before.ran in
    let took = line-sold.takes k few _ before.ran (omega arith) newest room sends in
    record { modem = before.modem; arrivals = before.arrivals; ran = transfers.loses before.ran sends took.1 }
transferred k few
    (brings {line = line} {packets = packets} {t = t} {u = u} {packet = packet} {new = new} {o = o} hosted newest room sends owes called)
    good
    fits =
    let longer = length-append line (arrives ∷ []) in
    let good-before = steady-before k line arrives good in
    let enough = steady-arrival k line good in
    let before = transferred k few hosted good-before (omega arith) in
    let many = as_many before.ran in
    let took = line-sold.takes k few _ before.ran (omega arith) newest room sends in
    let offers : OfferOwes t (take took.0 new) o =
    subst (λ (w : Result ℕ Refusal). OfferOwes t (datagram_written w new) o) took.1 owes in
    let stands = (holds before.ran good-before).stands in
    let wrote = sent-as (run_holds (sender-run before.ran).1) sends took.1 in
    let near : pending line < kept_ahead = omega arith in
    let ready = ready-now stands wrote offers near enough in
    let within = (offer-accepted stands wrote offers near).1.within in
    let drained = drainable (suc (pending line)) (k + 2) stands.left o.session u within ready
    (omega (arith, stands.marks, wrote.free, many)) (omega arith) called in
    let modem = before.modem ++ drained.0 in
    let now : AfterArrival = record { sent = length (packets ++ (packet ∷ [])); answer = o.answer; modem = modem; receiver = u } in
    record {
      modem = modem;
      arrivals = before.arrivals ++ (now ∷ []);
      ran = transfers.brings {more = drained.0} before.ran sends took.1 offers drained.1;
    }

pub hosted-transfers : HostedTransfers
hosted-transfers k few line packets s t hosted rare fits = transferred k few hosted (steady k line rare) fits
