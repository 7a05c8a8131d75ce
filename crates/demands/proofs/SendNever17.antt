-- No sending session that the library handed out is refused with 17: each in a chain of sends is within its ranges, and then the
-- rows of send are 16, 15, 4 and 13. Assumes nothing.
use Prim.Native.Nat.{ℕ}
use mathlib.Core.Path.{◌≡◌, sym, ap, subst, ◌∙◌}
use mathlib.Core.Bool.{Bool, true, false, not}
use mathlib.Core.List.{List, [], ◌∷◌}
use mathlib.Core.Option.{Option, some, none-ne-some, some-injective}
use lib.ListN.{length}
use lib.Dec.{leb}
use native.Mathlib.Omega.{arith}
use Rattle.length.specs.Refusals.{outside_sizes, no_room, wrong_settings, all_passed, outside_ranges, number_of}
use Rattle.length.specs.Answers.{Answer, done, refused, written_outcome, fitted}
use Rattle.length.specs.Tables.{when, first, refusal_in}
use Rattle.length.specs.declared.Reason.{Reason}
use Rattle.datagram.specs.Write.{datagram_octets}
use Rattle.session.specs.View.{session_limit}
use Rattle.sender.specs.Carries.{settings_inside}
use Rattle.sender.specs.Send.{packet_inside, carried_next}
use Rattle.sender.specs.Sender.{sending_of}
use Rattle.sender.specs.Ranges.{sender_in_ranges}
use Rattle.sender.specs.Promise.{Proper, to_send, StateAfter, Sends}
use Rattle.sender.specs.declared.Sender.{Sender}
use Rattle.sender.specs.declared.Sent.{Sent}
use Rattle.sender.specs.declared.Settings.{Settings}
use Rattle.demands.specs.Demand2.SendChain.{SenderBegins, fresh, saved, SentFrom, at_start, sent}
use Rattle.demands.proofs.Demand1.{demand-1}

-- within the ranges
begins-proper : {s : Sender} → SenderBegins s → Proper s
begins-proper (fresh f) = f.proper
begins-proper (saved p) = p

after-proper : (a : Answer (List ℕ)) (packet : List ℕ) {s t : Sender} → Proper s → StateAfter a s packet t → Proper t
after-proper (done octets) packet p state = state.proper
after-proper (refused why) packet p state = subst Proper (sym state) p

from-proper : {s t : Sender} → Proper s → SentFrom s t → Proper t
from-proper p at_start = p
from-proper p (sent {t = t} {settings = settings} {packet = packet} {old = old} rest sends) =
    after-proper (fitted (to_send t settings packet) old) packet (from-proper p rest) sends.state

-- the rows after 17
not-17 : (passed wrong size room : Bool)
    → first (when passed all_passed ∷ when wrong wrong_settings ∷ when size outside_sizes ∷ when room no_room ∷ []) ≡ some outside_ranges
    → ⊥
unfolding first
not-17 true wrong size room e = let same = ap number_of (some-injective all_passed outside_ranges e) in omega arith
not-17 false true size room e = let same = ap number_of (some-injective wrong_settings outside_ranges e) in omega arith
not-17 false false true room e = let same = ap number_of (some-injective outside_sizes outside_ranges e) in omega arith
not-17 false false false true e = let same = ap number_of (some-injective no_room outside_ranges e) in omega arith
not-17 false false false false e = none-ne-some outside_ranges e

in-ranges : (inside : Bool) (rows : List (Option Reason)) → inside ≡ true → first (when (not inside) outside_ranges ∷ rows) ≡ first rows
unfolding first
in-ranges inside rows e = rw e

pub send-never-17 : {s t : Sender} {settings : Settings} {packet old new : List ℕ} {r : Sent} → SenderBegins s → SentFrom s t
    → Sends t settings packet old new r
    → refusal_in (written_outcome r.answer) ≡ some outside_ranges
    → ⊥
send-never-17 {t = t} {settings} {packet} {old} begins chain sends e =
    not-17 (leb session_limit t.sent) (not (settings_inside settings)) (not (packet_inside packet))
    (not (leb (length (datagram_octets (carried_next settings packet (sending_of t)))) (length old)))
    (sym (in-ranges (sender_in_ranges t) _ (from-proper (begins-proper begins) chain).ranges) ∙ sym (demand-1.sending.send sends) ∙ e)
