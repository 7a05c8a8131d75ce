-- What follows from the outcome of a send, for this crate and those above: an accepted one was inside the ranges and sizes, its
-- datagram is at the front of the buffer, and the packet is in the history; a refused one left the session unchanged.
-- Assumes nothing.
use Rattle.std.proofs.Common.{Ok, Err}
use Prim.Native.Nat.{ℕ}
use mathlib.Core.Path.{◌≡◌, refl, sym, ap, ◌∙◌}
use mathlib.Core.Bool.{Bool, true, false, not}
use mathlib.Core.List.{List, ◌∷◌, ◌++◌}
use mathlib.Core.Option.{Option}
use lib.ListN.{length, take, drop}
use lib.Seq.{take_at}
use native.Mathlib.Omega.{arith}
use Rattle.length.specs.Refusals.{outside_ranges}
use Rattle.length.specs.Answers.{Answer, done, refused, written_outcome, fitted, size_of, over}
use Rattle.length.specs.Tables.{when, unless}
use Rattle.length.specs.declared.Refusal.{Refusal}
use Rattle.length.specs.declared.Reason.{Reason}
use Rattle.sender.specs.Send.{send_rows, datagram_to_send}
use Rattle.sender.specs.Sender.{sending_of}
use Rattle.sender.specs.Ranges.{sender_in_ranges}
use Rattle.sender.specs.Promise.{Proper, SentOn, StateAfter, to_send, Sends}
use Rattle.sender.specs.declared.Sender.{Sender}
use Rattle.sender.specs.declared.Sent.{Sent}
use Rattle.sender.specs.declared.Settings.{Settings}
use Rattle.sender.proofs.SendAccepted.{size-done, size-refused, Accepted, accepted}

ranges-told : (b : Bool) (rows : List (Option Reason)) (w old octets : List ℕ)
    → fitted (unless (when (not b) outside_ranges ∷ rows) w) old ≡ done octets
    → (b ≡ true) × (fitted (unless rows w) old ≡ done octets)
unfolding unless
ranges-told true rows w old octets e = (refl, e)
ranges-told false rows w old octets e = let z : ◌≡◌ {A = ℕ} 0 1 = cc in absurd (omega arith)

-- an accepted send
pub record SentSays (s : Sender) (settings : Settings) (packet new : List ℕ) (r : Sent) (n : ℕ) : Type 0 where
  pub ranges : sender_in_ranges s ≡ true
  pub allowed : Accepted settings packet (sending_of s) (take n new)
  pub on : SentOn s packet r.sender

module _ {s : Sender} {settings : Settings} {packet old new : List ℕ} {r : Sent} (sends : Sends s settings packet old new r) where
  pub sent-says : {n : ℕ} → r.answer ≡ Ok n → SentSays s settings packet new r n
  unfolding to_send datagram_to_send
  sent-says {n} e =
      let told : done n ≡ size_of (fitted (to_send s settings packet) old) = rw e at sends.answer in
      let t = size-done (fitted (to_send s settings packet) old) told in
      let inside = ranges-told (sender_in_ranges s) (send_rows settings packet (sending_of s)) _ old t.0 t.1 in
      let laid : new ≡ t.0 ++ drop (length t.0) old = rw t.1 at sends.lent in
      let front : take n new ≡ t.0 = rw laid (take_at t.0 (drop (length t.0) old) n (sym t.2)) in
      record {
        ranges = inside.0;
        allowed = rw front (accepted settings packet (sending_of s) old t.0 inside.1);
        on = rw t.1 at sends.state;
      }

  pub refused_says : {why : Refusal} → r.answer ≡ Err why → (r.sender ≡ s) × (new ≡ old)
  refused_says {why} e =
      let told : refused why ≡ size_of (fitted (to_send s settings packet) old) = rw e at sends.answer in
      let none = size-refused (fitted (to_send s settings packet) old) told in
      (rw none at sends.state, rw none at sends.lent)
