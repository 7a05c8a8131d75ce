-- A send that may be, with room for any datagram, is accepted: what it writes reads back, and so is within the datagram limit. Assumes
-- nothing.
use Rattle.std.proofs.Common.{Result, Ok, Err}
use Prim.Native.Nat.{ℕ, ◌%◌, ◌≤◌, ◌<◌}
use mathlib.Core.Path.{◌≡◌, refl, ap, ◌∙◌}
use mathlib.Core.Bool.{Bool, true, false, cond, not}
use mathlib.Core.List.{List, [], ◌∷◌}
use lib.ListN.{length}
use lib.Dec.{leb, ltb}
use native.Mathlib.Omega.{arith}
use borrow.Author.Tests.{le-leb, lt-leb, ltb-false}
use Rattle.length.specs.declared.Refusal.{Refusal}
use Rattle.length.specs.Refusals.{too_long, outside_ranges, all_passed, wrong_settings, outside_sizes, no_room}
use Rattle.length.specs.Answers.{Answer, done, refuse, written_outcome, fitted, size_of}
use Rattle.length.specs.Tables.{when, unless}
use Rattle.length.proofs.Laws.{cond-done}
use Rattle.datagram.specs.Sizes.{datagram_limit}
use Rattle.datagram.specs.Claims.{ReadsAs}
use Rattle.datagram.specs.Read.{DatagramParts, read_datagram}
use Rattle.datagram.specs.Write.{datagram_octets}
use Rattle.datagram.proofs.Laws.{datagram-back}
use Rattle.session.specs.View.{numbers, session_limit}
use Rattle.sender.specs.Carries.{settings_inside}
use Rattle.sender.specs.Send.{packet_inside, carried_next}
use Rattle.sender.specs.Sender.{sending_of}
use Rattle.sender.specs.Ranges.{sender_in_ranges}
use Rattle.sender.specs.Inner.Next.{kind_asked, items_next}
use Rattle.sender.specs.Promise.{Proper, to_send, Sends}
use Rattle.sender.specs.declared.Sender.{Sender}
use Rattle.sender.specs.declared.Sent.{Sent}
use Rattle.sender.specs.declared.Settings.{Settings}
use Rattle.sender.proofs.SentBack.{next-fit, extra-next}

-- what reads is within the limit
read_short : (s : List ℕ) (d : DatagramParts) → read_datagram s ≡ done d → length s ≤ datagram_limit
unfolding read_datagram
read_short s d e = ltb-false datagram_limit (length s) (cond-done (ltb datagram_limit (length s)) too_long _ d e).0

no_row : (b₁ b₂ b₃ b₄ : Bool) (octets : List ℕ) → b₁ ≡ true → b₂ ≡ false → b₃ ≡ true → b₄ ≡ true
    → unless (when (not b₁) outside_ranges ∷ when b₂ all_passed ∷ when (not b₃) wrong_settings ∷ when (not b₄) outside_sizes ∷ []) octets
    ≡ done octets
unfolding unless
no_row b₁ b₂ b₃ b₄ octets e₁ e₂ e₃ e₄ = rw (e₁, e₂, e₃, e₄)

-- an answer that is no refusal
answered : (w : Result ℕ Refusal) {n : ℕ} → written_outcome w ≡ done n → (m : ℕ) × (w ≡ Ok m)
answered (Ok m) e = (m, refl)
answered (Err why) e = let z : ◌≡◌ {A = ℕ} 0 1 = cc in absurd (omega arith)

-- the octets of the next datagram
abbrev next_octets : Sender → Settings → List ℕ → List ℕ
next_octets s settings packet = datagram_octets (carried_next settings packet (sending_of s))

module _ (s : Sender) (settings : Settings) (packet : List ℕ) (proper : Proper s) (free : s.sent < session_limit)
    (inside : settings_inside settings ≡ true) (newest : packet_inside packet ≡ true) where
  next-reads : ReadsAs (next_octets s settings packet) (carried_next settings packet (sending_of s))
  next-reads =
      rw (extra-next settings (sending_of s))
      (datagram-back _ (s.sent % numbers) packet (kind_asked settings) (items_next settings (sending_of s))
      (next-fit (record { arrays = proper.arrays; ranges = proper.ranges }) settings packet (next_octets s settings packet)
      (record { free = free; inside = inside; newest = newest; same = refl }))
      refl)

  to-send : to_send s settings packet ≡ done (next_octets s settings packet)
  unfolding to_send
  to-send =
      no_row (sender_in_ranges s) (leb session_limit s.sent) (settings_inside settings) (packet_inside packet) (next_octets s settings packet)
      proper.ranges (lt-leb session_limit s.sent free) inside newest

  pub send-takes : {old new : List ℕ} {r : Sent} → datagram_limit ≤ length old → Sends s settings packet old new r
      → (n : ℕ) × (r.answer ≡ Ok n)
  send-takes {old} {new} {r} room sends =
      let octets = next_octets s settings packet in
      let reads = next-reads in
      let short = read_short octets reads.parts reads.read in
      let fits : fitted (to_send s settings packet) old ≡ done octets =
      ap (λ (a : Answer (List ℕ)). fitted a old) to-send
      ∙ ap (λ (b : Bool). cond b (done octets) (refuse no_room)) (le-leb (length octets) (length old) (omega arith)) in
      answered r.answer (sends.answer ∙ ap size_of fits)
