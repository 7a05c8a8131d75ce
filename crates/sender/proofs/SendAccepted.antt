-- What follows from the answer of a send inside the ranges: an accepted one passed every test, and its octets are those of the next
-- datagram. Assumes nothing.
use Prim.Native.Nat.{ℕ, ◌<◌}
use mathlib.Core.Path.{◌≡◌, refl}
use mathlib.Core.Bool.{Bool, true, false, cond, not}
use mathlib.Core.List.{List, [], ◌∷◌}
use lib.ListN.{length}
use lib.Dec.{leb}
use native.Mathlib.Omega.{arith}
use borrow.Author.Tests.{leb-false}
use Rattle.length.specs.Refusals.{outside_sizes, no_room, wrong_settings, all_passed}
use Rattle.length.specs.Answers.{Answer, done, refused, refuse, fitted, size_of}
use Rattle.length.specs.Tables.{when, unless}
use Rattle.length.specs.declared.Refusal.{Refusal}
use Rattle.datagram.specs.Write.{datagram_octets}
use Rattle.session.specs.View.{session_limit}
use Rattle.sender.specs.Sending.{Sending}
use Rattle.sender.specs.Carries.{settings_inside}
use Rattle.sender.specs.Send.{packet_inside, carried_next, datagram_to_send}
use Rattle.sender.specs.declared.Settings.{Settings}

-- ---- what follows from an answer
pub size-done : {n : ℕ} (a : Answer (List ℕ)) → done n ≡ size_of a → (octets : List ℕ) × (a ≡ done octets) × (n ≡ length octets)
size-done (done octets) e = (octets, refl, cc)
size-done (refused r) e = let z : ◌≡◌ {A = ℕ} 0 1 = cc in absurd (omega arith)

pub size-refused : {r : Refusal} (a : Answer (List ℕ)) → refused r ≡ size_of a → a ≡ refused r
size-refused (done octets) e = let z : ◌≡◌ {A = ℕ} 0 1 = cc in absurd (omega arith)
size-refused (refused r) e = cc

-- a datagram that is written was allowed, and had room
pub record Accepted (s : Settings) (packet : List ℕ) (session : Sending) (octets : List ℕ) : Type 0 where
  pub free : session.sent < session_limit
  pub inside : settings_inside s ≡ true
  pub newest : packet_inside packet ≡ true
  pub same : octets ≡ datagram_octets (carried_next s packet session)

room-told : (b : Bool) (octets other : List ℕ) → cond b (done octets) (refuse no_room) ≡ done other → other ≡ octets
room-told true octets other e = cc
room-told false octets other e = let z : ◌≡◌ {A = ℕ} 0 1 = cc in absurd (omega arith)

tests-told : (b₁ b₂ b₃ : Bool) (octets old other : List ℕ)
    → fitted (unless (when b₁ all_passed ∷ when (not b₂) wrong_settings ∷ when (not b₃) outside_sizes ∷ []) octets) old ≡ done other
    → (b₁ ≡ false) × (b₂ ≡ true) × (b₃ ≡ true) × (other ≡ octets)
unfolding unless
tests-told true b₂ b₃ octets old other e = let z : ◌≡◌ {A = ℕ} 0 1 = cc in absurd (omega arith)
tests-told false false b₃ octets old other e = let z : ◌≡◌ {A = ℕ} 0 1 = cc in absurd (omega arith)
tests-told false true false octets old other e = let z : ◌≡◌ {A = ℕ} 0 1 = cc in absurd (omega arith)
tests-told false true true octets old other e = (refl, refl, refl, room-told (leb (length octets) (length old)) octets other e)

pub accepted : (s : Settings) (packet : List ℕ) (session : Sending) (old octets : List ℕ)
    → fitted (datagram_to_send s packet session) old ≡ done octets → Accepted s packet session octets
unfolding datagram_to_send
accepted s packet session old octets e =
    let t = tests-told (leb session_limit session.sent) (settings_inside s) (packet_inside packet)
    (datagram_octets (carried_next s packet session)) old octets e in
    record { free = leb-false session_limit session.sent t.0; inside = t.1; newest = t.2; same = t.3 }
