-- Result lines, laid part after part. Assumes nothing.
use Prim.Native.Nat.{ℕ, ◌+◌, ◌-◌, ◌*◌, ◌/◌, ◌%◌, ◌≤◌, ◌<◌}
use mathlib.Core.Path.{◌≡◌, refl, ap, ◌∙◌}
use mathlib.Core.List.{List, [], ◌∷◌}
use Rattle.std.specs.Int.{w16, to_be_bytes}
use lib.ListN.{length, get_or, set, take, drop, length-append}
use native.Mathlib.Omega.{arith}
use Rattle.length.specs.declared.Refusal.{Refusal}
use Rattle.length.specs.Refusals.{number_of}
use Rattle.datagram.specs.Sizes.{packet_limit}
use Rattle.session_slots.specs.Store.{part}
use Rattle.session_held.specs.Slots.{slots_kept}
use Rattle.line.specs.Hex.{hex_of}
use Rattle.line.specs.Lines.{result_line, refusal_line}
use Rattle.line.specs.Promise.{Appends}
use Rattle.line.proofs.Laws.{appends-none, appends-one, appends-then, appends-long, length-hex_of}

-- one character at a place
pub appends-single : (x : ℕ) {old : List ℕ} {at : ℕ} → at + 1 ≤ length old → Appends (x ∷ []) old at (set old at x) (at + 1)
appends-single x room = appends-one (appends-none (omega arith)) x (omega arith)

-- the room that is left after some digits, and after two parts of them
pub room-left : (octets : List ℕ) {old new : List ℕ} {at end : ℕ} (k : ℕ) → Appends (hex_of octets) old at new end
    → at + 2 * length octets + k ≤ length old → end + k ≤ length new
room-left octets k a room =
    omega (arith, a.after, appends-long a, length-hex_of octets)

pub room-left-two : (front octets : List ℕ) {old one new : List ℕ} {at middle end : ℕ} (k : ℕ) → Appends (hex_of front) old at one middle
    → Appends (hex_of octets) one middle new end → at + 2 * length front + 2 * length octets + k ≤ length old → end + k ≤ length new
room-left-two front octets k a b room =
    omega (arith, a.after, appends-long a, length-hex_of front, b.after, appends-long b, length-hex_of octets)

-- the two octets of a number
pub high-octet : {number : ℕ} {octets : List ℕ} → number < 65536 → octets ≡ to_be_bytes w16 number → get_or octets 0 0 ≡ number / 256
high-octet small is = ap (λ (l : List ℕ). get_or l 0 0) is ∙ omega arith

pub low-octet : (number : ℕ) {octets : List ℕ} → octets ≡ to_be_bytes w16 number → get_or octets 1 0 ≡ number % 256
low-octet number is = ap (λ (l : List ℕ). get_or l 1 0) is

pub result-put : (kind number : ℕ) (octets : List ℕ) {high low : ℕ} {old one two new : List ℕ} {at middle end r : ℕ}
    → high ≡ number / 256 → low ≡ number % 256
    → Appends (hex_of (kind ∷ high ∷ low ∷ [])) old at one middle → Appends (hex_of octets) one middle two end
    → Appends (10 ∷ []) two end new r → Appends (result_line kind number octets) old at new r
unfolding result_line hex_of
result-put kind number octets h l front packet feed = appends-then (appends-then (rw (h, l) at front) packet) feed

-- the octets of a slot are the part of it that is read
pub kept_put : (kind number size slot : ℕ) (o : List ℕ) {old new : List ℕ} {at end : ℕ} → slot ≡ number % slots_kept
    → Appends (result_line kind number (take (slot * packet_limit + size - slot * packet_limit) (drop (slot * packet_limit) o))) old at new end
    → Appends (result_line kind number (part o (number % slots_kept) size)) old at new end
unfolding part
kept_put kind number size slot o e a =
    let all : slot * packet_limit + size - slot * packet_limit ≡ size = omega arith in
    rw (all, e) at a

pub refusal-put : (why : Refusal) {old one new : List ℕ} {number at end r : ℕ} → number ≡ number_of why.reason
    → Appends (hex_of (255 ∷ number ∷ why.place / 256 % 256 ∷ why.place % 256 ∷ [])) old at one end → Appends (10 ∷ []) one end new r
    → Appends (refusal_line why) old at new r
unfolding refusal_line
refusal-put why e front feed = appends-then (rw e at front) feed

-- ---- their lengths
pub length-result : (kind number : ℕ) (octets : List ℕ) → length (result_line kind number octets) ≡ 7 + 2 * length octets
unfolding result_line
length-result kind number octets =
    length-append (hex_of (kind ∷ number / 256 ∷ number % 256 ∷ octets)) (10 ∷ [])
    ∙ ap (λ (k : ℕ). k + 1) (length-hex_of (kind ∷ number / 256 ∷ number % 256 ∷ octets))
    ∙ omega arith

pub length-refusal : (why : Refusal) → length (refusal_line why) ≡ 9
unfolding refusal_line hex_of
length-refusal why = refl
