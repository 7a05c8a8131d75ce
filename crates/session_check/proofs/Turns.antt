-- What each loop of this crate keeps true, on plain values: where it starts, what a turn does, where it ends. Assumes nothing.
use Rattle.std.proofs.Common.{◌≡◌, ℕ, ◌+◌, ◌-◌, ◌*◌, ◌/◌, ◌%◌, ◌^◌, ◌<◌, ◌≤◌, Bool, true, false, cond, not, ◌&&◌, eqb, ltb, leb, List, get_or, sym, refl, ap, ◌∙◌, ap₂, ⊎_elim, arith, le-ltb, lt-ltb}
use Rattle.octets.specs.Place.{all_below}
use Rattle.octets.proofs.Laws.{below_or_not, all_below-more, all_below-at, all_below-of}
use Rattle.datagram.specs.Sizes.{packet_limit, message_limit, messages_limit}
use Rattle.session.specs.Cells.{is_unknown, kept_before, kept_ahead}
use Rattle.session_slots.specs.Store.{zeros_past}
use Rattle.session_slots.proofs.Laws.{zeros_past-at}
use Rattle.session.specs.Ranges.{blank_at, note_right}
use Rattle.session.specs.View.{numbers, number_at}
use Rattle.session_held.specs.Slots.{slots_kept, slot_at, heard_slot_at, message_slot}
use Rattle.session_held.specs.Table.{state_in, size_in, note_in, message_size_in, state_numbered}
use Rattle.session_held.specs.Laid.{message_laid}
use Rattle.session_check.specs.Pieces.{state_right, passed_of, place_of_slot, state_test, note_test, packet_test, SizesFit}
use Rattle.session_check.specs.Pieces.{heard_right, heard_test, sizeless, empty_at, held_octets, octet_zero}

-- two tests that pass together
pub both_ways : (a b : Bool) → (a ≡ true → b ≡ true) → (b ≡ true → a ≡ true) → a ≡ b
both_ways true true f g = refl
both_ways true false f g = sym (f refl)
both_ways false true f g = g refl
both_ways false false f g = refl

-- ---- a loop over places: ok says whether the test passed at each place below p
pub record Checked (limit : ℕ) (test : ℕ → Bool) (ok : Bool) (p : ℕ) : Type 0 where
  pub so : ok ≡ all_below p test
  pub few : p ≤ limit

pub checked-start : (limit : ℕ) (test : ℕ → Bool) → Checked limit test true 0
unfolding all_below
checked-start limit test = record { so = refl; few = omega arith }

pub checked-turn : {limit : ℕ} {test : ℕ → Bool} {ok right : Bool} {p : ℕ} → Checked limit test ok p → p < limit → right ≡ test p
    → Checked limit test (ok && right) (p + 1)
checked-turn {limit} {test} {ok} {right} {p} c more same =
    record { so = ap₂ (λ (a b : Bool). a && b) c.so same ∙ sym (all_below-more p test); few = omega arith }

pub checked-done : {limit : ℕ} {test : ℕ → Bool} {ok : Bool} {p : ℕ} → Checked limit test ok p → limit ≤ p → ok ≡ all_below limit test
checked-done {limit} {test} {ok} {p} c done = c.so ∙ ap (λ (k : ℕ). all_below k test) (omega (arith, c.few))

-- ---- which numbers must be blank
pub passed-few : {whole : ℕ} → whole < kept_before → whole ≡ passed_of whole
unfolding passed_of
passed-few {whole} few = rw (lt-ltb whole kept_before few)

pub passed-all : {whole : ℕ} → kept_before ≤ whole → kept_before ≡ passed_of whole
unfolding passed_of
passed-all {whole} all = rw (le-ltb whole kept_before all)

pub ruleset passes = (passed-few, passed-all)

-- no more than are in view, so that a place may be added
passed-small : (whole : ℕ) → passed_of whole ≤ kept_before
unfolding passed_of
passed-small whole =
    ⊎_elim (λ few. rw (lt-ltb whole kept_before few) (omega arith)) (λ all. rw (le-ltb whole kept_before all) (omega arith))
    (below_or_not whole kept_before)

pub sum-small : (whole p : ℕ) {gone : ℕ} → gone ≡ passed_of whole → gone + p % slots_kept < 2 ^ 16
sum-small whole p gone-is = rw gone-is (omega (arith, passed-small whole))

-- the number j before the base is blank exactly if j exceeds the sum
blank-told : (whole p : ℕ) → ltb (passed_of whole + p) kept_before ≡ blank_at whole p
unfolding passed_of
blank-told whole p =
    ⊎_elim
    (λ few.
    ⊎_elim
    (λ early.
    rw (lt-ltb whole kept_before few, lt-ltb p kept_before early)
    (⊎_elim (λ low. rw (lt-ltb (whole + p) kept_before low, lt-ltb whole (kept_before - p) (omega arith)))
    (λ high. rw (le-ltb (whole + p) kept_before high, le-ltb whole (kept_before - p) (omega arith)))
    (below_or_not (whole + p) kept_before)))
    (λ late. rw (lt-ltb whole kept_before few, le-ltb p kept_before late, le-ltb (whole + p) kept_before (omega arith)))
    (below_or_not p kept_before))
    (λ all.
    rw (le-ltb whole kept_before all, le-ltb (kept_before + p) kept_before (omega arith))
    (⊎_elim (λ early. rw (lt-ltb p kept_before early, le-ltb whole (kept_before - p) (omega arith))) (λ late. rw (le-ltb p kept_before late))
    (below_or_not p kept_before)))
    (below_or_not whole kept_before)

-- ---- kept numbers
module _ (base total : ℕ) (t : List ℕ) {i state size gone place : ℕ} {ok right : Bool} where
  pub state-turn : Checked slots_kept (state_test base total t) ok i → i < slots_kept → state ≡ state_in t i → size ≡ size_in t i
      → gone ≡ passed_of total → place ≡ place_of_slot base i → right ≡ state_right state size (ltb (gone + place) kept_before)
      → Checked slots_kept (state_test base total t) (ok && right) (i + 1)
  unfolding state_test
  state-turn c more state-is size_is gone-is place_is right_is =
      checked-turn c more (rw (state-is, size_is, gone-is, place_is, blank-told total (place_of_slot base i)) at right_is)

-- the number at a place, counted from the first
number-told : (base first place number : ℕ) → base < numbers → first < numbers → (first + kept_before) % numbers ≡ base
    → number ≡ (first + place) % numbers → number ≡ number_at base place
number-told base first place number small low back number_is = omega arith

pub note-turn : (base : ℕ) (t : List ℕ) {i state note first place number : ℕ} {ok right : Bool} → Checked slots_kept (note_test base t) ok i
    → i < slots_kept → state ≡ state_in t i → note ≡ note_in t i → base < numbers → first < numbers → (first + kept_before) % numbers ≡ base
    → place ≡ place_of_slot base i → number ≡ (first + place) % numbers → right ≡ note_right (state_numbered state) note number
    → Checked slots_kept (note_test base t) (ok && right) (i + 1)
unfolding note_test
note-turn base t {i} {first = first} {place} {number} c more state-is note-is small low back place_is number_is right_is =
    checked-turn c more
    (rw (state-is, note-is, number-told base first place number small low back number_is, place_is) at right_is)

pub packet-turn : (t o : List ℕ) {i size : ℕ} {ok right : Bool} → Checked slots_kept (packet_test t o) ok i → i < slots_kept
    → size ≡ size_in t i → right ≡ zeros_past o i size → Checked slots_kept (packet_test t o) (ok && right) (i + 1)
unfolding packet_test
packet-turn t o {i} c more size_is right_is = checked-turn c more (right_is ∙ ap (λ (n : ℕ). zeros_past o i n) size_is)

pub size-fits-there : (t : List ℕ) {i size : ℕ} → SizesFit t → i < slots_kept → size ≡ size_in t i → size ≤ packet_limit
size-fits-there t {i} fit low size_is = rw size_is (fit i low)

-- ---- what is held at a distance
module _ (base : ℕ) (t g : List ℕ) {ok known right : Bool} {d : ℕ} where
  pub heard-turn : Checked kept_ahead (heard_test base t g) ok d → d < kept_ahead
      → known ≡ not (is_unknown (state_numbered (state_in t (slot_at base (kept_before + d)))))
      → right ≡ heard_right t g (heard_slot_at base d) known → Checked kept_ahead (heard_test base t g) (ok && right) (d + 1)
  unfolding heard_test
  heard-turn c more Known-is right_is =
      checked-turn c more (right_is ∙ ap (λ (b : Bool). heard_right t g (heard_slot_at base d) b) Known-is)

-- ---- messages
module _ (t g : List ℕ) (slot m : ℕ) {ok right : Bool} {i limit size : ℕ} where
  pub message-turn : Checked messages_limit (message_laid t g slot m) ok i → i < messages_limit
      → size ≡ message_size_in t (message_slot slot i) → limit ≡ cond (ltb i m) message_limit 0
      → right ≡ (leb size limit && zeros_past g (message_slot slot i) size)
      → Checked messages_limit (message_laid t g slot m) (ok && right) (i + 1)
  unfolding message_laid
  message-turn c more size_is most right_is = checked-turn c more (rw (← most, ← size_is) right_is)

-- ---- no lengths
pub sizeless-turn : (t : List ℕ) (slot : ℕ) {ok : Bool} {i size : ℕ} → Checked messages_limit (sizeless t slot) ok i → i < messages_limit
    → size ≡ message_size_in t (message_slot slot i) → Checked messages_limit (sizeless t slot) (ok && eqb size 0) (i + 1)
unfolding sizeless
sizeless-turn t slot c more size_is = checked-turn c more (ap (λ (n : ℕ). eqb n 0) size_is)

-- ---- no octets: those of all messages in one row
pub octet-turn : (g : List ℕ) (slot : ℕ) {ok : Bool} {k : ℕ} → Checked held_octets (octet_zero g slot) ok k → k < held_octets
    → Checked held_octets (octet_zero g slot) (ok && eqb (get_or g (slot * held_octets + k) 0) 0) (k + 1)
unfolding octet_zero
octet-turn g slot c more = checked-turn c more refl

zero-there : (g : List ℕ) (slot i j : ℕ) → i < messages_limit → j < packet_limit → all_below held_octets (octet_zero g slot) ≡ true
    → eqb (get_or g (message_slot slot i * packet_limit + j) 0) 0 ≡ true
unfolding octet_zero
zero-there g slot i j low small all =
    let e : slot * held_octets + (i * packet_limit + j) ≡ message_slot slot i * packet_limit + j = omega arith in
    rw e at (all_below-at held_octets (octet_zero g slot) all (i * packet_limit + j) (omega arith))

row-empty : (g : List ℕ) (slot : ℕ) → all_below held_octets (octet_zero g slot) ≡ true → all_below messages_limit (empty_at g slot) ≡ true
unfolding empty_at zeros_past
row-empty g slot all =
    all_below-of messages_limit _
    (λ i low. all_below-of packet_limit _ (λ j small. rw (le-ltb j 0 (omega arith)) (zero-there g slot i j low small all)))

empty-row : (g : List ℕ) (slot : ℕ) → all_below messages_limit (empty_at g slot) ≡ true → all_below held_octets (octet_zero g slot) ≡ true
unfolding empty_at octet_zero
empty-row g slot all =
    all_below-of held_octets _
    (λ k below.
    let i = k / packet_limit in
    let j = k % packet_limit in
    let e : slot * held_octets + k ≡ message_slot slot (k / packet_limit) * packet_limit + k % packet_limit = omega arith in
    rw (
      e,
      zeros_past-at g (message_slot slot i) 0 j (all_below-at messages_limit (empty_at g slot) all i (omega arith)) (omega arith) (omega arith),
    ))

pub octets-done : (g : List ℕ) (slot : ℕ) {ok : Bool} {k : ℕ} → Checked held_octets (octet_zero g slot) ok k → held_octets ≤ k
    → ok ≡ all_below messages_limit (empty_at g slot)
octets-done g slot c done =
    checked-done c done
    ∙ both_ways (all_below held_octets (octet_zero g slot)) (all_below messages_limit (empty_at g slot)) (row-empty g slot) (empty-row g slot)
