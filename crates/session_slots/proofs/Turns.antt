-- What the loops of this crate keep true, and what becomes of a slot as a run, on plain values. Assumes nothing.
use Prim.Native.Nat.{ℕ, ◌+◌, ◌-◌, ◌*◌, ◌%◌, ◌^◌, ◌≤◌, ◌<◌}
use mathlib.Core.Path.{◌≡◌, refl, sym, ap, ap₂, ◌∙◌}
use mathlib.Core.Bool.{Bool, true, ◌&&◌, ◌||◌}
use mathlib.Core.List.{List, ◌++◌, append_assoc}
use mathlib.Core.Logic.{⊎_elim}
use lib.ListN.{length, get_or, take, drop}
use lib.ListN.{length-drop}
use lib.Seq.{get_or-drop, get_or-take, drop-drop, length-take-le, take-length}
use lib.Bits.{bit_and, bit_xor, and_zero_r, and_mask}
use lib.Dec.{ltb, eqb}
use native.Mathlib.Omega.{arith}
use borrow.Author.Tests.{lt-ltb, le-ltb}
use borrow.Rule.Slice.PartMut.{mid_of, put_mid}
use Rattle.octets.specs.Place.{all_below}
use Rattle.octets.proofs.Laws.{all_below-more, all_below-ext, tab-ext, below_or_not}
use Rattle.octets.specs.Words.{both}
use Rattle.datagram.specs.Sizes.{packet_limit}
use Rattle.session_slots.specs.Store.{pasted, zeros, zeros_from, zeros_past, mask_over, mask, part, added, HasSlot}
use Rattle.session_slots.proofs.Laws.{length-zeros, length-mask, mask_low, mask-high}

-- ---- the zero check: the first j octets of a run are right
abbrev pub right : List ℕ → ℕ → ℕ → Bool
right run n j = ltb j n || eqb (get_or run j 0) 0

pub record Checked (run : List ℕ) (n : ℕ) (ok : Bool) (j : ℕ) : Type 0 where
  pub so : ok ≡ all_below j (right run n)
  pub few : j ≤ length run

pub checked-start : (run : List ℕ) (n : ℕ) → Checked run n true 0
unfolding all_below
checked-start run n = record { so = refl; few = omega arith }

pub checked-done : {run : List ℕ} {n : ℕ} {ok : Bool} {j : ℕ} → Checked run n ok j → length run ≤ j → ok ≡ zeros_from run n
unfolding zeros_from
checked-done {run} {n} c done = c.so ∙ ap (λ (k : ℕ). all_below k (right run n)) (omega (arith, c.few))

-- one octet more, found right or not
checked-more : {run : List ℕ} {n : ℕ} {ok : Bool} {j : ℕ} → Checked run n ok j → j < length run → (found : Bool) → found ≡ right run n j
    → Checked run n (ok && found) (j + 1)
checked-more {run} {n} {ok} {j} c more found e =
    record { so = ap₂ (λ (a b : Bool). a && b) c.so e ∙ sym (all_below-more j (right run n)); few = omega arith }

-- past no octet at all: each must be zero
pub zero_turn : {run : List ℕ} {ok : Bool} {j : ℕ} → Checked run 0 ok j → j < length run
    → Checked run 0 (ok && eqb (get_or run j 0) 0) (j + 1)
zero_turn {run} {ok} {j} c more =
    checked-more c more (eqb (get_or run j 0) 0) (ap (λ (b : Bool). b || eqb (get_or run j 0) 0) (sym (le-ltb j 0 (omega arith))))

-- below n the mask lets any octet pass, from n on only zero
passes : (x limit n j : ℕ) → x < 256 → n ≤ limit → j < limit
    → eqb (bit_and x (get_or (mask_over limit) (limit - n + j) 0)) 0 ≡ (ltb j n || eqb x 0)
passes x limit n j octet fits more = ⊎_elim low high (below_or_not j n) where
  low : j < n → eqb (bit_and x (get_or (mask_over limit) (limit - n + j) 0)) 0 ≡ (ltb j n || eqb x 0)
  low below = rw (mask_low limit (limit - n + j) (omega arith), lt-ltb j n below, and_zero_r x)

  high : n ≤ j → eqb (bit_and x (get_or (mask_over limit) (limit - n + j) 0)) 0 ≡ (ltb j n || eqb x 0)
  high past =
      let e : limit - n + j ≡ limit + (j - n) = omega arith in
      let same : x % 2 ^ 8 ≡ x = omega arith in
      rw (e, mask-high limit (j - n) (omega arith), le-ltb j n past, and_mask x 8, same)

pub checked-turn : {run table : List ℕ} {n : ℕ} {ok : Bool} {j : ℕ} → Checked run n ok j → j < length run → n ≤ length run
    → table ≡ mask_over (length run) → get_or run j 0 < 256
    → Checked run n (ok && eqb (bit_and (get_or run j 0) (get_or table (length run - n + j) 0)) 0) (j + 1)
checked-turn {run} {table} {n} {ok} {j} c more fits e octet =
    checked-more c more (eqb (bit_and (get_or run j 0) (get_or table (length run - n + j) 0)) 0)
    (ap (λ (t : List ℕ). eqb (bit_and (get_or run j 0) (get_or t (length run - n + j) 0)) 0) e
    ∙ passes (get_or run j 0) (length run) n j octet fits more)

pub table-inside : (run : List ℕ) {table : List ℕ} (n j : ℕ) → table ≡ mask_over (length run) → n ≤ length run → j < length run
    → length run - n + j < length table
table-inside run n j e fits more = rw (e, length-mask (length run)) (omega arith)

-- ---- a slot as a run, from where it starts to where it ends
abbrev pub width : ℕ → ℕ
width slot = slot * packet_limit + packet_limit - slot * packet_limit

abbrev pub run_of : List ℕ → ℕ → List ℕ
run_of o slot = mid_of (slot * packet_limit) (width slot) o

width_is : (slot : ℕ) → width slot ≡ packet_limit
width_is slot = omega arith

pub length_run : (o : List ℕ) (slot : ℕ) → HasSlot slot o → length (run_of o slot) ≡ packet_limit
length_run o slot has = length-take-le (width slot) (drop (slot * packet_limit) o) (simp length-drop (omega arith)) ∙ width_is slot

-- cleared, in its store
pub slot-cleared : (o : List ℕ) (slot : ℕ) {run : List ℕ} → HasSlot slot o → run ≡ zeros (length (run_of o slot))
    → put_mid (slot * packet_limit) (width slot) o run ≡ pasted o slot (zeros packet_limit)
unfolding pasted
slot-cleared o slot {run} has told =
    ap₂ (λ (a b : List ℕ). take (slot * packet_limit) o ++ (a ++ b))
    (told ∙ ap zeros (length_run o slot has) ∙ sym (take-length (zeros packet_limit)))
    (drop-drop (width slot) (slot * packet_limit) o
    ∙ ap (λ (k : ℕ). drop (slot * packet_limit + k) o) (width_is slot ∙ sym (length-zeros packet_limit)))
    ∙ sym (append_assoc (take (slot * packet_limit) o) _ _)

-- checked
pub slot-checked : (o : List ℕ) (slot n : ℕ) {r : Bool} → HasSlot slot o → r ≡ zeros_from (run_of o slot) n → r ≡ zeros_past o slot n
unfolding zeros_from zeros_past
slot-checked o slot n {r} has told =
    told
    ∙ ap (λ (m : ℕ). all_below m (right (run_of o slot) n)) (length_run o slot has)
    ∙ all_below-ext packet_limit _ _
    (λ j small.
    ap (λ (x : ℕ). ltb j n || eqb x 0)
    (get_or-take (width slot) (drop (slot * packet_limit) o) j 0 (omega arith) ∙ get_or-drop (slot * packet_limit) o j 0))

pub slot-mask : (o : List ℕ) (slot : ℕ) {table : List ℕ} → HasSlot slot o → table ≡ mask → table ≡ mask_over (length (run_of o slot))
unfolding mask
slot-mask o slot has is = is ∙ ap mask_over (sym (length_run o slot has))

-- ---- copying the part of a slot to the front of a buffer
pub part-copied : (o : List ℕ) (slot n : ℕ) (out : List ℕ) {new : List ℕ}
    → new ≡ mid_of (slot * packet_limit) (slot * packet_limit + n - slot * packet_limit) o → new ++ drop n out ≡ part o slot n ++ drop n out
unfolding part
part-copied o slot n out told =
    let e : slot * packet_limit + n - slot * packet_limit ≡ n = omega arith in
    ap (λ (l : List ℕ). l ++ drop n out) (told ∙ ap (λ (k : ℕ). mid_of (slot * packet_limit) k o) e)

-- ---- adding a slot: as many of its octets as the sum has
pub slot_added : (o : List ℕ) (slot : ℕ) (sum : List ℕ) {new : List ℕ}
    → new ≡ both (mid_of (slot * packet_limit) (slot * packet_limit + length sum - slot * packet_limit) o) sum → new ≡ added sum o slot
unfolding both added
slot_added o slot sum told =
    told
    ∙ tab-ext (length sum) _ _
    (λ j below.
    ap (bit_xor (get_or sum j 0))
    (get_or-take (slot * packet_limit + length sum - slot * packet_limit) (drop (slot * packet_limit) o) j 0 (omega arith)
    ∙ get_or-drop (slot * packet_limit) o j 0))
