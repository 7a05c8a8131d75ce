-- One law for each answer about a slot, on plain values. Assumes nothing.
use Rattle.std.proofs.Common.{◌≡◌, ℕ, ◌<◌, ◌≤◌, Bool, true, false, cond, not, ◌&&◌, ◌||◌, eqb, ltb, leb, List, sym, refl, ap, ◌∙◌, ⊎_elim, arith, le-ltb, lt-ltb, eq-eqb, ne_eqb, eqb-true, le-leb}
use borrow.Author.Tests.{lt-leb}
use Rattle.octets.specs.Place.{all_below}
use Rattle.octets.proofs.Laws.{same_or_not, and_right, all_below-at, all_below-of, all_below-ext}
use Rattle.datagram.specs.Sizes.{packet_least, packet_limit, covered_limit, message_limit, messages_limit, covered_least}
use Rattle.session_slots.specs.Store.{zeros_past}
use Rattle.session.specs.Ranges.{blank_at, size_right, note_right, mark_right}
use Rattle.session.proofs.Laws.{size_fits}
use Rattle.session_held.specs.Slots.{slots_kept, message_slot}
use Rattle.session_held.specs.Table.{last_state, state_in, size_in, mark_in, n_in, m_in, message_size_in, state_numbered}
use Rattle.session_held.specs.Laid.{message_laid}
use Rattle.session_held.proofs.Laws.{message-none}
use Rattle.session_check.specs.Pieces.{state_right, place_of_slot, state_test, packet_test, SizesFit, all_kept}
use Rattle.session_check.specs.Pieces.{marked_right, heard_right, sizeless, empty_at}

-- ---- a state with its length
-- the answer of `state_right`
abbrev state_answer : ℕ → ℕ → Bool → Bool
state_answer state size blank =
    (((eqb state 0 && not blank) || (eqb state last_state && blank)) && eqb size 0)
    || ((not (eqb state 0) && ltb state last_state) && ((leb packet_least size && leb size packet_limit) && not blank))

empty-unknown : (blank none : Bool) → (((not blank || false) && none) || false) ≡ (none && not blank)
empty-unknown true true = refl
empty-unknown true false = refl
empty-unknown false true = refl
empty-unknown false false = refl

empty-blank : (blank none : Bool) → ((blank && none) || false) ≡ (none && blank)
empty-blank true true = refl
empty-blank true false = refl
empty-blank false true = refl
empty-blank false false = refl

state-over : (state size : ℕ) (blank : Bool) → last_state < state → state_answer state size blank ≡ state_right state size blank
unfolding state_right
state-over state size blank over =
    rw (
      ne_eqb state 0 (λ e. omega arith),
      ne_eqb state last_state (λ e. omega arith),
      le-ltb state last_state (omega arith),
      lt-leb state last_state over,
    )

pub state-told : (state size : ℕ) (blank : Bool) → state_answer state size blank ≡ state_right state size blank
unfolding state_right size_right state_numbered
state-told state size blank =
    ⊎_elim (λ (e : state ≡ 0). rw e (empty-unknown blank (eqb size 0)))
    (λ (no0 : state ≡ 0 → ⊥).
    ⊎_elim (λ (e : state ≡ 1). rw e)
    (λ (no1 : state ≡ 1 → ⊥).
    ⊎_elim (λ (e : state ≡ 2). rw e)
    (λ (no2 : state ≡ 2 → ⊥).
    ⊎_elim (λ (e : state ≡ 3). rw e)
    (λ (no3 : state ≡ 3 → ⊥).
    ⊎_elim (λ (e : state ≡ last_state). rw e (empty-blank blank (eqb size 0)))
    (λ (no4 : state ≡ last_state → ⊥). state-over state size blank (omega arith))
    (same_or_not state last_state))
    (same_or_not state 3))
    (same_or_not state 2))
    (same_or_not state 1))
    (same_or_not state 0)

-- ---- a note
-- the answer of `note_right`
abbrev note_answer : ℕ → ℕ → ℕ → Bool
note_answer state note number =
    (eqb state 2 || eqb state 3) || ((eqb state 1 && eqb note number) || (not (eqb state 1) && eqb note 0))

or-false : (b : Bool) → (b || false) ≡ b
or-false true = refl
or-false false = refl

pub note-told : (state note number : ℕ) → note_answer state note number ≡ note_right (state_numbered state) note number
unfolding note_right state_numbered
note-told state note number =
    ⊎_elim (λ (e : state ≡ 1). rw e (or-false (eqb note number)))
    (λ (no1 : state ≡ 1 → ⊥).
    ⊎_elim (λ (e : state ≡ 2). rw e)
    (λ (no2 : state ≡ 2 → ⊥).
    ⊎_elim (λ (e : state ≡ 3). rw e)
    (λ (no3 : state ≡ 3 → ⊥).
    ⊎_elim (λ (e : state ≡ 0). rw e)
    (λ (no0 : state ≡ 0 → ⊥). rw (ne_eqb state 0 no0, ne_eqb state 1 no1, ne_eqb state 2 no2, ne_eqb state 3 no3))
    (same_or_not state 0))
    (same_or_not state 3))
    (same_or_not state 2))
    (same_or_not state 1)

-- ---- octets past a length
pub slot-empty : (o : List ℕ) (slot : ℕ) {size : ℕ} {right : Bool} → size ≡ 0 → right ≡ zeros_past o slot 0 → right ≡ zeros_past o slot size
slot-empty o slot none right_is = rw none right_is

-- a state that was found right has a size that a slot holds
pub size-right : (state size : ℕ) (blank : Bool) {right : Bool} → right ≡ state_right state size blank → right ≡ true → size ≤ packet_limit
unfolding state_right
size-right state size blank so passed =
    size_fits (state_numbered state) size blank
    (and_right (leb state last_state) (size_right (state_numbered state) size blank) (sym so ∙ passed))

-- ---- all kept numbers
module _ (base total : ℕ) (t o : List ℕ) {test : Bool} (so : test ≡ all_below slots_kept (state_test base total t)) where
  -- states that were found right have sizes that a slot holds
  pub sizes-right : test ≡ true → SizesFit t
  unfolding state_test
  sizes-right passed i low =
      size-right (state_in t i) (size_in t i) (blank_at total (place_of_slot base i)) refl
      (all_below-at slots_kept (state_test base total t) (sym so ∙ passed) i low)

  pub kept-passed : {right : Bool} → test ≡ true → right ≡ all_below slots_kept (packet_test t o) → right ≡ all_kept base total t o
  unfolding all_kept
  kept-passed passed right_is = rw (← so, passed) right_is

  pub kept-failed : test ≡ false → false ≡ all_kept base total t o
  unfolding all_kept
  kept-failed failed = rw (← so, failed)

-- ---- a mark, with n and m
module _ (mark : ℕ) (known : Bool) (n m : ℕ) where
  pub mark-alone : mark ≡ 1 → m ≡ 0 → (known && eqb n 0) ≡ marked_right mark known n m
  unfolding marked_right mark_right
  mark-alone marked empty = rw (marked, empty)

  pub mark-messages : mark ≡ 1 → (m ≡ 0 → ⊥)
      → (known && ((leb covered_least n && leb n covered_limit) && leb m messages_limit)) ≡ marked_right mark known n m
  unfolding marked_right mark_right
  mark-messages marked some = rw (marked, ne_eqb m 0 some)

  bare : (empty : Bool)
      → (empty && eqb n 0) ≡ (empty && cond empty (eqb n 0) ((leb covered_least n && leb n covered_limit) && leb m messages_limit))
  bare true = refl
  bare false = refl

  pub mark-none : (mark ≡ 1 → ⊥) → (eqb mark 0 && (eqb m 0 && eqb n 0)) ≡ marked_right mark known n m
  unfolding marked_right mark_right
  mark-none other =
      ⊎_elim (λ (e : mark ≡ 0). rw e (bare (eqb m 0))) (λ some. rw (ne_eqb mark 0 some, lt-leb mark 1 (omega arith))) (same_or_not mark 0)

-- the laws of `mark_right`'s answers
pub ruleset marks = (mark-alone, mark-messages, mark-none)

-- ---- messages
pub most-inside : {i m : ℕ} → i < m → message_limit ≡ cond (ltb i m) message_limit 0
most-inside {i} {m} inside = rw (lt-ltb i m inside)

pub most-past : {i m : ℕ} → m ≤ i → 0 ≡ cond (ltb i m) message_limit 0
most-past {i} {m} past = rw (le-ltb i m past)

pub most-few : (i m : ℕ) {limit : ℕ} → limit ≡ cond (ltb i m) message_limit 0 → limit ≤ message_limit
most-few i m e = rw e (pick (ltb i m)) where
  pick : (b : Bool) → cond b message_limit 0 ≤ message_limit
  pick true = omega arith
  pick false = omega arith

pub long-failed : {size limit : ℕ} (b : Bool) → limit < size → false ≡ (leb size limit && b)
long-failed {size} {limit} b long = rw (lt-leb size limit long)

pub short-passed : {size limit : ℕ} {b right : Bool} → size ≤ limit → right ≡ b → right ≡ (leb size limit && b)
short-passed {size} {limit} short same = rw (le-leb size limit short) same

-- ---- no messages: no lengths, and zeros in the slots of all
laid-empty : (t g : List ℕ) (slot i : ℕ) → sizeless t slot i ≡ true → empty_at g slot i ≡ message_laid t g slot 0 i
unfolding sizeless empty_at message_laid
laid-empty t g slot i e =
    rw (eqb-true (message_size_in t (message_slot slot i)) 0 e, le-ltb i 0 (omega arith))

pub none_passed : (t g : List ℕ) (slot : ℕ) {test right : Bool} → test ≡ all_below messages_limit (sizeless t slot) → test ≡ true
    → right ≡ all_below messages_limit (empty_at g slot) → right ≡ all_below messages_limit (message_laid t g slot 0)
none_passed t g slot so passed right_is =
    right_is
    ∙ all_below-ext messages_limit (empty_at g slot) (message_laid t g slot 0)
    (λ i low. laid-empty t g slot i (all_below-at messages_limit (sizeless t slot) (sym so ∙ passed) i low))

laid-sizeless : (t g : List ℕ) (slot i : ℕ) → message_laid t g slot 0 i ≡ true → sizeless t slot i ≡ true
unfolding sizeless
laid-sizeless t g slot i e =
    eq-eqb (message_size_in t (message_slot slot i)) 0 (message-none t g slot 0 i e (omega arith))

not-both : (a b : Bool) → (b ≡ true → a ≡ true) → a ≡ false → false ≡ b
not-both a true f e = sym e ∙ f refl
not-both a false f e = refl

pub none-failed : (t g : List ℕ) (slot : ℕ) {test : Bool} → test ≡ all_below messages_limit (sizeless t slot) → test ≡ false
    → false ≡ all_below messages_limit (message_laid t g slot 0)
none-failed t g slot so failed =
    not-both (all_below messages_limit (sizeless t slot)) (all_below messages_limit (message_laid t g slot 0))
    (λ all.
    all_below-of messages_limit (sizeless t slot)
    (λ i low. laid-sizeless t g slot i (all_below-at messages_limit (message_laid t g slot 0) all i low)))
    (sym so ∙ failed)

-- ---- a number from the base on in its slot
module _ (t g : List ℕ) (j : ℕ) (known : Bool) {mark n m : ℕ} {test : Bool} (mark-is : mark ≡ mark_in t j) (n-is : n ≡ n_in t j)
    (m-is : m ≡ m_in t j) (so : test ≡ marked_right mark known n m) where
  pub heard-some : {right : Bool} → test ≡ true → right ≡ all_below messages_limit (message_laid t g j m) → right ≡ heard_right t g j known
  unfolding heard_right
  heard-some passed right_is = rw (← m-is, ← n-is, ← mark-is, ← so, passed) right_is

  pub heard-none : {right : Bool} → test ≡ true → m ≡ 0 → right ≡ all_below messages_limit (message_laid t g j 0)
      → right ≡ heard_right t g j known
  heard-none passed none right_is =
      heard-some passed (right_is ∙ ap (λ (k : ℕ). all_below messages_limit (message_laid t g j k)) (sym none))

  pub heard-failed : test ≡ false → false ≡ heard_right t g j known
  unfolding heard_right
  heard-failed failed = rw (← m-is, ← n-is, ← mark-is, ← so, failed)

pub ruleset heards = (heard-none, heard-some, heard-failed)
