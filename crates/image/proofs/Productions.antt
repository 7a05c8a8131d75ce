-- The first line of an image, and the line of a number: each production of the layout is lawful, and what may stand in it said in plain
-- numbers. Assumes nothing.
use Prim.Native.Nat.{ℕ, zero, suc, ◌^◌, ◌≤◌, ◌<◌}
use mathlib.Core.Path.{◌≡◌, refl, sym, ap, ap₂, ◌∙◌}
use mathlib.Core.Bool.{Bool, true, false}
use mathlib.Core.List.{List, [], ◌∷◌}
use lib.ListN.{length, get_or}
use lib.Dec.{leb, ltb, eqb}
use native.Mathlib.Omega.{arith}
use borrow.Author.Tests.{le-leb, leb-true, eqb-true, ltb-true, ltb-false}
use Rattle.octets.specs.Place.{all_below}
use Rattle.octets.proofs.Laws.{all_below-at}
use Rattle.datagram.specs.Sizes.{covered_limit, messages_limit}
use Rattle.datagram.specs.Write.{item_octets}
use Rattle.format.specs.Format.{flag_bit, sequence_fits, sequence_of}
use Rattle.session.specs.Cells.{State, unknown, received, spare, repaired, blank}
use Rattle.session.specs.Held.{Held, nothing_held}
use Rattle.session_held.specs.Table.{last_state, state_numbered}
use Rattle.image.specs.Parts.{high_first_octets, Sendable, item_to}
use Rattle.image.specs.Layout.{ImageVersion, first_from, first_items, first_image_line, Number, number_from, number_items, from_base}
use Rattle.image.specs.Layout.{state_number, state, accepted, messages, number_line}
use Rattle.image.specs.Octets.{in_row, first_image_octets, messages_octets, line_octets_of}
use Rattle.image.proofs.Plain.{Plain, plain_row, plain_then, plain-made}
use Rattle.image.proofs.Numbers.{plain-number, plain-octet-to, plain-octet-is, plain-item}

-- ---- the first line
pub plain-first : (version : ImageVersion) → Plain (first_image_line version) (first_image_octets version.octet)
unfolding first_image_line
plain-first version =
    plain-made first_from (first_items version.octet)
    (λ x p fits. ap (λ (o : ℕ). (o, x.1)) (sym (eqb-true x.0 version.octet fits.0.1)))
    (plain_then (λ _. _) _ (plain-octet-is version.octet)
    (λ _. plain_then (λ _. _) _ (plain-number 2)
    (λ _. plain_then (λ _. _) _ (plain-number 4)
    (λ _. plain_then (λ _. _) _ (plain-number 4) (λ _. plain_then (λ _. _) _ (plain-number 4) (λ _. plain-number 4))))))

-- ---- the items of a number's line
abbrev state_back : ℕ → Bool
state_back n = eqb (state_number (state_numbered n)) n

all-states : all_below 5 state_back ≡ true
unfolding all_below state_numbered
all-states = refl

plain-state : Plain state (λ s. high_first_octets 1 (state_number s))
unfolding state
plain-state =
    plain-made state_numbered state_number
    (λ n p fits.
    let few = leb-true n last_state fits.1 in
    eqb-true (state_number (state_numbered n)) n (all_below-at 5 state_back all-states n (omega arith)))
    (plain-octet-to last_state)

bit-back : (n : ℕ) → n ≤ 1 → flag_bit (ltb 0 n) ≡ n
bit-back n few = by (ltb 0 n) refl where
  by : (b : Bool) → ltb 0 n ≡ b → flag_bit b ≡ n
  by true e = omega (arith, ltb-true 0 n e)
  by false e = omega (arith, ltb-false 0 n e)

most-one : (ahead : Bool) (n : ℕ) → n ≤ from_base ahead 1 → n ≤ 1
most-one true n few = few
most-one false n few = omega arith

plain-accepted : (ahead : Bool) → Plain (accepted ahead) (λ b. high_first_octets 1 (flag_bit b))
unfolding accepted
plain-accepted ahead =
    plain-made (λ n. ltb 0 n) flag_bit
    (λ n p fits. bit-back n (most-one ahead n (leb-true n (from_base ahead 1) fits.1)))
    (plain-octet-to (from_base ahead 1))

plain-messages : (limit : ℕ) (ahead : Bool) → Plain (messages limit ahead) messages_octets
unfolding messages
plain-messages limit ahead =
    plain-made (λ x. x.1) (λ items. (length items, items))
    (λ x p fits. ap (λ (m : ℕ). (m, x.1)) fits.1.1)
    (plain_then (λ m. sequence_of m (item_to limit)) (λ m. in_row item_octets) (plain-octet-to (from_base ahead messages_limit))
    (λ m. plain_row m (plain-item limit)))

-- ---- the line of a number
pub plain-number-line : (limit : ℕ) (ahead : Bool) → Plain (number_line limit ahead) line_octets_of
unfolding number_line
plain-number-line limit ahead =
    plain-made number_from number_items (λ x p fits. refl)
    (plain_then (λ _. _) _ plain-state
    (λ _. plain_then (λ _. _) _ (plain-accepted ahead)
    (λ _. plain_then (λ _. _) _ (plain-number 2)
    (λ _. plain_then (λ _. _) _ (plain-item limit)
    (λ _. plain_then (λ _. _) _ (plain-octet-to (from_base ahead covered_limit)) (λ _. plain-messages limit ahead))))))

-- ---- what may stand there
pub record NumberFits (limit : ℕ) (ahead : Bool) (k : Number) : Type 0 where
  pub accepted : flag_bit k.held.accepted ≤ from_base ahead 1
  pub note : k.cell.note < 256 ^ 2
  pub packet : Sendable limit k.cell.octets
  pub covered : k.held.n ≤ from_base ahead covered_limit
  pub few : length k.held.messages ≤ from_base ahead messages_limit
  pub message : (i : ℕ) → i < length k.held.messages → Sendable limit (get_or k.held.messages i [])

state-fits : (s : State) → ((state_number s < 256 ^ 1) × (leb (state_number s) last_state ≡ true)) × (state_numbered (state_number s) ≡ s)
unfolding state_numbered
state-fits unknown = ((omega arith, refl), refl)
state-fits received = ((omega arith, refl), refl)
state-fits spare = ((omega arith, refl), refl)
state-fits repaired = ((omega arith, refl), refl)
state-fits blank = ((omega arith, refl), refl)

bit-fits : (b : Bool) → (flag_bit b < 256 ^ 1) × (ltb 0 (flag_bit b) ≡ b)
bit-fits true = (omega arith, refl)
bit-fits false = (omega arith, refl)

base-most : (ahead : Bool) (most : ℕ) → from_base ahead most ≤ most
base-most true most = omega arith
base-most false most = omega arith

-- each of so many
pub items-fit : (limit : ℕ) (items : List (List ℕ)) (p : ℕ) → ((i : ℕ) → i < length items → Sendable limit (get_or items i []))
    → sequence_fits (item_to limit) items p
unfolding sequence_fits
items-fit limit [] p each = tt
items-fit limit (x ∷ items) p each =
    (each 0 (omega arith), items-fit limit items _ (λ i below. each (suc i) (omega arith)))

pub fit-items : (limit : ℕ) (items : List (List ℕ)) (p : ℕ) → sequence_fits (item_to limit) items p
    → (i : ℕ) → i < length items → Sendable limit (get_or items i [])
unfolding sequence_fits
fit-items limit [] p fits i below = absurd (omega arith)
fit-items limit (x ∷ items) p fits zero below = fits.0
fit-items limit (x ∷ items) p fits (suc i) below = fit-items limit items _ fits.1 i (omega arith)

pub number_fits : (limit : ℕ) (ahead : Bool) (k : Number) → NumberFits limit ahead k → (number_line limit ahead).fits k 0
unfolding number_line state accepted messages
number_fits limit ahead k x =
    let one : k.held.n < 256 ^ 1 = omega (arith, x.covered, base-most ahead covered_limit) in
    let few : length k.held.messages < 256 ^ 1 = omega (arith, x.few, base-most ahead messages_limit) in (
      (
        state-fits k.cell.state,
        (
          (((bit-fits k.held.accepted).0, le-leb _ _ x.accepted), (bit-fits k.held.accepted).1),
          (
            x.note,
            (
              x.packet,
              (
                (one, le-leb _ _ x.covered),
                (((few, le-leb _ _ x.few), (items-fit limit k.held.messages _ x.message, refl)), refl),
              ),
            ),
          ),
        ),
      ),
      refl,
    )

pub fits-number : (limit : ℕ) (ahead : Bool) (k : Number) → (number_line limit ahead).fits k 0 → NumberFits limit ahead k
unfolding number_line state accepted messages
fits-number limit ahead k fits =
    let rest = fits.0.1 in
    record {
      accepted = leb-true _ _ rest.0.0.1;
      note = rest.1.0;
      packet = rest.1.1.0;
      covered = leb-true _ _ rest.1.1.1.0.1;
      few = leb-true _ _ rest.1.1.1.1.0.0.1;
      message = fit-items limit k.held.messages _ rest.1.1.1.1.0.1.0;
    }

-- before the base nothing is held
none-held : (h : Held) → flag_bit h.accepted ≤ 0 → h.n ≤ 0 → length h.messages ≤ 0 → h ≡ nothing_held
none-held h flag n few =
    ap₂ (λ (b : Bool) (m : ℕ). record { accepted = b; n = m; messages = h.messages }) (no h.accepted flag) (none n)
    ∙ ap (λ (l : List (List ℕ)). record { accepted = false; n = 0; messages = l }) (empty h.messages few) where
      no : (b : Bool) → flag_bit b ≤ 0 → b ≡ false
      no true e = absurd (omega arith)
      no false e = refl

      none : {x : ℕ} → x ≤ 0 → x ≡ 0
      none e = omega arith

      empty : (l : List (List ℕ)) → length l ≤ 0 → l ≡ []
      empty [] e = refl
      empty (x ∷ l) e = absurd (omega arith)

pub nothing-held : (limit : ℕ) (k : Number) → NumberFits limit false k → k.held ≡ nothing_held
nothing-held limit k x = none-held k.held x.accepted x.covered x.few
