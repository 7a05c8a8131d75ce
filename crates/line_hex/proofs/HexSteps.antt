-- The loops over digits on plain values, and one law for each answer of `hex_to_octets`. Assumes nothing.
use Rattle.std.proofs.Common.{◌≡◌, ℕ, ◌+◌, ◌*◌, ◌/◌, ◌%◌, ◌<◌, ◌≤◌, Bool, true, false, ◌&&◌, ltb, List, [], ◌∷◌, ◌++◌, length, get_or, take, drop, set, sym, refl, ap, ◌∙◌, ap₂, append_assoc, mod-eq_of_lt, add-one, arith, length-set, take-suc, ltb-true, le-ltb, lt-ltb, eq-eqb, ne_eqb, Ok, Err}
use lib.Seq.{take-length}
use Rattle.octets.specs.Place.{all_below}
use Rattle.octets.proofs.Laws.{all_below-more, all_below-at, tab-at}
use Rattle.length.specs.Refusals.{too_long, wrong_settings, no_room}
use Rattle.length.specs.Answers.{done}
use Rattle.length.specs.Tables.{unless}
use Rattle.length.specs.Promise.{Put, Puts, RefusalMade}
use Rattle.length.specs.declared.Refusal.{Refusal}
use Rattle.length.proofs.Laws.{put-none, put-turn, put_all, put-puts, full-puts}
use Rattle.line.specs.Hex.{line_limit, digit_of, digit_for, no_digit, all_digits, pair_at, octets_in, line_octets, hex_of}
use Rattle.line.specs.Promise.{Appends}
use Rattle.line.proofs.Laws.{appends-none, appends-one, appends-long, length-octets_in}

-- ---- every character is a digit
abbrev digit_at : List ℕ → ℕ → Bool
digit_at line k = ltb (digit_of (get_or line k 0)) no_digit

-- the first i characters are told
pub record Told (line : List ℕ) (all : Bool) (i : ℕ) : Type 0 where
  pub so : all ≡ all_below i (digit_at line)
  pub few : i ≤ length line

pub told-start : (line : List ℕ) → Told line true 0
unfolding all_below
told-start line = record { so = refl; few = omega arith }

pub told-turn : {line : List ℕ} {all so : Bool} {i : ℕ} → Told line all i → i < length line → so ≡ ltb (digit_of (get_or line i 0)) no_digit
    → Told line (all && so) (i + 1)
told-turn {line} {all} {so} {i} t more e =
    record { so = ap₂ (λ (a b : Bool). a && b) t.so e ∙ sym (all_below-more i (digit_at line)); few = omega arith }

pub told-done : {line : List ℕ} {all : Bool} {i : ℕ} → Told line all i → length line ≤ i → all ≡ all_digits line
unfolding all_digits
told-done {line} {all} {i} t whole = t.so ∙ ap (λ (k : ℕ). all_below k (digit_at line)) (omega (arith, t.few))

pub digit-small : (line : List ℕ) (k : ℕ) → all_digits line ≡ true → k < length line → digit_of (get_or line k 0) < 16
unfolding all_digits
digit-small line k all below = ltb-true _ 16 (all_below-at (length line) (digit_at line) all k below)

-- ---- octets of paired digits
pub octets_in-at : (line : List ℕ) (i : ℕ) → i < length line / 2 → get_or (octets_in line) i 0 ≡ pair_at line i
unfolding octets_in
octets_in-at line i below = tab-at (length line / 2) (pair_at line) i 0 below

-- the first i octets stand at the front
pub record Paired (line old new : List ℕ) (i : ℕ) : Type 0 where
  pub put : Put (take i (octets_in line)) old new i
  pub few : i ≤ length line / 2
  pub long : length new ≡ length old

pub paired-start : (line old : List ℕ) → Paired line old old 0
paired-start line old = record { put = put-none; few = omega arith; long = refl }

pub paired-turn : {line old new : List ℕ} {i high low : ℕ} → Paired line old new i → i < length line / 2 → length line / 2 ≤ length old
    → all_digits line ≡ true → high ≡ digit_of (get_or line (2 * i) 0) → low ≡ digit_of (get_or line (2 * i + 1) 0)
    → Paired line old (set new i (high % 16 * 16 + low % 16)) (i + 1)
paired-turn {line} {old} {new} {i} {high} {low} p more room all h l =
    let hs : high < 16 = rw h (digit-small line (2 * i) all (omega arith)) in
    let ls : low < 16 = rw l (digit-small line (2 * i + 1) all (omega arith)) in
    let value : high % 16 * 16 + low % 16 ≡ get_or (octets_in line) i 0 =
    ap₂ (λ (a b : ℕ). a * 16 + b) (mod-eq_of_lt hs ∙ h) (mod-eq_of_lt ls ∙ l) ∙ sym (octets_in-at line i more) in
    record {
      put = rw value (put-turn (octets_in line) p.put (omega (arith, length-octets_in line)) (omega arith));
      few = omega arith;
      long = length-set new i _ ∙ p.long;
    }

pub paired-done : {line old new : List ℕ} {i : ℕ} → Paired line old new i → length line / 2 ≤ i
    → new ≡ octets_in line ++ drop (length line / 2) old
paired-done {line} {old} {new} {i} p whole =
    let long = length-octets_in line in
    (put_all p.put (omega arith)).lent ∙ ap (λ (k : ℕ). octets_in line ++ drop k old) long

-- ---- the answers of hex_to_octets
digits-read : (line : List ℕ) {all : Bool} → length line ≤ line_limit → length line % 2 ≡ 0 → all ≡ all_digits line → all ≡ true
    → line_octets line ≡ done (octets_in line)
unfolding line_octets unless
digits-read line short even told passed =
    let every : all_digits line ≡ true = sym told ∙ passed in
    rw (le-ltb line_limit (length line) short, eq-eqb (length line % 2) 0 even, every)

module _ (line : List ℕ) {old : List ℕ} where
  pub octets-long : {r : Refusal} → RefusalMade too_long r → line_limit < length line → Puts (line_octets line) old old (Err r)
  unfolding line_octets unless
  octets-long made long =
      record { answer = rw (made.answer, lt-ltb line_limit (length line) long); lent = rw (lt-ltb line_limit (length line) long) }

  pub octets-odd : {r : Refusal} → RefusalMade wrong_settings r → length line ≤ line_limit → (length line % 2 ≡ 0 → ⊥)
      → Puts (line_octets line) old old (Err r)
  unfolding line_octets unless
  octets-odd made short odd =
      record {
        answer = rw (made.answer, le-ltb line_limit (length line) short, ne_eqb (length line % 2) 0 odd);
        lent = rw (le-ltb line_limit (length line) short, ne_eqb (length line % 2) 0 odd);
      }

  pub octets-undigit : {r : Refusal} {all : Bool} → RefusalMade wrong_settings r → length line ≤ line_limit → length line % 2 ≡ 0
      → all ≡ all_digits line → all ≡ false → Puts (line_octets line) old old (Err r)
  unfolding line_octets unless
  octets-undigit made short even told not =
      let none : all_digits line ≡ false = sym told ∙ not in
      record {
        answer = rw (made.answer, le-ltb line_limit (length line) short, eq-eqb (length line % 2) 0 even, none);
        lent = rw (le-ltb line_limit (length line) short, eq-eqb (length line % 2) 0 even, none);
      }

  pub octets-full : {r : Refusal} {all : Bool} → RefusalMade no_room r → length line ≤ line_limit → length line % 2 ≡ 0
      → all ≡ all_digits line → all ≡ true → length old < length line / 2 → Puts (line_octets line) old old (Err r)
  octets-full made short even told passed full =
      let long = length-octets_in line in
      rw (digits-read line short even told passed) (full-puts made (omega arith))

  pub octets-read : {all : Bool} {new : List ℕ} → length line ≤ line_limit → length line % 2 ≡ 0
      → all ≡ all_digits line → all ≡ true → length line / 2 ≤ length old → new ≡ octets_in line ++ drop (length line / 2) old
      → Puts (line_octets line) old new (Ok (length line / 2))
  octets-read short even told passed room read =
      let long = length-octets_in line in
      let front = read ∙ ap (λ (k : ℕ). octets_in line ++ drop k old) (sym long) in
      rw (digits-read line short even told passed) (put-puts (record { inside = omega arith; answer = sym long; lent = front }))

-- the laws of `hex_to_octets`'s answers
pub ruleset linings = (octets-long, octets-odd, octets-undigit, octets-full, octets-read)

-- ---- digits written
pub hex_of-append : (a b : List ℕ) → hex_of (a ++ b) ≡ hex_of a ++ hex_of b
unfolding hex_of
hex_of-append [] b = refl
hex_of-append (x ∷ a) b = ap (λ (l : List ℕ). digit_for (x / 16) ∷ digit_for (x % 16) ∷ l) (hex_of-append a b)

-- the first i octets are written
pub record Hexed (octets old : List ℕ) (at : ℕ) (new : List ℕ) (i : ℕ) : Type 0 where
  pub laid : Appends (hex_of (take i octets)) old at new (at + 2 * i)
  pub few : i ≤ length octets
  pub long : length new ≡ length old

pub hexed-start : {octets old : List ℕ} {at : ℕ} → at + 2 * length octets ≤ length old → Hexed octets old at old 0
unfolding hex_of
hexed-start {octets} {old} {at} room =
    let e : at + 2 * 0 ≡ at = omega arith in
    record { laid = rw e (appends-none (omega arith)); few = omega arith; long = refl }

pub hexed-turn : {octets old : List ℕ} {at : ℕ} {new : List ℕ} {i high low : ℕ} → Hexed octets old at new i → i < length octets
    → at + 2 * length octets ≤ length old → high ≡ digit_for (get_or octets i 0 / 16) → low ≡ digit_for (get_or octets i 0 % 16)
    → Hexed octets old at (set (set new (at + 2 * i) high) (at + 2 * i + 1) low) (i + 1)
unfolding hex_of
hexed-turn {octets} {old} {at} {new} {i} {high} {low} x more room h l =
    let one = appends-one x.laid high (omega arith) in
    let two = appends-one one low (omega arith) in
    let place : at + 2 * i + 1 + 1 ≡ at + 2 * (i + 1) = omega arith in
    let text : hex_of (take i octets) ++ (high ∷ []) ++ (low ∷ []) ≡ hex_of (take (i + 1) octets) =
    append_assoc (hex_of (take i octets)) (high ∷ []) (low ∷ [])
    ∙ ap₂ (λ (a b : ℕ). hex_of (take i octets) ++ (a ∷ b ∷ [])) h l
    ∙ sym (hex_of-append (take i octets) (get_or octets i 0 ∷ []))
    ∙ ap hex_of (sym (take-suc octets i 0 more))
    ∙ ap (λ (k : ℕ). hex_of (take k octets)) (sym (add-one i)) in
    record { laid = rw (text, place) at two; few = omega arith; long = appends-long two }

pub hexed-done : {octets old : List ℕ} {at : ℕ} {new : List ℕ} {i : ℕ} → Hexed octets old at new i → length octets ≤ i
    → Appends (hex_of octets) old at new (at + 2 * length octets)
hexed-done {octets} {old} {at} {new} {i} x whole =
    let all : i ≡ length octets = omega (arith, x.few) in
    rw (all, take-length octets) at x.laid

-- every character is a digit, as a call told
pub digits-told : (line : List ℕ) {all : Bool} → all ≡ all_digits line → all ≡ true → all_digits line ≡ true
digits-told line told passed = sym told ∙ passed
