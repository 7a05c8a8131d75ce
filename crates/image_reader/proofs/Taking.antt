-- The line at the front of a text, found by the run of upper-case digits there: one law for each answer of `take_line`. Assumes nothing.
use Rattle.std.proofs.Common.{◌≡◌, ℕ, zero, suc, ◌+◌, ◌/◌, ◌%◌, ◌<◌, ◌≤◌, Bool, true, false, cond, eqb, ltb, List, [], ◌∷◌, ◌++◌, Option, Some, None, length, get_or, take, drop, sym, refl, ap, ◌∙◌, ⊎_elim, arith, length-take-le, get_or-take, eq-eqb, ne_eqb}
use Rattle.octets.proofs.Laws.{all_below-of, and_both, below_or_not}
use Rattle.length.specs.Claims.{Octets}
use Rattle.line.specs.Hex.{digit_of, no_digit, all_digits, octets_in}
use Rattle.line.specs.Lines.{line_feed}
use Rattle.line.proofs.Laws.{length-octets_in}
use Rattle.image.specs.Parts.{line_at, upper_digit, upper_pairs}
use Rattle.image.proofs.Laws.{pairs_of}
use Rattle.image_reader.specs.Text.{UpperTo, UpperRun, LineOctets, LineTaken}
use Rattle.image_reader.proofs.Digits.{upper-digit}

-- ---- the characters before the first line feed
line_other : (c : ℕ) (s : List ℕ) → (c ≡ line_feed → ⊥) → line_at (c ∷ s) ≡ c ∷ line_at s
unfolding line_at
line_other c s other = rw (ne_eqb c line_feed other)

line-feed : (c : ℕ) (s : List ℕ) → c ≡ line_feed → line_at (c ∷ s) ≡ []
unfolding line_at
line-feed c s e = rw (eq-eqb c line_feed e)

-- they are the first of the text
line-take : (s : List ℕ) → line_at s ≡ take (length (line_at s)) s
unfolding line_at
line-take [] = refl
line-take (c ∷ s) = by (eqb c line_feed) (line-take s) where
  by : (b : Bool) → line_at s ≡ take (length (line_at s)) s → cond b [] (c ∷ line_at s) ≡ take (length (cond b [] (c ∷ line_at s))) (c ∷ s)
  by true e = refl
  by false e = ap (λ (l : List ℕ). c ∷ l) e

-- none before a place is a line feed, so they reach there
line-reaches : (s : List ℕ) (n : ℕ) → ((k : ℕ) → k < n → get_or s k 0 ≡ line_feed → ⊥) → n ≤ length s → n ≤ length (line_at s)
line-reaches s zero plain inside = omega arith
line-reaches [] (suc n) plain inside = absurd (omega arith)
line-reaches (c ∷ s) (suc n) plain inside =
    let rest = line-reaches s n (λ k below. plain (suc k) (omega arith)) (omega arith) in
    omega (arith, ap length (line_other c s (plain 0 (omega arith))))

-- and end at the first
line-stops : (s : List ℕ) (n : ℕ) → ((k : ℕ) → k < n → get_or s k 0 ≡ line_feed → ⊥) → n < length s → get_or s n 0 ≡ line_feed
    → length (line_at s) ≡ n
line-stops [] n plain inside e = absurd (omega arith)
line-stops (c ∷ s) zero plain inside e = ap length (line-feed c s e)
line-stops (c ∷ s) (suc n) plain inside e =
    let rest = line-stops s n (λ k below. plain (suc k) (omega arith)) (omega arith) e in
    ap length (line_other c s (plain 0 (omega arith))) ∙ ap suc rest

-- ---- and the run of upper-case digits
no-feed : (c : ℕ) → upper_digit c ≡ true → c ≡ line_feed → ⊥
no-feed c e is = let z : false ≡ true = rw is at e in let n : ◌≡◌ {A = ℕ} 0 1 = ap (λ (b : Bool). cond b 1 0) z in omega arith

run-plain : {s : List ℕ} {n : ℕ} → UpperTo s n → (k : ℕ) → k < n → get_or s k 0 ≡ line_feed → ⊥
run-plain {s} {n} u k below = no-feed (get_or s k 0) (u.digits k below)

-- a line of pairs has upper-case digits alone
pairs-at : (s : List ℕ) (k : ℕ) → upper_pairs (line_at s) ≡ true → k < length (line_at s) → upper_digit (get_or s k 0) ≡ true
pairs-at s k e below =
    let there : get_or (line_at s) k 0 ≡ get_or s k 0
    = ap (λ (l : List ℕ). get_or l k 0) (line-take s) ∙ get_or-take (length (line_at s)) s k 0 below in
    rw there at ((pairs_of (line_at s) e).upper k below)

module _ {text : List ℕ} {stop : ℕ} (run : UpperRun text stop) where
  -- no line feed at all
  pub none-ended : {old new : List ℕ} → length text ≤ stop → LineTaken text old new None
  none-ended all =
      record {
        answer = λ short pairs fits. omega (arith, line-reaches text stop (run-plain run.to) run.to.inside, run.to.inside);
      }

  -- another character than a line feed ends the digits
  pub none_other : {old new : List ℕ} → stop < length text → (get_or text stop 0 ≡ line_feed → ⊥) → LineTaken text old new None
  none_other inside other =
      let more : (k : ℕ) → k < stop + 1 → get_or text k 0 ≡ line_feed → ⊥ =
      λ k below is.
      ⊎_elim (λ low. run-plain run.to k low is)
      (λ past.
      let here : k ≡ stop = omega arith in
      other (rw here at is))
      (below_or_not k stop) in
      let reaches = line-reaches text (stop + 1) more (omega arith) in
      record {
        answer = λ short pairs fits.
            let z : false ≡ true = sym (run.end inside) ∙ pairs-at text stop pairs (omega arith) in
            let n : ◌≡◌ {A = ℕ} 0 1 = ap (λ (b : Bool). cond b 1 0) z in
            omega arith;
      }

  module _ (inside : stop < length text) (feed : get_or text stop 0 ≡ line_feed) where
    line-long : length (line_at text) ≡ stop
    line-long = line-stops text stop (run-plain run.to) inside feed

    line-is : line_at text ≡ take stop text
    line-is = line-take text ∙ ap (λ (n : ℕ). take n text) line-long

    -- half an octet
    pub none-odd : {old new : List ℕ} → (stop % 2 ≡ 0 → ⊥) → LineTaken text old new None
    none-odd odd = record { answer = λ short pairs fits. odd (rw line-long at (pairs_of (line_at text) pairs).even) }

    -- more octets than there is room for
    pub none-long : {old new : List ℕ} → length old < stop / 2 → LineTaken text old new None
    none-long long = record { answer = λ short pairs fits. omega (arith, length-octets_in (line_at text), line-long) }

    -- pairs of digits
    pub run-digits : Octets text → all_digits (take stop text) ≡ true
    unfolding all_digits
    run-digits small =
        let long : length (take stop text) ≡ stop = length-take-le stop text (omega arith) in
        all_below-of (length (take stop text)) (λ k. ltb (digit_of (get_or (take stop text) k 0)) no_digit)
        (λ k below.
        let low : k < stop = rw long at below in
        rw (get_or-take stop text k 0 low) (upper-digit (get_or text k 0) (small k) (run.to.digits k low)))

    run-pairs : stop % 2 ≡ 0 → upper_pairs (line_at text) ≡ true
    unfolding upper_pairs
    run-pairs even =
        let long = line-long in
        and_both (eq-eqb (length (line_at text) % 2) 0 (omega (arith, ap (λ (n : ℕ). n % 2) line-long)))
        (all_below-of (length (line_at text)) (λ k. upper_digit (get_or (line_at text) k 0))
        (λ k below.
        let low : k < stop = omega arith in
        let there : get_or (line_at text) k 0 ≡ get_or text k 0
        = ap (λ (l : List ℕ). get_or l k 0) line-is ∙ get_or-take stop text k 0 low in
        rw there (run.to.digits k low)))

    pub line-octets : {old new : List ℕ} → stop % 2 ≡ 0 → stop / 2 ≤ length old
        → new ≡ octets_in (take stop text) ++ drop (length (take stop text) / 2) old
        → LineTaken text old new (Some (stop / 2, stop + 1))
    line-octets {old} {new} even room e =
        let count : length (octets_in (line_at text)) ≡ stop / 2
        = length-octets_in (line_at text) ∙ ap (λ (n : ℕ). n / 2) line-long in
        let half : length (take stop text) / 2 ≡ length (octets_in (line_at text))
        = ap (λ (l : List ℕ). length l / 2) (sym line-is) ∙ sym (length-octets_in (line_at text)) in
        record {
          answer =
              record {
                ended = omega (arith, line-long);
                pairs = run-pairs even;
                counted = sym count;
                after = ap (λ (n : ℕ). n + 1) (sym line-long);
                fits = room;
                lent =
                    e
                    ∙ ap (λ (l : List ℕ). octets_in l ++ drop (length (take stop text) / 2) old) (sym line-is)
                    ∙ ap (λ (n : ℕ). octets_in (line_at text) ++ drop n old) half;
              };
        }

pub ruleset takings = (none-ended, none_other, none-odd, none-long, line-octets)

-- ---- what was told of a line
module _ {text old new : List ℕ} {r : Option (ℕ × ℕ)} (t : LineTaken text old new r) where
  pub taken-octets : {count next : ℕ} → r ≡ Some (count, next) → LineOctets text old new count next
  taken-octets is = rw is at t.answer

  pub taken_none : r ≡ None → length (line_at text) < length text → upper_pairs (line_at text) ≡ true
      → length (octets_in (line_at text)) ≤ length old → ⊥
  taken_none is = rw is at t.answer
