-- The program's input taken in character by character writes what the program writes, however it is cut. Assumes nothing.
use Prim.Native.Nat.{ℕ, zero, suc, ◌+◌, ◌≤◌, ◌<◌}
use mathlib.Core.Path.{◌≡◌, refl, sym, ap, ◌∙◌}
use mathlib.Core.Bool.{Bool, cond}
use mathlib.Core.List.{List, [], ◌∷◌, ◌++◌, append_assoc, append-nil}
use mathlib.Core.Logic.{⊎_elim}
use lib.ListN.{length, take, get_or, length-append, length-take}
use lib.Seq.{take_all, length-take-le}
use native.Mathlib.Omega.{arith}
use borrow.Author.Tests.{lt-ltb, eq-eqb, ne_eqb}
use Rattle.octets.proofs.Laws.{below_or_not, same_or_not}
use Rattle.length.specs.Answers.{refuse}
use Rattle.length.specs.Refusals.{too_long}
use Rattle.session.specs.View.{View, fresh_view}
use Rattle.length.specs.Tables.{unless}
use Rattle.line.specs.Hex.{line_limit, line_octets}
use Rattle.line.specs.Lines.{Made, line_feed, line_offered, offer_line, answer_line, step, last_line, lines_from, steps}
use Rattle.line.specs.Lines.{program_from, program}
use Rattle.line.specs.Feed.{Going, starting_at, at_start, kept_limit, line_done, longer, taken_in, fed, at_end}

-- ---- taken in block after block
pub fed-append : (a b : List ℕ) (now : Going) → fed (a ++ b) now ≡ fed b (fed a now)
unfolding fed
fed-append [] b now = refl
fed-append (c ∷ a) b now = fed-append a b (taken_in c now)

-- ---- a line that is too long
-- of a line over the limit, what is kept is over it too, and is answered alike
line_octets-long : (line : List ℕ) → line_limit < length line → line_octets line ≡ refuse too_long
unfolding line_octets unless
line_octets-long line long = rw (lt-ltb line_limit (length line) long)

answer_line-long : (line : List ℕ) (view : View) → line_limit < length line → answer_line line view ≡ offer_line line view
unfolding answer_line
answer_line-long [] view long = absurd (omega (arith, long))
answer_line-long (c ∷ line) view long = refl

offer_line-alike : (a b : List ℕ) (view : View) → line_limit < length a → line_limit < length b → offer_line a view ≡ offer_line b view
unfolding offer_line line_offered
offer_line-alike a b view long also = rw (line_octets-long a long, line_octets-long b also)

step-alike : (a b : List ℕ) (view : View) → line_limit < length a → line_limit < length b → step a view ≡ step b view
unfolding step
step-alike a b view long also =
    rw (answer_line-long a view long, answer_line-long b view also, offer_line-alike a b view long also)

-- ---- what is kept of a line that has begun
-- the line itself, or something over the limit in place of a line over it
pub data Keeps (line kept : List ℕ) : Type 0 where
  whole : kept ≡ line → Keeps line kept
  cut : line_limit < length line → line_limit < length kept → Keeps line kept

pub step_kept : (line kept : List ℕ) (view : View) → Keeps line kept → step kept view ≡ step line view
step_kept line kept view (whole e) = ap (λ (l : List ℕ). step l view) e
step_kept line kept view (cut long also) = step-alike kept line view also long

over-kept : (c : ℕ) (kept : List ℕ) → line_limit < length kept → line_limit < length (take kept_limit (kept ++ (c ∷ [])))
over-kept c kept long =
    omega (arith, length-take-le kept_limit (kept ++ (c ∷ [])) (omega (arith, length-append kept (c ∷ []))))

keeps-longer : (c : ℕ) (line kept : List ℕ) → Keeps line kept → Keeps (line ++ (c ∷ [])) (longer c kept)
unfolding longer
keeps-longer c line kept (whole e) =
    ⊎_elim (λ long. cut (omega (arith, length-append line (c ∷ []), ap length e)) (over-kept c kept long))
    (λ short.
    whole
    (take_all kept_limit (kept ++ (c ∷ [])) (omega (arith, length-append kept (c ∷ [])))
    ∙ ap (λ (l : List ℕ). l ++ (c ∷ [])) e))
    (below_or_not line_limit (length kept))
keeps-longer c line kept (cut long also) = cut (omega (arith, length-append line (c ∷ []))) (over-kept c kept also)

-- the definitions at a line feed, and at another character
pub taken_in-feed : (c : ℕ) (now : Going) → c ≡ line_feed → taken_in c now ≡ line_done now
unfolding taken_in
taken_in-feed c now e = rw (eq-eqb c line_feed e)

taken_in-other : (c : ℕ) (now : Going) → (c ≡ line_feed → ⊥)
    → taken_in c now ≡ record { text = now.text; view = now.view; begun = longer c now.begun }
unfolding taken_in
taken_in-other c now other = rw (ne_eqb c line_feed other)

-- ---- characters that are no line feeds
-- no line feed stands in the first n characters
abbrev pub NoFeed : List ℕ → ℕ → Type 0
NoFeed s n = (k : ℕ) → k < n → get_or s k 0 ≡ line_feed → ⊥

take_again : (n : ℕ) (a b : List ℕ) → take n (take n a ++ b) ≡ take n (a ++ b)
take_again zero a b = refl
take_again (suc n) [] b = refl
take_again (suc n) (x ∷ a) b = ap (λ (l : List ℕ). x ∷ l) (take_again n a b)

-- they are put after the line that has begun
pub fed-plain : (s : List ℕ) (now : Going) → NoFeed s (length s) → length now.begun ≤ kept_limit
    → fed s now ≡ record { text = now.text; view = now.view; begun = take kept_limit (now.begun ++ s) }
unfolding fed longer
fed-plain [] now none short =
    ap (λ (l : List ℕ). record { text = now.text; view = now.view; begun = l })
    (sym (ap (λ (l : List ℕ). take kept_limit l) (append-nil now.begun) ∙ take_all kept_limit now.begun short))
fed-plain (c ∷ s) now none short =
    let begun = take kept_limit (now.begun ++ (c ∷ [])) in
    ap (fed s) (taken_in-other c now (none 0 (omega arith)))
    ∙ fed-plain s (record { text = now.text; view = now.view; begun = begun }) (λ k below. none (suc k) (omega arith))
    (omega (arith, length-take kept_limit (now.begun ++ (c ∷ []))))
    ∙ ap (λ (l : List ℕ). record { text = now.text; view = now.view; begun = l })
    (take_again kept_limit (now.begun ++ (c ∷ [])) s ∙ ap (λ (l : List ℕ). take kept_limit l) (append_assoc now.begun (c ∷ []) s))

-- what is kept of a line that was read at once
pub keeps-all : (line : List ℕ) → Keeps line (take kept_limit line)
keeps-all line =
    ⊎_elim (λ long. cut long (omega (arith, length-take-le kept_limit line (omega arith))))
    (λ short. whole (take_all kept_limit line (omega arith)))
    (below_or_not line_limit (length line))

-- ---- the whole
-- what the program writes from here on, after what is written so far
on_from : List ℕ → List ℕ → View → List ℕ
on_from line input view = (steps (lines_from line input) view).text

no_line : (line kept : List ℕ) → Keeps line kept → length kept ≡ 0 → line ≡ []
no_line [] kept k e = refl
no_line (c ∷ line) kept (whole same) e = absurd (omega (arith, ap length same))
no_line (c ∷ line) kept (cut long also) e = absurd (omega arith)

last-steps : (line kept : List ℕ) (view : View) → Keeps line kept → (length kept ≡ 0 → ⊥)
    → (steps (last_line line) view).text ≡ (step kept view).text
unfolding steps
last-steps [] kept view (whole same) some = absurd (some (ap length same))
last-steps [] kept view (cut long also) some = absurd (omega (arith, long))
last-steps (c ∷ line) kept view k some =
    append-nil (step (c ∷ line) view).text ∙ ap (λ (m : Made). m.text) (sym (step_kept (c ∷ line) kept view k))

last_line_lem : (line : List ℕ) (now : Going) → Keeps line now.begun → (at_end now).text ≡ now.text ++ on_from line [] now.view
unfolding at_end on_from lines_from line_done steps
last_line_lem line now k =
    ⊎_elim (λ none. rw (eq-eqb (length now.begun) 0 none) (sym (nothing (no_line line now.begun k none))))
    (λ some.
    rw (ne_eqb (length now.begun) 0 some)
    (ap (λ (t : List ℕ). now.text ++ t) (sym (last-steps line now.begun now.view k some))))
    (same_or_not (length now.begun) 0)
  where
    nothing : line ≡ [] → now.text ++ (steps (last_line line) now.view).text ≡ now.text
    nothing e = rw e (append-nil now.text)

-- the lines at a line feed, and at another character
on_from-feed : (c : ℕ) (line input : List ℕ) (view : View) → c ≡ line_feed
    → on_from line (c ∷ input) view ≡ (step line view).text ++ on_from [] input (step line view).after
unfolding on_from lines_from steps
on_from-feed c line input view e =
    ap (λ (b : Bool). (steps (cond b (line ∷ lines_from [] input) (lines_from (line ++ (c ∷ [])) input)) view).text) (eq-eqb c line_feed e)

on_from-other : (c : ℕ) (line input : List ℕ) (view : View) → (c ≡ line_feed → ⊥)
    → on_from line (c ∷ input) view ≡ on_from (line ++ (c ∷ [])) input view
unfolding on_from lines_from
on_from-other c line input view other =
    ap (λ (b : Bool). (steps (cond b (line ∷ lines_from [] input) (lines_from (line ++ (c ∷ [])) input)) view).text)
    (ne_eqb c line_feed other)

-- a line feed
ended : (c : ℕ) (input line : List ℕ) (now : Going) → Keeps line now.begun → c ≡ line_feed
    → (at_end (fed input (line_done now))).text ≡ (line_done now).text ++ on_from [] input (line_done now).view
    → (at_end (fed input (taken_in c now))).text ≡ now.text ++ on_from line (c ∷ input) now.view
unfolding line_done
ended c input line now k e more =
    ap (λ (s : Going). (at_end (fed input s)).text) (taken_in-feed c now e)
    ∙ more
    ∙ ap (λ (m : Made). now.text ++ m.text ++ on_from [] input m.after) (step_kept line now.begun now.view k)
    ∙ append_assoc now.text (step line now.view).text (on_from [] input (step line now.view).after)
    ∙ ap (λ (t : List ℕ). now.text ++ t) (sym (on_from-feed c line input now.view e))

-- another character
added : (c : ℕ) (input line : List ℕ) (now : Going) → (c ≡ line_feed → ⊥)
    → (at_end (fed input (record { text = now.text; view = now.view; begun = longer c now.begun }))).text
    ≡ now.text ++ on_from (line ++ (c ∷ [])) input now.view
    → (at_end (fed input (taken_in c now))).text ≡ now.text ++ on_from line (c ∷ input) now.view
added c input line now other more =
    ap (λ (s : Going). (at_end (fed input s)).text) (taken_in-other c now other)
    ∙ more
    ∙ ap (λ (t : List ℕ). now.text ++ t) (sym (on_from-other c line input now.view other))

fresh-line : (now : Going) → Keeps [] (line_done now).begun
unfolding line_done
fresh-line now = whole refl

fed-writes : (input line : List ℕ) (now : Going) → Keeps line now.begun
    → (at_end (fed input now)).text ≡ now.text ++ on_from line input now.view
unfolding fed
fed-writes [] line now k = last_line_lem line now k
fed-writes (c ∷ input) line now k =
    ⊎_elim (λ e. ended c input line now k e (fed-writes input [] (line_done now) (fresh-line now)))
    (λ other.
    added c input line now other
    (fed-writes input (line ++ (c ∷ [])) (record { text = now.text; view = now.view; begun = longer c now.begun })
    (keeps-longer c line now.begun k)))
    (same_or_not c line_feed)

pub program-from-fed : (view : View) (input : List ℕ) → program_from view input ≡ (at_end (fed input (starting_at view))).text
unfolding on_from
program-from-fed view input = sym (fed-writes input [] (starting_at view) (whole refl))

pub program-fed : (input : List ℕ) → program input ≡ (at_end (fed input at_start)).text
unfolding program
program-fed input = program-from-fed fresh_view input
