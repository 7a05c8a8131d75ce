-- What the replay comes to is what the program comes to over the lines that are left. Assumes nothing.
use Prim.Native.Nat.{ℕ, zero, suc, ◌+◌, ◌≤◌, ◌<◌}
use mathlib.Core.Path.{◌≡◌, refl, sym, ap, ◌∙◌}
use mathlib.Core.Bool.{Bool, true, false, cond, ◌||◌}
use mathlib.Core.List.{List, [], ◌∷◌, ◌++◌, append_assoc, append-nil}
use mathlib.Core.Logic.{⊎_elim}
use lib.ListN.{length, get_or, length-append}
use native.Mathlib.Omega.{arith}
use Rattle.octets.proofs.Laws.{true-or-false, same_or_not}
use Rattle.length.specs.Answers.{Answer, done, refused, ◌>>=◌}
use Rattle.length.specs.declared.Refusal.{Refusal}
use Rattle.datagram.specs.Read.{DatagramParts, read_datagram}
use Rattle.session.specs.View.{View, fresh_view}
use Rattle.session.specs.Offer.{offer}
use Rattle.line.specs.Hex.{line_octets}
use Rattle.line.specs.Lines.{Made, silent, line_feed, refusal_line, line_offered, offer_line, offer_made, answer_line, step, last_line}
use Rattle.line.specs.Lines.{lines_from, steps, program}
use Rattle.line.proofs.Laws.{NoFeed, at-feed, at_other, past-line}
use Rattle.trace_replay.specs.Replay.{number_in, dropped, replay_step, replay_steps, replay}
use Rattle.trace_replay.specs.Claims.{not_dropped, lines_text}
use Rattle.trace_replay.proofs.Dropping.{dropped-none, not-dropped}
use Rattle.trace_replay.proofs.Front.{short-left}

-- ---- one line
pub step-dropped : (numbers line : List ℕ) (view : View) → dropped numbers line ≡ true → replay_step numbers line view ≡ silent view
unfolding replay_step
step-dropped numbers line view is = ap (λ (b : Bool). cond b (silent view) (step line view)) is

pub step_left : (numbers line : List ℕ) (view : View) → dropped numbers line ≡ false → replay_step numbers line view ≡ step line view
unfolding replay_step
step_left numbers line view is = ap (λ (b : Bool). cond b (silent view) (step line view)) is

pub left-dropped : (numbers line : List ℕ) (lines : List (List ℕ)) → dropped numbers line ≡ true
    → not_dropped numbers (line ∷ lines) ≡ not_dropped numbers lines
unfolding not_dropped
left-dropped numbers line lines is = ap (λ (b : Bool). cond b (not_dropped numbers lines) (line ∷ not_dropped numbers lines)) is

pub left-kept : (numbers line : List ℕ) (lines : List (List ℕ)) → dropped numbers line ≡ false
    → not_dropped numbers (line ∷ lines) ≡ line ∷ not_dropped numbers lines
unfolding not_dropped
left-kept numbers line lines is = ap (λ (b : Bool). cond b (not_dropped numbers lines) (line ∷ not_dropped numbers lines)) is

-- ---- all of them
pub goes_dropped : (numbers line : List ℕ) (lines : List (List ℕ)) (view : View) → dropped numbers line ≡ true
    → replay_steps numbers (line ∷ lines) view ≡ replay_steps numbers lines view
unfolding replay_steps
goes_dropped numbers line lines view is =
    ap (λ (m : Made). record {
      text = m.text ++ (replay_steps numbers lines m.after).text;
      after = (replay_steps numbers lines m.after).after;
    })
    (step-dropped numbers line view is)

goes_left : (numbers line : List ℕ) (lines : List (List ℕ)) (view : View) → dropped numbers line ≡ false
    → replay_steps numbers lines (step line view).after ≡ steps (not_dropped numbers lines) (step line view).after
    → replay_steps numbers (line ∷ lines) view ≡ steps (line ∷ not_dropped numbers lines) view
unfolding replay_steps steps
goes_left numbers line lines view is more =
    ap (λ (m : Made). record {
      text = m.text ++ (replay_steps numbers lines m.after).text;
      after = (replay_steps numbers lines m.after).after;
    })
    (step_left numbers line view is)
    ∙ ap (λ (m : Made). record { text = (step line view).text ++ m.text; after = m.after }) more

pub rest : (numbers : List ℕ) (lines : List (List ℕ)) (view : View) → replay_steps numbers lines view ≡ steps (not_dropped numbers lines) view
unfolding replay_steps not_dropped steps
rest numbers [] view = refl
rest numbers (line ∷ lines) view =
    ⊎_elim
    (λ is.
    goes_dropped numbers line lines view is
    ∙ rest numbers lines view
    ∙ ap (λ (l : List (List ℕ)). steps l view) (sym (left-dropped numbers line lines is)))
    (λ not.
    goes_left numbers line lines view not (rest numbers lines (step line view).after)
    ∙ ap (λ (l : List (List ℕ)). steps l view) (sym (left-kept numbers line lines not)))
    (true-or-false (dropped numbers line))

-- ---- as a text
plain_more : (s : List ℕ) (c : ℕ) → NoFeed s (length s) → (c ≡ line_feed → ⊥) → NoFeed (s ++ (c ∷ [])) (length (s ++ (c ∷ [])))
plain_more [] c plain other zero below e = other e
plain_more [] c plain other (suc k) below e = absurd (omega (arith, below))
plain_more (x ∷ s) c plain other zero below e = plain 0 (omega arith) e
plain_more (x ∷ s) c plain other (suc k) below e =
    plain_more s c (λ j less. plain (suc j) (omega arith)) other k (omega (arith, below)) e

-- the lines that are left of a line that has begun and of those behind it, made a text, are those of the text
abbrev Back : List ℕ → List (List ℕ) → Type 0
Back numbers lines = lines_from [] (lines_text (not_dropped numbers lines)) ≡ not_dropped numbers lines

module _ (numbers : List ℕ) where
  back_none : Back numbers []
  unfolding not_dropped lines_text lines_from
  back_none = refl

  back_one : (line : List ℕ) (lines : List (List ℕ)) → NoFeed line (length line) → Back numbers lines → Back numbers (line ∷ lines)
  unfolding not_dropped lines_text
  back_one line lines plain more =
      ⊎_elim
      (λ is.
      ap (λ (l : List (List ℕ)). lines_from [] (lines_text l)) (left-dropped numbers line lines is)
      ∙ more
      ∙ sym (left-dropped numbers line lines is))
      (λ not.
      ap (λ (l : List (List ℕ)). lines_from [] (lines_text l)) (left-kept numbers line lines not)
      ∙ past-line line (lines_text (not_dropped numbers lines)) plain
      ∙ ap (λ (l : List (List ℕ)). line ∷ l) more
      ∙ sym (left-kept numbers line lines not))
      (true-or-false (dropped numbers line))

  back : (begun input : List ℕ) → NoFeed begun (length begun) → Back numbers (lines_from begun input)
  unfolding lines_from
  back [] [] plain = back_none
  back (c ∷ begun) [] plain = back_one (c ∷ begun) [] plain back_none
  back begun (c ∷ input) plain =
      ⊎_elim
      (λ feed.
      rw (at-feed begun c input feed)
      (back_one begun (lines_from [] input) plain (back [] input (λ k below e. absurd (omega (arith, below))))))
      (λ other. rw (at_other begun c input other) (back (begun ++ (c ∷ [])) input (plain_more begun c plain other)))
      (same_or_not c line_feed)

pub text-left : (numbers trace : List ℕ) → (replay numbers trace).text ≡ program (lines_text (not_dropped numbers (lines_from [] trace)))
unfolding replay program
text-left numbers trace =
    ap (λ (m : Made). m.text) (rest numbers (lines_from [] trace) fresh_view)
    ∙ ap (λ (l : List (List ℕ)). (steps l fresh_view).text) (sym (back numbers [] trace (λ k below e. absurd (omega (arith, below)))))

-- ---- the sentences on a single line
pub dropped-nowhere : (numbers line : List ℕ) (before after : List (List ℕ)) (view : View) → dropped numbers line ≡ true
    → replay_steps numbers (before ++ line ∷ after) view ≡ replay_steps numbers (before ++ after) view
unfolding replay_steps
dropped-nowhere numbers line [] after view is = goes_dropped numbers line after view is
dropped-nowhere numbers line (first ∷ before) after view is =
    let made = replay_step numbers first view in
    ap (λ (m : Made). record { text = made.text ++ m.text; after = m.after })
    (dropped-nowhere numbers line before after made.after is)

-- a line that does not read
unread : (numbers line : List ℕ) (why : Refusal) → number_in line ≡ refused why → dropped numbers line ≡ false
unread numbers line why e = not-dropped numbers line (λ number done-so. let z : ◌≡◌ {A = ℕ} 0 1 = cc in absurd (omega arith))

number_read : (a : Answer DatagramParts) (why : Refusal) → ◌>>=◌ a (λ (d : DatagramParts). done d.number) ≡ refused why → a ≡ refused why
number_read (done d) why e = let z : ◌≡◌ {A = ℕ} 0 1 = cc in absurd (omega arith)
number_read (refused r) why e = cc

octets-read : (a : Answer (List ℕ)) (view : View) (why : Refusal)
    → ◌>>=◌ a (λ (octets : List ℕ). ◌>>=◌ (read_datagram octets) (λ (d : DatagramParts). done d.number)) ≡ refused why
    → ◌>>=◌ a (λ (octets : List ℕ). offer octets view) ≡ refused why
unfolding offer
octets-read (done octets) view why e = rw (number_read (read_datagram octets) why e)
octets-read (refused r) view why e = cc

answer-unread : (c : ℕ) (line : List ℕ) (view : View) (why : Refusal) → number_in (c ∷ line) ≡ refused why
    → answer_line (c ∷ line) view ≡ record { text = refusal_line why; after = view }
unfolding answer_line offer_line line_offered number_in
answer-unread c line view why e = ap (λ (a : Answer View). offer_made a view) (octets-read (line_octets (c ∷ line)) view why e)

pub unreadable : (numbers : List ℕ) (c : ℕ) (line : List ℕ) (view : View) (why : Refusal) → number_in (c ∷ line) ≡ refused why
    → (replay_step numbers (c ∷ line) view ≡ step (c ∷ line) view)
    × (answer_line (c ∷ line) view ≡ record { text = refusal_line why; after = view })
unreadable numbers c line view why e =
    (step_left numbers (c ∷ line) view (unread numbers (c ∷ line) why e), answer-unread c line view why e)

-- an empty line has no number
pub give-up : (numbers : List ℕ) (view : View) → replay_step numbers [] view ≡ step [] view
give-up numbers view = step_left numbers [] view (short-left numbers [] (omega arith))
