-- The list of numbers: twice, in any order, one that never occurs, and more of them. Assumes nothing.
use Prim.Native.Nat.{ℕ}
use mathlib.Core.Path.{◌≡◌, refl, sym, ap, ◌∙◌}
use mathlib.Core.Bool.{Bool, true, false, cond, ◌||◌}
use mathlib.Core.List.Memᴰ
use mathlib.Core.List.{List, [], ◌∷◌, ◌++◌, Memᴰ as Among}
use mathlib.Core.Logic.{⊎_elim}
use lib.Dec.{eqb}
use borrow.Author.Tests.{eqb-true}
use Rattle.octets.proofs.Laws.{true-or-false, or-true}
use Rattle.session.specs.View.{View, fresh_view}
use Rattle.line.specs.Lines.{Made, silent, step, lines_from}
use Rattle.trace_replay.specs.Replay.{listed, dropped, replay_step, replay_steps, replay}
use Rattle.trace_replay.specs.Claims.{not_dropped}
use Rattle.trace_replay.proofs.Dropping.{or-false, dropped-alike, dropped-append}
use Rattle.trace_replay.proofs.Rest.{left-dropped, left-kept}

-- lists by which each line of a trace is dropped alike
steps_alike : (numbers others : List ℕ) (lines : List (List ℕ)) (view : View)
    → ((line : List ℕ) → Among line lines → dropped numbers line ≡ dropped others line)
    → replay_steps numbers lines view ≡ replay_steps others lines view
unfolding replay_steps replay_step
steps_alike numbers others [] view same = refl
steps_alike numbers others (line ∷ lines) view same =
    let made = replay_step others line view in
    ap (λ (b : Bool). record {
      text =
          (cond b (silent view) (step line view)).text
          ++ (replay_steps numbers lines (cond b (silent view) (step line view)).after).text;
      after = (replay_steps numbers lines (cond b (silent view) (step line view)).after).after;
    })
    (same line (Among.head refl))
    ∙ ap (λ (m : Made). record { text = made.text ++ m.text; after = m.after })
    (steps_alike numbers others lines made.after (λ other among. same other (Among.tail among)))

pub lists-alike : (numbers others trace : List ℕ) → ((number : ℕ) → listed numbers number ≡ listed others number)
    → replay numbers trace ≡ replay others trace
unfolding replay
lists-alike numbers others trace same =
    steps_alike numbers others (lines_from [] trace) fresh_view (λ line among. dropped-alike numbers others line same)

-- a number that is listed already
again : (numbers : List ℕ) (number n : ℕ) → listed numbers number ≡ true → listed (number ∷ numbers) n ≡ listed numbers n
unfolding listed
again numbers number n is =
    ⊎_elim
    (λ same.
    ap (λ (b : Bool). b || listed numbers n) same
    ∙ sym (ap (listed numbers) (sym (eqb-true number n same)) ∙ is))
    (λ other. ap (λ (b : Bool). b || listed numbers n) other)
    (true-or-false (eqb number n))

pub listed-twice : (numbers trace : List ℕ) (number : ℕ) → listed numbers number ≡ true
    → replay (number ∷ numbers) trace ≡ replay numbers trace
listed-twice numbers trace number is = lists-alike (number ∷ numbers) numbers trace (λ n. again numbers number n is)

-- a number that no line has
pub never-occurs : (numbers trace : List ℕ) (number : ℕ)
    → ((line : List ℕ) → Among line (lines_from [] trace) → dropped (number ∷ []) line ≡ false)
    → replay (number ∷ numbers) trace ≡ replay numbers trace
unfolding replay
never-occurs numbers trace number never =
    steps_alike (number ∷ numbers) numbers (lines_from [] trace) fresh_view
    (λ line among.
    dropped-append (number ∷ []) numbers line ∙ ap (λ (b : Bool). b || dropped numbers line) (never line among))

-- ---- more numbers
pub left-more : (numbers others : List ℕ) (lines : List (List ℕ)) → not_dropped (numbers ++ others) lines ≡ not_dropped numbers (not_dropped others lines)
unfolding not_dropped
left-more numbers others [] = refl
left-more numbers others (line ∷ lines) =
    ⊎_elim
    (λ is.
    ap (λ (b : Bool). cond b (not_dropped (numbers ++ others) lines) (line ∷ not_dropped (numbers ++ others) lines))
    (dropped-append numbers others line ∙ ap (λ (b : Bool). dropped numbers line || b) is ∙ or-true (dropped numbers line))
    ∙ left-more numbers others lines
    ∙ ap (not_dropped numbers) (sym (left-dropped others line lines is)))
    (λ not.
    ap (λ (b : Bool). cond b (not_dropped (numbers ++ others) lines) (line ∷ not_dropped (numbers ++ others) lines))
    (dropped-append numbers others line ∙ ap (λ (b : Bool). dropped numbers line || b) not ∙ or-false (dropped numbers line))
    ∙ ap (λ (l : List (List ℕ)). cond (dropped numbers line) l (line ∷ l)) (left-more numbers others lines)
    ∙ ap (not_dropped numbers) (sym (left-kept others line lines not)))
    (true-or-false (dropped others line))

pub left-among : (numbers line : List ℕ) (lines : List (List ℕ)) → Among line (not_dropped numbers lines)
    → Among line lines × (dropped numbers line ≡ false)
unfolding not_dropped
left-among numbers line [] among = absurd (Memᴰ.not-nil among)
left-among numbers line (first ∷ lines) among =
    ⊎_elim
    (λ is.
    let so = left-among numbers line lines (rw (left-dropped numbers first lines is) at among) in
    (Among.tail so.0, so.1))
    (λ not.
    ⊎_elim
    (λ same. (Among.head same, ap (dropped numbers) same ∙ not))
    (λ later.
    let so = left-among numbers line lines later in
    (Among.tail so.0, so.1))
    (Memᴰ.cases_cons (rw (left-kept numbers first lines not) at among)))
    (true-or-false (dropped numbers first))
