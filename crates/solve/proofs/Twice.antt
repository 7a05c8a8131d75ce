-- The call's answer: there is one, and a second call straight after fills nothing more. The same octets satisfy the equations before and
-- after, since what was filled is what they are. With more known and more messages they satisfy no more, so that no less is known.
-- Assumes nothing.
use Prim.Native.Nat.{ℕ}
use mathlib.Core.Path.{◌≡◌, refl, sym, ap, ap₂, ◌∙◌, subst}
use mathlib.Core.Logic.{⊎_elim}
use mathlib.Core.List.{List, Memᴰ as Among}
use Rattle.octets.proofs.Laws.{true-or-false}
use Rattle.length.specs.Answers.{Answer, done, refused}
use Rattle.length.specs.declared.Refusal.{Refusal}
use Rattle.session.specs.Cells.{Cell, cell_at, unknown_at}
use Rattle.session.specs.Repair.{Message}
use Rattle.session.specs.Held.{Held, held_messages}
use Rattle.session.specs.Reached.{Known}
use Rattle.session.specs.View.{View, Counts}
use Rattle.session.proofs.Laws.{known-not-unknown}
use Rattle.solve.specs.Equations.{padded, Solution}
use Rattle.solve.specs.Solved.{Solved, SolvedTo, Solves}
use Rattle.solve.specs.Claims.{Wider}
use Rattle.solve.proofs.Padded.{padded-whole}
use Rattle.solve.proofs.After.{stays-known, known-one, one_known, solved-unique}

-- ---- solutions before and after
module _ {cells : List Cell} {messages : List Message} {after : List Cell} (s : Solved cells messages after) where
  pub still-solution : {x : ℕ → List ℕ} → Solution cells messages x → Solution after messages x
  still-solution {x} sx =
      record {
        long = sx.long;
        known = λ p known.
            ⊎_elim
            (λ unknown.
            sym (padded-whole (x p) (sx.long p))
            ∙ sym (ap (λ (c : Cell). padded c.octets) (s.filled p unknown (known-one s p known) x sx)))
            (λ was. sx.known p was ∙ sym (ap (λ (c : Cell). padded c.octets) (s.kept p was)))
            (true-or-false (unknown_at cells p));
        equation = sx.equation;
      }

  pub was-solution : {x : ℕ → List ℕ} → Solution after messages x → Solution cells messages x
  was-solution sx =
      record {
        long = sx.long;
        known = λ p was. sx.known p (stays-known s p was) ∙ ap (λ (c : Cell). padded c.octets) (s.kept p was);
        equation = sx.equation;
      }

  pub solved-again : Solved after messages after
  solved-again =
      record {
        some = (s.some.0, still-solution s.some.1);
        size = refl;
        kept = λ p known. refl;
        filled = λ p unknown one x sx.
            absurd
            (known-not-unknown after p
            (one_known s p (λ y z sy sz. one y z (still-solution sy) (still-solution sz)))
            unknown);
        left = λ p unknown none. refl;
      }

-- ---- more known, more messages
pub wider-solution : {cells wider : List Cell} {messages more : List Message} → Wider cells wider
    → ((message : Message) → Among message messages → Among message more)
    → {x : ℕ → List ℕ} → Solution wider more x → Solution cells messages x
wider-solution w held sx =
    record {
      long = sx.long;
      known = λ p was. sx.known p (w.known p was) ∙ w.same p was;
      equation = λ message m. sx.equation message (held message m);
    }

pub no_less : (cells wider : List Cell) (messages more : List Message) (after second : List Cell) → Wider cells wider
    → ((message : Message) → Among message messages → Among message more) → Solved cells messages after → Solved wider more second
    → (p : ℕ) → Known after p → Known second p
no_less cells wider messages more after second w held s t p known =
    one_known t p (λ x y sx sy. known-one s p known x y (wider-solution w held sx) (wider-solution w held sy))

-- ---- the session
abbrev made : ℕ → Counts → List Cell → List Held → View
made b c l h = record { base = b; counts = c; cells = l; held = h }

view_made : {b d : ℕ} {c e : Counts} {l m : List Cell} {h k : List Held} → b ≡ d → c ≡ e → l ≡ m → h ≡ k → made b c l h ≡ made d e m k
view_made same_base same-counts same-cells same-held =
    ap₂ (λ (f : List Cell → List Held → View) (t : List Cell × List Held). f t.0 t.1)
    (ap₂ (λ (x : ℕ) (y : Counts). made x y) same_base same-counts)
    (ap₂ (λ (x : List Cell) (y : List Held). (x, y)) same-cells same-held)

pub solved-same : {view one two : View} → SolvedTo view one → SolvedTo view two → one ≡ two
solved-same s t =
    view_made (s.base ∙ sym t.base) (s.counts ∙ sym t.counts) (solved-unique s.cells t.cells) (s.held ∙ sym t.held)

pub one-outcome : (view : View) (one two : Answer View) → Solves view one → Solves view two → one ≡ two
one-outcome view (done a) (done b) s t = ap (λ (v : View). done v) (solved-same s t)
one-outcome view (done a) (refused r) s t = absurd (t.0 s.cells.some.0 s.cells.some.1)
one-outcome view (refused r) (done b) s t = absurd (s.0 t.cells.some.0 t.cells.some.1)
one-outcome view (refused r) (refused q) s t = ap (λ (w : Refusal). refused w) (s.1 ∙ sym t.1)

pub again : {view after : View} → SolvedTo view after → SolvedTo after after
again {view} {after} s =
    record {
      base = refl;
      counts = refl;
      held = refl;
      cells =
          subst (λ (h : List Held). Solved after.cells (held_messages h) after.cells) (sym s.held) (solved-again s.cells);
    }

pub nothing-more : (view after : View) (answer : Answer View) → SolvedTo view after → Solves after answer → answer ≡ done after
nothing-more view after answer s t = one-outcome after answer (done after) t (again s)
