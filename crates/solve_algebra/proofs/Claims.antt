-- The claims of this crate, each proved by a law. Two answers are equal since each promise is an equation. Assumes nothing.
use mathlib.Core.Path.{sym, ap, ◌∙◌}
use Rattle.solve_algebra.specs.Rows.{source_in}
use Rattle.solve_algebra.specs.Claims.{StartsRight, Reduces, OneOutcome, Claims}
use Rattle.solve_algebra.specs.declared.Row.{Row}
use Rattle.solve_algebra.proofs.Sources.{start-mask, start-source}
use Rattle.solve_algebra.proofs.Steps.{eliminated-done}

starts-right : StartsRight
starts-right =
    record {
      mask = λ {mask} {e} {r} p. ap (λ (x : Row). x.mask) p.answer ∙ start-mask mask e;
      source = λ {mask} {e} {r} p inside f below. ap (λ (x : Row). source_in x f) p.answer ∙ start-source mask e f inside below;
    }

reduces : Reduces
reduces =
    record {
      same = λ {rows} {after} long p. rw p.answer (eliminated-done rows long).same;
      reduced = λ {rows} {after} long p. rw p.answer (eliminated-done rows long).reduced;
      long = λ {rows} {after} long p. rw p.answer (eliminated-done rows long).long;
    }

one-outcome : OneOutcome
one-outcome =
    record {
      start = λ {mask} {e} {r} {q} p t. p.answer ∙ sym t.answer;
      source = λ {row} {e} {r} {q} p t. p.answer ∙ sym t.answer;
      reduced = λ {rows} {r} {q} p t. p.answer ∙ sym t.answer;
    }

pub claims : Claims
claims = record { starts_right = starts-right; reduces = reduces; one_outcome = one-outcome }
