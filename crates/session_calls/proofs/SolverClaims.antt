-- The claims of solve: a solve comes to one of three outcomes, and each claim is read off them. Assumes nothing.
use Rattle.std.proofs.Common.{Result, Ok, Err}
use Prim.Native.Nat.{ℕ}
use mathlib.Core.Path.{◌≡◌, refl, sym, ap, ap₂, ◌∙◌, subst}
use mathlib.Core.Logic.{◌↔◌}
use mathlib.Core.Bool.{Bool, true, false, false≢true}
use native.Mathlib.Omega.{arith}
use Rattle.length.specs.Refusals.{refusal, outside_ranges, no_solution, number_of}
use Rattle.length.specs.Answers.{Answer, done, refused}
use Rattle.length.specs.declared.Refusal.{Refusal}
use Rattle.length.proofs.Laws.{not_done}
use Rattle.session.specs.Held.{held_messages}
use Rattle.session.specs.View.{View}
use Rattle.session_held.specs.Table.{lent_by, view_in, view_of}
use Rattle.session_held.specs.Laid.{session_in_ranges}
use Rattle.session_held.specs.declared.Session.{Session}
use Rattle.session_held.proofs.Laws.{in-ranges-true}
use Rattle.solve.specs.Equations.{OfOctets}
use Rattle.solve.specs.Solved.{SolvedTo, Solves}
use Rattle.solve.proofs.Laws.{one-outcome, nothing-more, known-one, one_known}
use Rattle.solve.proofs.SolutionsLaws.{none-of-octets, one-octets}
use Rattle.solve_code.specs.Outcome.{solved_outcome, filled_of}
use Rattle.solve_code.proofs.Laws.{solved-told, view-octets}
use Rattle.session_calls.specs.Receiver.{SeenAs, After}
use Rattle.session_calls.specs.Solver.{SolvesAs, SolveOwes}
use Rattle.session_calls.specs.SolverClaims.{HasSolution, HasNone, OctetSession, SolveAnswers, SolveOctets, SolverClaims}
use Rattle.session_calls.specs.declared.Returned.{Returned}
use Rattle.session_calls.proofs.Claims.{after-ranges}
use Rattle.session_calls.proofs.Outcomes.{seen_same, after_same}
use Rattle.session_calls.proofs.SolvedLaws.{view-sound}

-- ---- the three outcomes
pub data CameTo (s : Session) (r : Returned (Unit {0})) : Type 0 where
  outside : session_in_ranges s ≡ false → r.answer ≡ Err (refusal outside_ranges) → r.session ≡ s → CameTo s r
  unsolvable : session_in_ranges s ≡ true → HasNone s → r.answer ≡ Err (refusal no_solution) → r.session ≡ s → CameTo s r
  filled : session_in_ranges s ≡ true → r.answer ≡ Ok tt → (v : View) → SolvedTo (view_of s) v → SeenAs v r.session → CameTo s r

stayed : {s r : Session} (a : Answer View) (x : Refusal) → After a s r → a ≡ refused x → r ≡ s
stayed {s} {r} a x state is = subst (λ (v : Answer View). After v s r) is state

pub came-to : (s : Session) (r : Returned (Unit {0})) → SolveOwes s r → CameTo s r
came-to s r o = pick (session_in_ranges s) refl
  where
    within : session_in_ranges s ≡ true → (a : Answer View) → o.wanted ≡ a → CameTo s r
    within inside (done v) is =
        filled inside (solved-told r.answer (Ok tt) (o.answer ∙ ap filled_of is)) v
        (subst (Solves (view_of s)) is (o.means.inside inside))
        (subst (λ (x : Answer View). After x s r.session) is o.state)
    within inside (refused why) is =
        let none = subst (Solves (view_of s)) is (o.means.inside inside) in
        unsolvable inside none.0
        (solved-told r.answer (Err (refusal no_solution))
        (o.answer ∙ ap filled_of is ∙ ap (λ (x : Refusal). refused x) none.1))
        (stayed o.wanted why o.state is)

    pick : (b : Bool) → session_in_ranges s ≡ b → CameTo s r
    pick true inside = within inside o.wanted refl
    pick false out =
        let is = o.means.outside out in
        outside out (solved-told r.answer (Err (refusal outside_ranges)) (o.answer ∙ ap filled_of is))
        (stayed o.wanted (refusal outside_ranges) o.state is)

-- the number that an answer reports, 0 if it is done
abbrev number_in : Result (Unit {0}) Refusal → ℕ
number_in (Ok x) = 0
number_in (Err x) = number_of x.reason

not-both : (s : Session) {A : Type 0} → session_in_ranges s ≡ false → session_in_ranges s ≡ true → A
not-both s out inside = absurd (false≢true (sym out ∙ inside))

module _ {s : Session} {r : Returned (Unit {0})} where
  17-outside : CameTo s r → r.answer ≡ Err (refusal outside_ranges) → session_in_ranges s ≡ false
  17-outside (outside out a stays) e = out
  17-outside (unsolvable inside none a stays) e = let z : ◌≡◌ {A = ℕ} 17 23 = ap number_in (sym e ∙ a) in absurd (omega arith)
  17-outside (filled inside a v t seen) e = let z : ◌≡◌ {A = ℕ} 17 0 = ap number_in (sym e ∙ a) in absurd (omega arith)

  outside-17 : CameTo s r → session_in_ranges s ≡ false → r.answer ≡ Err (refusal outside_ranges)
  outside-17 (outside out a stays) e = a
  outside-17 (unsolvable inside none a stays) e = not-both s e inside
  outside-17 (filled inside a v t seen) e = not-both s e inside

  23-none : CameTo s r → r.answer ≡ Err (refusal no_solution) → (session_in_ranges s ≡ true) × HasNone s
  23-none (outside out a stays) e = let z : ◌≡◌ {A = ℕ} 23 17 = ap number_in (sym e ∙ a) in absurd (omega arith)
  23-none (unsolvable inside none a stays) e = (inside, none)
  23-none (filled inside a v t seen) e = let z : ◌≡◌ {A = ℕ} 23 0 = ap number_in (sym e ∙ a) in absurd (omega arith)

  none-23 : CameTo s r → (session_in_ranges s ≡ true) × HasNone s → r.answer ≡ Err (refusal no_solution)
  none-23 (outside out a stays) e = not-both s out e.0
  none-23 (unsolvable inside none a stays) e = a
  none-23 (filled inside a v t seen) e = absurd (e.1 t.cells.some.0 t.cells.some.1)

  filled-some : CameTo s r → r.answer ≡ Ok tt → (session_in_ranges s ≡ true) × HasSolution s
  filled-some (outside out a stays) e = let z : ◌≡◌ {A = ℕ} 0 17 = ap number_in (sym e ∙ a) in absurd (omega arith)
  filled-some (unsolvable inside none a stays) e = let z : ◌≡◌ {A = ℕ} 0 23 = ap number_in (sym e ∙ a) in absurd (omega arith)
  filled-some (filled inside a v t seen) e = (inside, t.cells.some)

  some-filled : CameTo s r → (session_in_ranges s ≡ true) × HasSolution s → r.answer ≡ Ok tt
  some-filled (outside out a stays) e = not-both s out e.0
  some-filled (unsolvable inside none a stays) e = absurd (none e.1.0 e.1.1)
  some-filled (filled inside a v t seen) e = a

  filled-to : CameTo s r → r.answer ≡ Ok tt → SolvedTo (view_of s) (view_of r.session)
  filled-to (outside out a stays) e = let z : ◌≡◌ {A = ℕ} 0 17 = ap number_in (sym e ∙ a) in absurd (omega arith)
  filled-to (unsolvable inside none a stays) e = let z : ◌≡◌ {A = ℕ} 0 23 = ap number_in (sym e ∙ a) in absurd (omega arith)
  filled-to (filled inside a v t seen) e = subst (SolvedTo (view_of s)) (sym seen.view) t

  refused-stays : CameTo s r → (x : Refusal) → r.answer ≡ Err x → r.session ≡ s
  refused-stays (outside out a stays) x e = stays
  refused-stays (unsolvable inside none a stays) x e = stays
  refused-stays (filled inside a v t seen) x e = let z : done tt ≡ refused x = ap solved_outcome (sym a ∙ e) in absurd (not_done (sym z))

answers : SolveAnswers
answers =
    record {
      refused17 = λ s r o. (17-outside (came-to s r o), outside-17 (came-to s r o));
      refused23 = λ s r o. (23-none (came-to s r o), none-23 (came-to s r o));
      filled = λ s r o. (filled-some (came-to s r o), some-filled (came-to s r o));
      solved_to = λ s r o e. filled-to (came-to s r o) e;
      refused_stays = λ s r x o e. refused-stays (came-to s r o) x e;
    }

-- ---- over octets
session-octets : (s : Session) → OctetSession s → OfOctets (view_of s).cells (held_messages (view_of s).held)
unfolding view_in
session-octets s o = view-octets s.base s.table s.octets s.messages o.packets o.messages

over-octets : SolveOctets
over-octets =
    record {
      refused23 = λ s r o owes inside.
          let same = none-of-octets (view_of s) (view-sound s inside) (session-octets s o) in
          let came = came-to s r owes in
          ((λ e. same.0 (23-none came e).1), (λ none. none-23 came (inside, same.1 none)));
      known = λ s r o owes e p.
          let came = came-to s r owes in
          let t = filled-to came e in
          let same = one-octets (view_of s) (view-sound s (filled-some came e).0) (session-octets s o) p in
          ((λ k. same.0 (known-one t.cells p k)), (λ one. one_known t.cells p (same.1 one)));
    }

-- ---- one answer
pub one_answer_lem : (s : Session) (a b : Answer View) → SolvesAs s a → SolvesAs s b → a ≡ b
one_answer_lem s a b x y = pick (session_in_ranges s) refl
  where
    pick : (t : Bool) → session_in_ranges s ≡ t → a ≡ b
    pick true is = one-outcome (view_of s) a b (x.inside is) (y.inside is)
    pick false is = x.outside is ∙ sym (y.outside is)

same_after : (s : Session) (r q : Returned (Unit {0})) (x : SolveOwes s r) (a : Answer View) → x.wanted ≡ a
    → solved_outcome q.answer ≡ filled_of a → After a s q.session → r ≡ q
same_after s r q x a is answer state =
    ap₂ (λ x y. record { session = x; answer = y })
    (after_same a s (subst (λ (v : Answer View). After v s r.session) is x.state) state)
    (solved-told r.answer q.answer (x.answer ∙ ap filled_of is ∙ sym answer))

-- ---- a second call
second : (s : Session) (r q : Returned (Unit {0})) → CameTo s r → r.answer ≡ Ok tt → SolveOwes r.session q → q ≡ r
second s r q (outside out a stays) e b = let z : ◌≡◌ {A = ℕ} 0 17 = ap number_in (sym e ∙ a) in absurd (omega arith)
second s r q (unsolvable inside none a stays) e b = let z : ◌≡◌ {A = ℕ} 0 23 = ap number_in (sym e ∙ a) in absurd (omega arith)
second s r q (filled inside a v t seen) e b =
    let again : Solves v b.wanted =
    subst (λ (x : View). Solves x b.wanted) seen.view (b.means.inside (in-ranges-true seen.within)) in
    let is : b.wanted ≡ done v = nothing-more (view_of s) v b.wanted t again in
    same_after r.session q r b (done v) is (ap solved_outcome a) seen

pub claims : SolverClaims
claims =
    record {
      answers = answers;
      over_octets = over-octets;
      one_answer = one_answer_lem;
      one_outcome = λ s r q a b.
          same_after s r q a b.wanted (one_answer_lem s a.wanted b.wanted a.means b.means) b.answer b.state;
      after_solve = λ s r o inside. after-ranges o.wanted s r.session o.state inside;
      nothing_more = λ s r q o e b. second s r q (came-to s r o) e b;
    }
