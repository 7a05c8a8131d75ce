-- What comparing two traces comes to, refusal by refusal in their order. Assumes nothing.
use Prim.Native.Nat.{ℕ, ◌+◌, ◌≤◌, ◌<◌}
use mathlib.Core.Path.{◌≡◌, refl, sym, ap, ap₂, ◌∙◌}
use mathlib.Core.Bool.{Bool, true, false}
use mathlib.Core.List.{List, [], ◌∷◌, ◌++◌}
use mathlib.Core.Logic.{◌⊎◌, inl, inr, ◌↔◌, ⊎_elim}
use lib.ListN.{length}
use lib.Dec.{ltb}
use native.Mathlib.Omega.{arith}
use borrow.Author.Tests.{lt-ltb, le-ltb}
use Rattle.octets.proofs.Laws.{below_or_not}
use Rattle.length.specs.Refusals.{refusal, too_many_lines}
use Rattle.length.specs.Answers.{Answer, done}
use Rattle.length.specs.Tables.{when, unless}
use Rattle.length.specs.declared.Refusal.{Refusal}
use Rattle.line.specs.Lines.{lines_from}
use Rattle.trace_compare.specs.Pairing.{TraceLine}
use Rattle.trace_compare.specs.Entries.{Entry, entries}
use Rattle.trace_compare.specs.Told.{PlacedAnswer, told, stopped, Where, at, no_place, ◌>>=◌}
use Rattle.trace_compare.specs.Traces.{lines_limit, first_trace, second_trace, lines_read, trace_read, comparison}
use Rattle.trace_compare.specs.Claims.{Few, AllReadable, FirstUnread}
use Rattle.trace_compare.proofs.Reading.{all_read, first-refused, stopped-trace}

-- ---- by what was found
-- both traces as they were read
abbrev pub compared : PlacedAnswer (List TraceLine) → PlacedAnswer (List TraceLine) → PlacedAnswer (List Entry)
compared first second =
    ◌>>=◌ first (λ (a : List TraceLine). ◌>>=◌ second (λ (b : List TraceLine). told (entries a b)))

-- whether the traces are too long, and both as they were read
abbrev asked : Bool → Bool → PlacedAnswer (List TraceLine) → PlacedAnswer (List TraceLine) → PlacedAnswer (List Entry)
asked long longer first second =
    ◌>>=◌ (at no_place (unless (when long too_many_lines ∷ when longer too_many_lines ∷ []) (tt {0})))
    (λ (few : Unit {0}). compared first second)

module _ (first second : List ℕ) where
  -- the tests, in the definition's words
  by_tests : (long longer : Bool) → ltb lines_limit (length (lines_from [] first)) ≡ long
      → ltb lines_limit (length (lines_from [] second)) ≡ longer
      → comparison first second ≡ asked long longer (trace_read first_trace first) (trace_read second_trace second)
  unfolding comparison
  by_tests long longer one two =
      ap₂ (λ (p q : Bool). asked p q (trace_read first_trace first) (trace_read second_trace second)) one two

  pub too-many-first : lines_limit < length (lines_from [] first) → comparison first second ≡ stopped (refusal too_many_lines) no_place
  unfolding unless
  too-many-first over =
      by_tests true (ltb lines_limit (length (lines_from [] second))) (lt-ltb lines_limit (length (lines_from [] first)) over) refl

  pub too-many-second : lines_limit < length (lines_from [] second) → comparison first second ≡ stopped (refusal too_many_lines) no_place
  unfolding unless
  too-many-second over =
      ⊎_elim (λ first-over. too-many-first first-over)
      (λ few.
      by_tests false true (le-ltb lines_limit (length (lines_from [] first)) few) (lt-ltb lines_limit (length (lines_from [] second)) over))
      (below_or_not lines_limit (length (lines_from [] first)))

  pub few-compared : Few first second → comparison first second ≡ compared (trace_read first_trace first) (trace_read second_trace second)
  unfolding unless
  few-compared few =
      by_tests false false (le-ltb lines_limit (length (lines_from [] first)) few.left)
      (le-ltb lines_limit (length (lines_from [] second)) few.right)

  -- ---- 22 exactly
  never-22 : (a b : PlacedAnswer (List TraceLine)) → ((why : Refusal) (place : Where) → a ≡ stopped why place → place.trace ≡ first_trace)
      → ((why : Refusal) (place : Where) → b ≡ stopped why place → place.trace ≡ second_trace)
      → compared a b ≡ stopped (refusal too_many_lines) no_place → ⊥
  never-22 (stopped r p) b left right e =
      let same : p ≡ no_place = cc in
      absurd (omega (arith, left r p refl, ap (λ (w : Where). w.trace) same))
  never-22 (told a) (stopped r p) left right e =
      let same : p ≡ no_place = cc in
      absurd (omega (arith, right r p refl, ap (λ (w : Where). w.trace) same))
  never-22 (told a) (told b) left right e = let z : ◌≡◌ {A = ℕ} 0 1 = cc in absurd (omega arith)

  few-never : Few first second → comparison first second ≡ stopped (refusal too_many_lines) no_place → ⊥
  unfolding trace_read
  few-never few e =
      never-22 (trace_read first_trace first) (trace_read second_trace second)
      (stopped-trace first_trace 1 (lines_from [] first))
      (stopped-trace second_trace 1 (lines_from [] second))
      (sym (few-compared few) ∙ e)

  pub too-many-exactly : (comparison first second ≡ stopped (refusal too_many_lines) no_place)
      ↔ ((lines_limit < length (lines_from [] first)) ⊎ (lines_limit < length (lines_from [] second)))
  too-many-exactly = (forth, λ over. ⊎_elim too-many-first too-many-second over) where
    forth : comparison first second ≡ stopped (refusal too_many_lines) no_place
        → (lines_limit < length (lines_from [] first)) ⊎ (lines_limit < length (lines_from [] second))
    forth e =
        ⊎_elim (λ over. inl over)
        (λ few.
        ⊎_elim (λ over. inr over) (λ fewer. absurd (few-never (record { left = few; right = fewer }) e))
        (below_or_not lines_limit (length (lines_from [] second))))
        (below_or_not lines_limit (length (lines_from [] first)))

  -- ---- then the lines
  pub first-unread : (count : ℕ) (why : Refusal) → Few first second → FirstUnread (lines_from [] first) count why
      → comparison first second ≡ stopped why (record { trace = first_trace; line = count + 1 })
  unfolding trace_read
  first-unread count why few u =
      let place : 1 + length u.before ≡ count + 1 = omega (arith, u.counted) in
      few-compared few
      ∙ ap (λ (a : PlacedAnswer (List TraceLine)). compared a (trace_read second_trace second))
      (ap (lines_read first_trace 1) u.cut
      ∙ first-refused first_trace 1 u.before u.line u.after why u.readable u.some u.refused
      ∙ ap (λ (n : ℕ). stopped why (record { trace = first_trace; line = n })) place)

  pub second-unread : (count : ℕ) (why : Refusal) → Few first second → AllReadable (lines_from [] first)
      → FirstUnread (lines_from [] second) count why
      → comparison first second ≡ stopped why (record { trace = second_trace; line = count + 1 })
  unfolding trace_read
  second-unread count why few all u =
      let place : 1 + length u.before ≡ count + 1 = omega (arith, u.counted) in
      few-compared few
      ∙ ap₂ compared
      (all_read first_trace 1 (lines_from [] first) all).1
      (ap (lines_read second_trace 1) u.cut
      ∙ first-refused second_trace 1 u.before u.line u.after why u.readable u.some u.refused
      ∙ ap (λ (n : ℕ). stopped why (record { trace = second_trace; line = n })) place)

  pub both-listed : Few first second → AllReadable (lines_from [] first) → AllReadable (lines_from [] second)
      → (listed : List Entry) × (comparison first second ≡ told listed)
  unfolding trace_read
  both-listed few left right =
      let a = all_read first_trace 1 (lines_from [] first) left in
      let b = all_read second_trace 1 (lines_from [] second) right in
      (entries a.0 b.0, few-compared few ∙ ap₂ compared a.1 b.1)

  -- ---- what entries say of the traces
  pub record Listed (listed : List Entry) : Type 0 where
    pub few : Few first second
    pub left : List TraceLine
    pub right : List TraceLine
    pub read_first : trace_read first_trace first ≡ told left
    pub read-second : trace_read second_trace second ≡ told right
    pub are : listed ≡ entries left right

  both_told : (a b : PlacedAnswer (List TraceLine)) (listed : List Entry) → compared a b ≡ told listed
      → (left : List TraceLine) × (right : List TraceLine) × (a ≡ told left) × (b ≡ told right) × (listed ≡ entries left right)
  both_told (told a) (told b) listed e = let same : entries a b ≡ listed = cc in (a, b, refl, refl, sym same)
  both_told (told a) (stopped r p) listed e = let z : ◌≡◌ {A = ℕ} 0 1 = cc in absurd (omega arith)
  both_told (stopped r p) b listed e = let z : ◌≡◌ {A = ℕ} 0 1 = cc in absurd (omega arith)

  pub listed-traces : (listed : List Entry) → comparison first second ≡ told listed → Listed listed
  listed-traces listed e =
      ⊎_elim (λ over. absurd (not-both (too-many-first over)))
      (λ few.
      ⊎_elim (λ over. absurd (not-both (too-many-second over)))
      (λ fewer.
      let some-lines : Few first second = record { left = few; right = fewer } in
      let so = both_told (trace_read first_trace first) (trace_read second_trace second) listed (sym (few-compared some-lines) ∙ e) in
      record { few = some-lines; left = so.0; right = so.1; read_first = so.2; read-second = so.3; are = so.4 })
      (below_or_not lines_limit (length (lines_from [] second))))
      (below_or_not lines_limit (length (lines_from [] first)))
    where
      not-both : comparison first second ≡ stopped (refusal too_many_lines) no_place → ⊥
      not-both is = let z : ◌≡◌ {A = ℕ} 0 1 = cc in omega arith
