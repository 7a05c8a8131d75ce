-- The releases after a line stop at 10 or 16: a packet has room, and after as many releases as there are numbers from the base
-- on, the base is a number that came into view unknown. Assumes nothing.
use Prim.Native.Nat.{ℕ, zero, suc, ◌+◌, ◌-◌, ◌≤◌, ◌<◌}
use mathlib.Core.Path.{◌≡◌, refl, ap, ◌∙◌}
use mathlib.Core.Bool.{Bool, true, false, not, cond, ◌&&◌}
use mathlib.Core.List.{List, [], ◌∷◌, ◌++◌}
use mathlib.Core.Logic.{◌⊎◌, inl, inr, ⊎_elim}
use lib.ListN.{length, drop, length-append, length-drop, get_or-append}
use lib.Seq.{get_or-drop, get_or_at}
use lib.Dec.{leb}
use native.Mathlib.Omega.{arith}
use borrow.Author.Tests.{le-ltb}
use Rattle.octets.proofs.Laws.{below_or_not, and_both}
use Rattle.length.specs.Refusals.{base_unknown, all_passed, no_room, refusal}
use Rattle.length.specs.Answers.{Answer, done, refused, refuse}
use Rattle.length.specs.declared.Refusal.{Refusal}
use Rattle.datagram.specs.Sizes.{packet_limit}
use Rattle.session.specs.Cells.{Cell, cell_at, unknown_at, unknown_cell, blank_cell, kept_before, kept_ahead, kept_numbers}
use Rattle.session.specs.View.{View, Counts, sum, session_limit, gone_on}
use Rattle.session.specs.Ranges.{Sound}
use Rattle.session.specs.Release.{Release, counted, release, at_base}
use Rattle.session.proofs.Laws.{size_fits}
use Rattle.line.specs.Lines.{onward, releases_f, releases}
use Rattle.line.specs.Claims.{ReleasesAll}

-- ---- a release without leave, with room for any packet
abbrev pub Stops : View → Type 0
Stops view = (release false packet_limit view ≡ refuse base_unknown) ⊎ (release false packet_limit view ≡ refuse all_passed)

data Asked (view : View) : Type 0 where
  goes : (r : Release) (counts : Counts) → release false packet_limit view ≡ done r → r.after ≡ gone_on counts view → Asked view
  unknown : release false packet_limit view ≡ refuse base_unknown → Asked view
  passed : release false packet_limit view ≡ refuse all_passed → Asked view

-- its three tests
data Tested (x y : Refusal) (a : Release) (r : Answer Release) : Type 0 where
  first : r ≡ refused x → Tested x y a r
  second : r ≡ refused y → Tested x y a r
  neither : r ≡ done a → Tested x y a r

tested : (b₁ b₂ b₃ : Bool) (x y z : Refusal) (a : Release) → b₃ ≡ false
    → Tested x y a (cond b₁ (refused x) (cond b₂ (refused y) (cond b₃ (refused z) (done a))))
tested true b₂ b₃ x y z a e = first refl
tested false true b₃ x y z a e = second refl
tested false false b₃ x y z a e = neither (ap (λ (b : Bool). cond b (refused z) (done a)) e)

asked : (view : View) → length (at_base view).octets ≤ packet_limit → Asked view
unfolding release
asked view fits = from (tested (leb session_limit (sum view.counts)) (unknown_at view.cells kept_before && not false) _
    (refusal all_passed) (refusal base_unknown)
    (refusal no_room) handed (le-ltb packet_limit (length (at_base view).octets) fits))
  where
    moved : Counts
    moved = counted (at_base view).state view.counts

    handed : Release
    handed =
        record {
          kind = (at_base view).state;
          number = view.base;
          note = (at_base view).note;
          octets = (at_base view).octets;
          after = gone_on moved view;
        }

    from : Tested (refusal all_passed) (refusal base_unknown) handed (release false packet_limit view) → Asked view
    from (first e) = passed e
    from (second e) = unknown e
    from (neither e) = goes handed moved e refl

-- ---- the numbers ahead
-- every packet fits, and from so many numbers after the base on all are unknown
record Ahead (left : ℕ) (cells : List Cell) : Type 0 where
  long : length cells ≡ kept_numbers
  fits : (p : ℕ) → p < kept_numbers → length (cell_at cells p).octets ≤ packet_limit
  unknown : (p : ℕ) → kept_before + left ≤ p → p < kept_numbers → unknown_at cells p ≡ true

-- the base goes on
ahead-cells : (cells : List Cell) (p : ℕ) → length cells ≡ kept_numbers → p < kept_numbers
    → ((cell_at (drop 1 cells ++ (unknown_cell ∷ [])) p ≡ cell_at cells (p + 1)) × (p + 1 < kept_numbers))
    ⊎ (cell_at (drop 1 cells ++ (unknown_cell ∷ [])) p ≡ unknown_cell)
ahead-cells cells p long inside =
    let left : length (drop 1 cells) ≡ kept_numbers - 1 = omega (arith, length-drop 1 cells) in
    let one : 1 + p ≡ p + 1 = omega arith in
    ⊎_elim
    (λ below.
    inl (
      get_or-append (drop 1 cells) (unknown_cell ∷ []) blank_cell p (omega arith)
          ∙ get_or-drop 1 cells p blank_cell
          ∙ ap (λ (k : ℕ). cell_at cells k) one,
      omega arith,
    ))
    (λ past. inr (get_or_at (drop 1 cells) unknown_cell [] blank_cell p (omega arith)))
    (below_or_not p (kept_numbers - 1))

ahead-on : (left : ℕ) (cells : List Cell) → Ahead (suc left) cells → Ahead left (drop 1 cells ++ (unknown_cell ∷ []))
ahead-on left cells a =
    record {
      long = length-append (drop 1 cells) (unknown_cell ∷ []) ∙ omega (arith, length-drop 1 cells, a.long);
      fits = λ p inside.
          ⊎_elim (λ e. rw e.0 (a.fits (p + 1) e.1)) (λ e. rw e (omega arith)) (ahead-cells cells p a.long inside);
      unknown = λ p past inside.
          ⊎_elim (λ e. rw e.0 (a.unknown (p + 1) (omega arith) e.1)) (λ e. rw e refl) (ahead-cells cells p a.long inside);
    }

-- an unknown base
unknown-tested : (b u : Bool) (x y : Refusal) (rest : Answer Release) → u ≡ true
    → (cond b (refused x) (cond u (refused y) rest) ≡ refused y) ⊎ (cond b (refused x) (cond u (refused y) rest) ≡ refused x)
unknown-tested true u x y rest e = inr refl
unknown-tested false u x y rest e = inl (ap (λ (v : Bool). cond v (refused y) rest) e)

unknown-stops : (view : View) → unknown_at view.cells kept_before ≡ true → Stops view
unfolding release
unknown-stops view e =
    unknown-tested (leb session_limit (sum view.counts)) _ (refusal all_passed) (refusal base_unknown) _ (and_both e refl)

-- ---- all releases
cells-on : (counts : Counts) (view : View) → (gone_on counts view).cells ≡ drop 1 view.cells ++ (unknown_cell ∷ [])
unfolding gone_on
cells-on counts view = refl

stays : (left : ℕ) (view : View) {x : Refusal} → release false packet_limit view ≡ refused x
    → (onward (release false packet_limit view) (releases_f left) view).after ≡ view
stays left view e = ap (λ (r : Answer Release). (onward r (releases_f left) view).after) e

turn : (left : ℕ) (view : View) → Ahead (suc left) view.cells
    → ((v : View) → Ahead left v.cells → Stops (releases_f left v).after) → Asked view
    → Stops (onward (release false packet_limit view) (releases_f left) view).after
turn left view a more (goes r counts e on) =
    let after : (onward (release false packet_limit view) (releases_f left) view).after ≡ (releases_f left (gone_on counts view)).after =
    ap (λ (x : Answer Release). (onward x (releases_f left) view).after) e ∙ ap (λ (v : View). (releases_f left v).after) on in
    rw after (more (gone_on counts view) (rw (cells-on counts view) (ahead-on left view.cells a)))
turn left view a more (unknown e) = rw (stays left view e) (inl e)
turn left view a more (passed e) = rw (stays left view e) (inr e)

releases-stop : (left : ℕ) (view : View) → Ahead left view.cells → Stops (releases_f left view).after
unfolding releases_f
releases-stop zero view a = unknown-stops view (a.unknown kept_before (omega arith) (omega arith))
releases-stop (suc left) view a =
    turn left view a (λ v ahead. releases-stop left v ahead) (asked view (a.fits kept_before (omega arith)))

-- a session within its ranges
pub sound-stops : {view : View} → Sound view → Stops (releases view).after
sound-stops {view} s =
    releases-stop kept_ahead view
    (record {
      long = s.kept;
      fits = λ p inside. size_fits _ _ _ (s.cell p inside);
      unknown = λ p past inside. absurd (omega arith);
    })

pub releases-all : ReleasesAll
releases-all session w = sound-stops w.sound
