-- The loop of turns: what was written so far, then as many turns as are left, is the whole. Assumes nothing.
use Prim.Native.Nat.{ℕ, zero, suc, ◌+◌, ◌-◌, ◌*◌, ◌%◌, ◌≤◌, ◌<◌}
use mathlib.Core.Path.{◌≡◌, refl, sym, ap, ◌∙◌}
use mathlib.Core.Bool.{Bool, true, false, false≢true, not, cond, ◌&&◌}
use mathlib.Core.List.{List, [], ◌++◌, append_assoc, append-nil}
use lib.ListN.{length}
use lib.Dec.{leb, ltb}
use native.Mathlib.Nat.{not-suc-le-zero}
use native.Mathlib.Omega.{arith}
use borrow.Author.Tests.{not-false, lt-ltb, le-ltb, ltb-true, ltb-false}
use Rattle.length.specs.Answers.{Answer, done, refused}
use Rattle.length.specs.declared.Refusal.{Refusal}
use Rattle.datagram.specs.Sizes.{packet_limit}
use Rattle.session.specs.Cells.{is_unknown, unknown_at, kept_before, kept_ahead}
use Rattle.session.specs.View.{View, sum, session_limit}
use Rattle.session.specs.Release.{Release, at_base, release}
use Rattle.session_held.specs.Slots.{slot_at, slots_kept}
use Rattle.session_held.specs.Table.{Lent, view_in, state_in, state_numbered}
use Rattle.session_held.specs.Laid.{InRanges}
use Rattle.session_held.proofs.Laws.{unknown-at}
use Rattle.line.specs.Lines.{Made, silent, ◌then◌, onward, releases_f, releases, release_made}
use Rattle.line.specs.Promise.{Appends, Does, Able, goes_on, result_limit, ReleasesOne}
use Rattle.line.proofs.Laws.{appends-none, appends-then, appends-long}
use Rattle.line_code.specs.Turns.{turns}

-- ---- the definition, as the loop goes
onward-goes : (x : Answer Release) (f : View → Made) (view : View) → true ≡ goes_on x → onward x f view ≡ (release_made false x view then f)
onward-goes (done r) f view goes = refl
onward-goes (refused x) f view goes = absurd (false≢true (sym goes))

onward_stops : (x : Answer Release) (f : View → Made) (view : View) → false ≡ goes_on x → onward x f view ≡ release_made false x view
onward_stops (done r) f view stops = absurd (false≢true stops)
onward_stops (refused x) f view stops = refl

one_of : (left : ℕ) (view : View) → 0 < left → releases_f left view ≡ onward (release false packet_limit view) (releases_f (left - 1)) view
unfolding releases_f
one_of zero view some = absurd (not-suc-le-zero some)
one_of (suc left) view some =
    let e : suc left - 1 ≡ left = omega arith in
    ap (λ (k : ℕ). onward (release false packet_limit view) (releases_f k) view) (sym e)

-- an unknown base is not released
refused-both : (b : Bool) (x y : Refusal) → goes_on (cond b (refused x) (refused y)) ≡ false
refused-both true x y = refl
refused-both false x y = refl

unknown-stops : (view : View) → unknown_at view.cells kept_before ≡ true → goes_on (release false packet_limit view) ≡ false
unfolding release
unknown-stops view unknown = rw unknown (refused-both (leb session_limit (sum view.counts)) _ _)

stops-silent : (x : Answer Release) (view : View) → goes_on x ≡ false → release_made false x view ≡ silent view
stops-silent (done r) view e = absurd (false≢true (sym e))
stops-silent (refused x) view e = refl

-- what is refused with leave is refused without
refused-too : (passed unknown short : Bool) (x y z : Refusal) (r : Release)
    → goes_on (cond passed (refused x) (cond (unknown && not true) (refused y) (cond short (refused z) (done r)))) ≡ false
    → goes_on (cond passed (refused x) (cond (unknown && not false) (refused y) (cond short (refused z) (done r)))) ≡ false
refused-too true unknown short x y z r e = refl
refused-too false true short x y z r e = refl
refused-too false false true x y z r e = refl
refused-too false false false x y z r e = e

stops-too : (view : View) → goes_on (release true packet_limit view) ≡ false → goes_on (release false packet_limit view) ≡ false
unfolding release
stops-too view e =
    refused-too (leb session_limit (sum view.counts)) (unknown_at view.cells kept_before)
    (ltb packet_limit (length (at_base view).octets)) _ _ _ _ e

-- ---- one turn of many
then_same : (a : Made) (f g : View → Made) → f a.after ≡ g a.after → (a then f) ≡ (a then g)
then_same a f g e = ap (λ (m : Made). record { text = a.text ++ m.text; after = m.after }) e

turns-plain : (left : ℕ) (view : View) → left ≤ kept_ahead → turns left view ≡ releases_f left view
unfolding turns
turns-plain left view low = rw (le-ltb kept_ahead left low)

turns-first : (left : ℕ) (view : View) → kept_ahead < left
    → turns left view ≡ (release_made true (release true packet_limit view) view then releases)
unfolding turns
turns-first left view high = rw (lt-ltb kept_ahead left high)

-- something is released
turn-goes : (left : ℕ) (leave : Bool) (view : View) → leave ≡ ltb kept_ahead left → 0 < left → left ≤ kept_ahead + 1
    → true ≡ goes_on (release leave packet_limit view)
    → turns left view ≡ (release_made leave (release leave packet_limit view) view then turns (left - 1))
turn-goes left true view first some few goes =
    let a = release_made true (release true packet_limit view) view in
    let high = ltb-true kept_ahead left (sym first) in
    let e : left - 1 ≡ kept_ahead = omega arith in
    turns-first left view high
    ∙ then_same a releases (turns (left - 1))
    (ap (λ (k : ℕ). releases_f k a.after) (sym e) ∙ sym (turns-plain (left - 1) a.after (omega arith)))
turn-goes left false view first some few goes =
    let a = release_made false (release false packet_limit view) view in
    let low = ltb-false kept_ahead left (sym first) in
    turns-plain left view low
    ∙ one_of left view some
    ∙ onward-goes (release false packet_limit view) (releases_f (left - 1)) view goes
    ∙ then_same a (releases_f (left - 1)) (turns (left - 1)) (sym (turns-plain (left - 1) a.after (omega arith)))

-- nothing is released
refused-after : (leave : Bool) (x : Answer Release) (view : View) → goes_on x ≡ false → (release_made leave x view).after ≡ view
refused-after leave (done r) view e = absurd (false≢true (sym e))
refused-after leave (refused x) view e = refl

releases-none : (left : ℕ) (view : View) → 0 < left → goes_on (release false packet_limit view) ≡ false → releases_f left view ≡ silent view
releases-none left view some stops =
    one_of left view some
    ∙ onward_stops (release false packet_limit view) (releases_f (left - 1)) view (sym stops)
    ∙ stops-silent (release false packet_limit view) view stops

turn-stops : (left : ℕ) (leave : Bool) (view : View) → leave ≡ ltb kept_ahead left → 0 < left
    → false ≡ goes_on (release leave packet_limit view)
    → turns left view ≡ release_made leave (release leave packet_limit view) view
turn-stops left true view first some stops =
    let a = release_made true (release true packet_limit view) view in
    let stays = refused-after true (release true packet_limit view) view (sym stops) in
    let none : releases a.after ≡ silent a.after =
    ap releases stays ∙ releases-none kept_ahead view (omega arith) (stops-too view (sym stops)) ∙ ap silent (sym stays) in
    turns-first left view (ltb-true kept_ahead left (sym first))
    ∙ then_same a releases silent none
    ∙ ap (λ (t : List ℕ). record { text = t; after = a.after }) (append-nil a.text)
turn-stops left false view first some stops =
    turns-plain left view (ltb-false kept_ahead left (sym first))
    ∙ one_of left view some
    ∙ onward_stops (release false packet_limit view) (releases_f (left - 1)) view stops

-- ---- the loop
-- so many turns are left
pub record Left (goal : Made) (old : List ℕ) (at : ℕ) (session : Lent) (out : List ℕ) (end left : ℕ) : Type 0 where
  pub text : List ℕ
  pub laid : Appends text old at out end
  pub whole : goal ≡ ((record { text = text; after = view_in session }) then turns left)
  pub within : InRanges session
  pub room : end + left * result_limit ≤ length old
  pub long : length out ≡ length old
  pub few : left ≤ kept_ahead + 1

pub left-start : {session : Lent} {out : List ℕ} {at n left : ℕ} → left ≡ n → n ≤ kept_ahead + 1 → Able (n * result_limit) session out at
    → Left (turns n (view_in session)) out at session out at left
left-start all few able =
    rw all
    (record {
      text = [];
      laid = appends-none (omega (arith, able.room));
      whole = refl;
      within = able.within;
      room = able.room;
      long = refl;
      few = few;
    })

-- before a turn
pub left-ready : {goal : Made} {old : List ℕ} {at : ℕ} {session : Lent} {out : List ℕ} {end left : ℕ}
    → Left goal old at session out end left
    → 0 < left → Able result_limit session out end
left-ready l some = record { within = l.within; room = omega (arith, l.room, l.long) }

module _ {goal : Made} {old : List ℕ} {at : ℕ} {session : Lent} {out : List ℕ} {end left : ℕ} (l : Left goal old at session out end left)
  where
    -- what is left writes nothing
    left-silent : turns left (view_in session) ≡ silent (view_in session) → Does goal old at session end out
    left-silent none =
        let all : goal ≡ record { text = l.text ++ []; after = view_in session } =
        l.whole ∙ ap (λ (m : Made). record { text = l.text ++ m.text; after = m.after }) none in
        record { lent = rw (all, append-nil l.text) l.laid; state = rw all refl; within = l.within }

    -- nothing is left
    pub left-done : left ≤ 0 → Does goal old at session end out
    unfolding releases_f
    left-done none =
        let e : left ≡ 0 = omega arith in
        left-silent (turns-plain left (view_in session) (omega arith) ∙ ap (λ (k : ℕ). releases_f k (view_in session)) e)

    -- the base is unknown, and the turn has no leave: all was released
    pub left-unknown : 0 < left → {slot : ℕ} {was : Bool} → slot ≡ session.base % slots_kept
        → was ≡ not (is_unknown (state_numbered (state_in session.table slot))) → was ≡ false → left ≤ kept_ahead
        → Does goal old at session end out
    unfolding view_in
    left-unknown some {slot} e-slot e-was not-known last =
        let v = view_in session in
        let place : slot ≡ slot_at session.base kept_before = omega arith in
        let known : not (is_unknown (state_numbered (state_in session.table slot))) ≡ false =
        sym e-was ∙ not-known in
        let unknown : is_unknown (state_numbered (state_in session.table slot)) ≡ true =
        not-false (is_unknown (state_numbered (state_in session.table slot))) known in
        let at_base_lem : is_unknown (state_numbered (state_in session.table (slot_at session.base kept_before)))
        ≡ true = rw place at unknown in
        let stops = unknown-stops v (unknown-at session.base session.table session.octets kept_before (omega arith) ∙ at_base_lem) in
        left-silent (turns-plain left v last ∙ releases-none left v some stops)

    module _ (some : 0 < left) {leave : Bool} (first : leave ≡ ltb kept_ahead left) {after : Lent} {later : ℕ} {more : Bool} {new : List ℕ}
        (r : ReleasesOne leave (view_in session) out end after later more new) where
      -- something was released
      pub left-turn : more ≡ true → {next : ℕ} → next ≡ left - 1 → Left goal old at after new later next
      left-turn goes fewer =
          let v = view_in session in
          let a = release_made leave (release leave packet_limit v) v in
          let b = turns (left - 1) a.after in
          let step : turns left v ≡ (a then turns (left - 1)) = turn-goes left leave v first some l.few (sym goes ∙ r.goes) in
          rw fewer
          (record {
            text = l.text ++ a.text;
            laid = appends-then l.laid r.does.lent;
            whole =
                l.whole
                ∙ ap (λ (m : Made). record { text = l.text ++ m.text; after = m.after }) step
                ∙ ap (λ (t : List ℕ). record { text = t; after = b.after }) (sym (append_assoc l.text a.text b.text))
                ∙ ap (λ (w : View). (record { text = l.text ++ a.text; after = w }) then turns (left - 1)) (sym r.does.state);
            within = r.does.within;
            room = omega (arith, l.room, r.few);
            long = appends-long r.does.lent ∙ l.long;
            few = omega (arith, l.few);
          })

      -- nothing was released: all was
      pub left-stop : more ≡ false → Does goal old at after later new
      left-stop stops =
          let v = view_in session in
          let a = release_made leave (release leave packet_limit v) v in
          let step : turns left v ≡ a = turn-stops left leave v first some (sym stops ∙ r.goes) in
          let all : goal ≡ record { text = l.text ++ a.text; after = a.after } =
          l.whole ∙ ap (λ (m : Made). record { text = l.text ++ m.text; after = m.after }) step in
          record {
            lent = rw all (appends-then l.laid r.does.lent);
            state = rw all r.does.state;
            within = r.does.within;
          }
