-- A line taken in from the input, on plain values. Assumes nothing.
use Prim.Native.Nat.{ℕ, ◌+◌, ◌≤◌, ◌<◌}
use mathlib.Core.Path.{◌≡◌, refl, sym, ap, ap₂, ◌∙◌}
use mathlib.Core.List.{List, [], ◌∷◌, ◌++◌}
use lib.ListN.{length, get_or, take, length-take}
use lib.Seq.{take-suc, take-length, length-take-le, get_or-take}
use native.Mathlib.Numerals.{add-one}
use native.Mathlib.Omega.{arith}
use borrow.Author.Tests.{eq-eqb, ne_eqb}
use Rattle.session.specs.View.{View}
use Rattle.session_held.specs.Table.{Lent, view_in}
use Rattle.line.specs.Lines.{step}
use Rattle.line.specs.Feed.{Going, kept_limit, line_done, fed, at_end, going_in}
use Rattle.line.specs.Promise.{Does, step_limit}
use Rattle.line.specs.FeedPromise.{Begun, Found, LineIn, LineKept, Feedable, TakesLine, Ends}
use Rattle.line.proofs.Laws.{appends-front, appends-rest, appends-long, NoFeed, fed-append, fed-plain, taken_in-feed, keeps-all}
use Rattle.line.proofs.Laws.{step_kept, begun-length}
use Rattle.line_code.proofs.FeedSteps.{found_inside, found_nowhere}

-- ---- up to a line feed, or to the end
plain-part : (s : List ℕ) (at : ℕ) → Begun s at → NoFeed (take at s) (length (take at s))
plain-part s at b k below e =
    let size = length-take-le at s b.inside in
    b.plain k (omega arith) (sym (get_or-take at s k 0 (omega arith)) ∙ e)

fed-line : (s : List ℕ) (at : ℕ) (now : Going) → Found s at → at < length s → length now.begun ≤ kept_limit
    → fed (take (at + 1) s) now
    ≡ line_done (record { text = now.text; view = now.view; begun = take kept_limit (now.begun ++ take at s) })
unfolding fed
fed-line s at now f inside short =
    let feed = f.feed inside in
    ap (λ (k : ℕ). fed (take k s) now) (add-one at)
    ∙ ap (λ (l : List ℕ). fed l now) (take-suc s at 0 inside)
    ∙ fed-append (take at s) (get_or s at 0 ∷ []) now
    ∙ ap (λ (m : Going). fed (get_or s at 0 ∷ []) m) (fed-plain (take at s) now (plain-part s at f.begun) short)
    ∙ taken_in-feed (get_or s at 0) _ feed

-- what a step owes, as the program part way
does-going : (l : List ℕ) (view : View) {out : List ℕ} {at : ℕ} {session : Lent} {end : ℕ} {new : List ℕ} (line : List ℕ)
    → Does (step l view) out at session end new
    → going_in session line 0 new end ≡ line_done (record { text = take at out; view = view; begun = l })
unfolding line_done
does-going l view {out} {at} {session} {end} {new} line d =
    ap₂ (λ (t : List ℕ) (v : View). record { text = t; view = v; begun = [] }) (appends-front d.lent) d.state

length-begun : (line : List ℕ) (begun : ℕ) → begun ≤ kept_limit → length (take begun line) ≤ kept_limit
length-begun line begun short = omega (arith, length-take begun line)

module _ {session : Lent} {line : List ℕ} {begun : ℕ} {s out : List ℕ} {at : ℕ} (able : Feedable step_limit session line begun out at)
    (some : 1 ≤ length s) where
  -- no line feed: the line has gone on
  pub takes_part : {stop kept : ℕ} {new : List ℕ} → Found s stop → length s ≤ stop → LineKept line begun s new kept
      → TakesLine (going_in session line begun out at) s out at session new kept stop out at
  takes_part {stop} {kept} {new} f past k =
      let all : stop ≡ length s = omega (arith, f.begun.inside) in
      let whole : take stop s ≡ s = ap (λ (n : ℕ). take n s) all ∙ take-length s in
      record {
        takes =
            record {
              state =
                  ap (λ (l : List ℕ). record { text = take at out; view = view_in session; begun = l }) k.line
                  ∙ sym
                  (ap (λ (l : List ℕ). fed l (going_in session line begun out at)) whole
                  ∙ fed-plain s (going_in session line begun out at)
                  (rw whole at (plain-part s stop f.begun))
                  (length-begun line begun able.line.short));
              within = able.able.within;
              line = k.holds;
              inside = omega arith;
              fits = omega (arith, able.able.room);
              rest = refl;
              long = refl;
            };
        all = found_nowhere f past;
        some = omega arith;
        later = omega arith;
      }

  -- a line feed: the line is done
  pub takes-line : {stop : ℕ} (l : List ℕ) {after : Lent} {end : ℕ} {new : List ℕ} (new_line : List ℕ) → Found s stop → stop < length s
      → step l (view_in session) ≡ step (take kept_limit (take begun line ++ take stop s)) (view_in session)
      → Does (step l (view_in session)) out at after end new → LineIn new_line 0
      → TakesLine (going_in session line begun out at) s out at after new_line 0 (stop + 1) new end
  unfolding line_done
  takes-line {stop} l {after} {end} {new} new_line f inside same d none =
      record {
        takes =
            record {
              state =
                  does-going _ _ new_line (rw same at d)
                  ∙ sym (fed-line s stop (going_in session line begun out at) f inside (length-begun line begun able.line.short));
              within = d.within;
              line = none;
              inside = omega arith;
              fits = omega (arith, d.lent.after, d.lent.fits);
              rest = appends-rest d.lent;
              long = appends-long d.lent;
            };
        all = found_inside f inside;
        some = omega arith;
        later = omega (arith, d.lent.after);
      }

-- the line that is done: it has begun in this block, or before
pub at_once : (line s : List ℕ) {begun : ℕ} (stop : ℕ) (view : View) → begun ≡ 0
    → step (take stop s) view ≡ step (take kept_limit (take begun line ++ take stop s)) view
at_once line s {begun} stop view none =
    sym (step_kept (take stop s) (take kept_limit (take stop s)) view (keeps-all (take stop s)))
    ∙ ap (λ (n : ℕ). step (take kept_limit (take n line ++ take stop s)) view) (sym none)

pub none-begun : {line : List ℕ} {begun : ℕ} → begun ≡ 0 → LineIn line begun → LineIn line 0
none-begun none held = rw none at held

pub kept-before : {line more new : List ℕ} {begun kept : ℕ} (view : View) → LineKept line begun more new kept
    → step (take kept new) view ≡ step (take kept_limit (take begun line ++ more)) view
kept-before view k = ap (λ (l : List ℕ). step l view) k.line

-- ---- the end of the input
module _ {session : Lent} {line : List ℕ} {begun : ℕ} {out : List ℕ} {at : ℕ} (able : Feedable step_limit session line begun out at)
  where
    pub ends-between : begun ≡ 0 → Ends (going_in session line begun out at) out session out at
    unfolding at_end
    ends-between none =
        record {
          state =
              rw (eq-eqb (length (take begun line)) 0 (begun-length able.line ∙ none))
              (ap (λ (n : ℕ). going_in session line n out at) (sym none));
          within = able.able.within;
          fits = omega (arith, able.able.room);
          rest = refl;
          long = refl;
        }

    pub ends-line : {after : Lent} {end : ℕ} {new : List ℕ} → (begun ≡ 0 → ⊥)
        → Does (step (take begun line) (view_in session)) out at after end new
        → Ends (going_in session line begun out at) out after new end
    unfolding at_end
    ends-line some d =
        record {
          state =
              rw (ne_eqb (length (take begun line)) 0 (λ e. some (sym (begun-length able.line) ∙ e)))
              (does-going _ _ [] d);
          within = d.within;
          fits = omega (arith, d.lent.after, d.lent.fits);
          rest = appends-rest d.lent;
          long = appends-long d.lent;
        }
