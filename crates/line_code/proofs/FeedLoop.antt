-- One line after the other taken in from a block, on plain values. Assumes nothing.
use Prim.Native.Nat.{ℕ, ◌+◌, ◌-◌, ◌≤◌, ◌<◌}
use mathlib.Core.Path.{◌≡◌, refl, sym, ap, ap₂, ◌∙◌}
use mathlib.Core.List.{List}
use mathlib.Core.Bool.{true}
use lib.ListN.{length, take, drop, length-drop, drop_of_length-le}
use lib.Seq.{take-add, take_all, length-take-le, drop-drop}
use native.Mathlib.Omega.{arith}
use Rattle.session_held.specs.Table.{Lent}
use Rattle.line.specs.Feed.{Going, fed, going_in}
use Rattle.line.specs.Promise.{step_limit}
use Rattle.line.specs.FeedPromise.{line_end, taken_of, Feedable, Takes, TakesLine, Feeds}
use Rattle.line.proofs.Laws.{fed-append}
use Rattle.line.proofs.Laws.{taken-full, taken-line}

-- some of the block is taken in
pub record Fed (before : Going) (s old l₀ : List ℕ) (session : Lent) (l : List ℕ) (kept taken : ℕ) (out : List ℕ) (end : ℕ) : Type 0 where
  pub takes : Takes before s old session l kept taken out end
  pub goes : taken_of (length old) true s before ≡ taken + taken_of (length old) true (drop taken s) (going_in session l kept out end)
  pub line-long : length l ≡ length l₀

-- what is left of the block
left-of : (s : List ℕ) (taken : ℕ) → take (length s - taken) (drop taken s) ≡ drop taken s
left-of s taken = take_all (length s - taken) (drop taken s) (omega (arith, length-drop taken s))

pub left-some : (s : List ℕ) (taken : ℕ) → taken < length s → 1 ≤ length (take (length s - taken) (drop taken s))
left-some s taken left = rw (left-of s taken) (omega (arith, length-drop taken s))

pub left-inside : {before : Going} (s : List ℕ) {out : List ℕ} {at : ℕ} {session : Lent} {l : List ℕ} {begun took : ℕ} {new : List ℕ}
    {end : ℕ}
    (taken : ℕ) → taken < length s → TakesLine before (take (length s - taken) (drop taken s)) out at session l begun took new end
    → taken + took ≤ length s
left-inside s taken left t = omega (arith, t.takes.inside, ap length (left-of s taken), length-drop taken s)

pub fed-start : {session : Lent} {l : List ℕ} {begun : ℕ} {out : List ℕ} {at : ℕ} (s : List ℕ) → Feedable 0 session l begun out at
    → Fed (going_in session l begun out at) s out l session l begun 0 out at
unfolding fed
fed-start s able =
    record {
      takes =
          record {
            state = refl;
            within = able.able.within;
            line = able.line;
            inside = omega arith;
            fits = omega (arith, able.able.room);
            rest = refl;
            long = refl;
          };
      goes = omega arith;
      line-long = refl;
    }

module _ {before : Going} {s old l₀ : List ℕ} {session : Lent} {l : List ℕ} {kept taken : ℕ} {out : List ℕ} {end : ℕ}
    (f : Fed before s old l₀ session l kept taken out end) where
  -- what is written so far
  written : length (take end out) ≡ end
  written = length-take-le end out (omega (arith, f.takes.fits, f.takes.long))

  -- before a turn
  pub fed-ready : step_limit ≤ length out - end → Feedable step_limit session l kept out end
  fed-ready room =
      record {
        able = record { within = f.takes.within; room = omega (arith, f.takes.fits, f.takes.long) };
        line = f.takes.line;
      }

  -- a turn
  pub fed-turn : {after : Lent} {new_l : List ℕ} {more took : ℕ} {new : List ℕ} {later : ℕ} → taken < length s
      → step_limit ≤ length out - end
      → TakesLine (going_in session l kept out end) (take (length s - taken) (drop taken s)) out end after new_l more took new later
      → Fed before s old l₀ after new_l more (taken + took) new later
  fed-turn {after} {new_l} {more} {took} {new} {later} left room t =
      let now = going_in session l kept out end in
      let tail : drop later out ≡ drop later old =
      let place : end + (later - end) ≡ later = omega (arith, t.later) in
      ap (λ (n : ℕ). drop n out) (sym place)
      ∙ sym (drop-drop (later - end) end out)
      ∙ ap (λ (x : List ℕ). drop (later - end) x) f.takes.rest
      ∙ drop-drop (later - end) end old
      ∙ ap (λ (n : ℕ). drop n old) place in
      let state : going_in after new_l more new later ≡ fed (take took (drop taken s)) now =
      t.takes.state ∙ ap (λ (x : List ℕ). fed (take took x) now) (left-of s taken) in
      let whole : took ≡ line_end (drop taken s) = t.all ∙ ap line_end (left-of s taken) in
      record {
        takes =
            record {
              state =
                  state
                  ∙ ap (λ (n : Going). fed (take took (drop taken s)) n) f.takes.state
                  ∙ sym (fed-append (take taken s) (take took (drop taken s)) before)
                  ∙ ap (λ (x : List ℕ). fed x before) (sym (take-add taken took s));
              within = t.takes.within;
              line = t.takes.line;
              inside = left-inside s taken left t;
              fits = omega (arith, t.takes.fits, f.takes.long);
              rest = t.takes.rest ∙ tail;
              long = t.takes.long ∙ f.takes.long;
            };
        goes =
            let one = taken-line (length old) (drop taken s) now (omega (arith, written, f.takes.long)) whole in
            let on : taken_of (length old) true (drop took (drop taken s)) (fed (take took (drop taken s)) now)
            ≡ taken_of (length old) true (drop (taken + took) s) (going_in after new_l more new later) =
            ap₂ (λ (x : List ℕ) (n : Going). taken_of (length old) true x n) (drop-drop took taken s) (sym state) in
            omega (arith, f.goes, one, on);
        line-long = sym t.takes.line.size ∙ f.takes.line.size ∙ f.line-long;
      }

  pub fed-full : length out - end < step_limit → Feeds before s old session l kept taken out end
  fed-full full =
      record {
        takes = f.takes;
        all =
            omega (
              arith,
              f.goes,
              taken-full (length old) (drop taken s) (going_in session l kept out end)
                  (omega (arith, written, f.takes.fits, f.takes.long)),
            );
      }

  pub fed-whole : length s ≤ taken → Feeds before s old session l kept taken out end
  unfolding taken_of
  fed-whole all =
      record {
        takes = f.takes;
        all =
            omega (
              arith,
              f.goes,
              ap (λ (x : List ℕ). taken_of (length old) true x (going_in session l kept out end)) (drop_of_length-le s all),
            );
      }
