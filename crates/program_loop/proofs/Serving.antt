-- The program between two parts of a block, on plain values: the front of the block is taken in, and as many octets are handed over
-- as its text has. Assumes nothing.
use Rattle.std.proofs.Common.{◌≡◌, ℕ, ◌+◌, ◌-◌, ◌%◌, ◌^◌, ◌<◌, ◌≤◌, true, false, List, [], ◌++◌, length, take, drop, sym, refl, ap, ◌∙◌, append_assoc, append-nil, arith, length-append, length-drop, length-take-le, take_all, take-add}
use mathlib.Core.Bool.{false≢true}
use native.Mathlib.Nat.{mod-add-mod}
use Rattle.session.specs.View.{View}
use Rattle.session_held.specs.Table.{Lent}
use Rattle.line.specs.Feed.{going_in, PartWayFrom}
use Rattle.line.specs.Promise.{step_limit}
use Rattle.line.specs.FeedPromise.{Feedable, Feeds}
use Rattle.line.proofs.Laws.{feeds-on, feeds-some, part-way-block}
use Rattle.program_loop.specs.Promise.{tallied, Onward, Passes}

-- so many more are tallied
pub more-tallied : (sum : ℕ) {m n new : ℕ} → m ≡ n → new ≡ (sum + m) % 2 ^ 64 → new ≡ (sum + n) % 2 ^ 64
more-tallied sum same on = on ∙ ap (λ (x : ℕ). (sum + x) % 2 ^ 64) same

-- more octets are tallied
pub tallied-on : (a b : List ℕ) {sum n new : ℕ} → sum ≡ tallied a → n ≡ length b → new ≡ (sum + n) % 2 ^ 64 → new ≡ tallied (a ++ b)
tallied-on a b {sum} {n} before same on =
    on
    ∙ ap (λ (x : ℕ). (x + n) % 2 ^ 64) before
    ∙ ap (λ (x : ℕ). (tallied a + x) % 2 ^ 64) same
    ∙ mod-add-mod (length a) (2 ^ 64) (length b)
    ∙ ap (λ (x : ℕ). x % 2 ^ 64) (sym (length-append a b))

-- the program may go on, no lent buffer has changed its length, the front of the block is taken in and its text handed over
pub record Serving (before : Lent) (l₀ : List ℕ) (begun₀ : ℕ) (out₀ s : List ℕ) (handed : ℕ) (session : Lent) (l : List ℕ) (begun : ℕ)
    (out : List ℕ) (from sum : ℕ)
    : Type 0 where
  pub feedable : Feedable step_limit session l begun out 0
  pub line-long : length l ≡ length l₀
  pub out-long : length out ≡ length out₀
  pub inside : from ≤ length s
  pub way : (first : View) (input text : List ℕ) → PartWayFrom first input text before l₀ begun₀ → handed ≡ tallied text
      → Onward first (input ++ take from s) text session l begun sum

pub serving-start : {session : Lent} {l : List ℕ} {begun : ℕ} {out : List ℕ} (s : List ℕ) (handed : ℕ)
    → Feedable step_limit session l begun out 0
    → Serving session l begun out s handed session l begun out 0 handed
serving-start {session} {l} {begun} s handed f =
    record {
      feedable = f;
      line-long = refl;
      out-long = refl;
      inside = omega arith;
      way = λ first input text p count.
          record {
            more = [];
            way = rw (append-nil input, append-nil text) p;
            count = rw (append-nil text) count;
          };
    }

-- what is left of a block
left-of : (s : List ℕ) (from : ℕ) → take (length s - from) (drop from s) ≡ drop from s
left-of s from = take_all (length s - from) (drop from s) (omega (arith, length-drop from s))

left-long : (s : List ℕ) (from : ℕ) → length (take (length s - from) (drop from s)) ≡ length s - from
left-long s from = ap length (left-of s from) ∙ length-drop from s

module _ {before : Lent} {l₀ : List ℕ} {begun₀ : ℕ} {out₀ : List ℕ}
    (s : List ℕ) {handed : ℕ} {session : Lent} {l : List ℕ} {begun : ℕ} {out : List ℕ} {from sum : ℕ}
    (v : Serving before l₀ begun₀ out₀ s handed session l begun out from sum) where
  -- all of it is taken in
  pub served : length s ≤ from → Passes before l₀ begun₀ s handed session l begun out sum true
  served all = record { feedable = v.feedable; front = from; way = v.way; whole = λ e. take_all from s all }

  -- a write failed
  pub stopped : Passes before l₀ begun₀ s handed session l begun out sum false
  stopped = record { feedable = v.feedable; front = from; way = v.way; whole = λ e. absurd (false≢true e) }

  -- a part more is taken in
  module _ (left : from < length s) {after : Lent} {new_l : List ℕ} {kept taken : ℕ} {new : List ℕ} {end : ℕ}
      (t : Feeds (going_in session l begun out 0) (take (length s - from) (drop from s)) out after new_l kept taken new end) where
    pub part-some : 0 < taken
    part-some = feeds-some v.feedable t (omega (arith, left-long s from))

    pub part-inside : from + taken ≤ length s
    part-inside = omega (arith, t.takes.inside, left-long s from)

    pub part-fits : end ≤ length new
    part-fits = omega (arith, t.takes.fits, t.takes.long)

    -- and handed over
    pub part-done : {total : ℕ} → length new_l ≡ length l → total ≡ (sum + end) % 2 ^ 64
        → Serving before l₀ begun₀ out₀ s handed after new_l kept new (from + taken) total
    part-done same on =
        record {
          feedable = feeds-on v.feedable t;
          line-long = same ∙ v.line-long;
          out-long = t.takes.long ∙ v.out-long;
          inside = part-inside;
          way =
              λ first input text p count.
              let so_far = v.way first input text p count in
              let front : (input ++ take from s) ++ take taken (take (length s - from) (drop from s)) ≡ input ++ take (from + taken) s =
              ap (λ (x : List ℕ). (input ++ take from s) ++ take taken x) (left-of s from)
              ∙ append_assoc input (take from s) (take taken (drop from s))
              ∙ ap (λ (x : List ℕ). input ++ x) (sym (take-add from taken s)) in
              let joined = append_assoc text so_far.more (take end new) in
              record {
                more = so_far.more ++ take end new;
                way = rw (front, joined) at (part-way-block so_far.way t);
                count =
                    tallied-on (text ++ so_far.more) (take end new) so_far.count (sym (length-take-le end new part-fits)) on
                    ∙ ap tallied joined;
              };
        }
