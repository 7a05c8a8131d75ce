-- The program between two blocks, and at the end of its input, on plain values: all that was read is taken in, and as many octets
-- are handed over as its text has. Assumes nothing.
use Rattle.std.proofs.Common.{◌≡◌, ℕ, ◌+◌, ◌%◌, ◌^◌, ◌≤◌, Bool, true, false, cond, not, eqb, List, [], ◌++◌, length, take, sym, refl, ap, ◌∙◌, append-nil, arith, length-take-le}
use mathlib.Core.Bool.{false≢true}
use Rattle.session.specs.View.{View}
use Rattle.session_held.specs.Table.{Lent, view_in}
use Rattle.session_held.specs.Laid.{InRanges}
use Rattle.line.specs.Feed.{Going, line_done, at_end, going_in, PartWayFrom}
use Rattle.line.specs.Promise.{step_limit}
use Rattle.line.specs.FeedPromise.{LineIn, Feedable, Ends}
use Rattle.line.proofs.Laws.{part-way-start, part-way-end}
use Rattle.program_loop.specs.Promise.{buffer_size, tallied, Passes, Complete, Serves}
use Rattle.program_loop.proofs.Serving.{tallied-on}

-- all that was read and handed over so far
pub record SoFar (first : View) (session : Lent) (l : List ℕ) (begun taken handed : ℕ) : Type 0 where
  pub input : List ℕ
  pub text : List ℕ
  pub way : PartWayFrom first input text session l begun
  pub read : taken ≡ tallied input
  pub wrote : handed ≡ tallied text

-- beside what the calls ask for, the lengths of the buffers
pub record Turning (first : View) (session : Lent) (l block : List ℕ) (begun : ℕ) (out : List ℕ) (taken handed : ℕ) : Type 0 where
  pub feedable : Feedable step_limit session l begun out 0
  pub block-long : buffer_size ≡ length block
  pub out-long : buffer_size ≡ length out
  pub so_far : SoFar first session l begun taken handed

-- before the first block
pub turning-start : {session : Lent} {l block out : List ℕ} → InRanges session → LineIn l 0
    → buffer_size ≡ length block → buffer_size ≡ length out → Turning (view_in session) session l block 0 out 0 0
turning-start {l = l} within line read room =
    record {
      feedable = record { able = record { within = within; room = omega arith }; line = line };
      block-long = read;
      out-long = room;
      so_far = record {
        input = [];
        text = [];
        way = part-way-start l refl;
        read = refl;
        wrote = refl;
      };
    }

-- after a read that gave nothing
pub so-far-none : {first : View} {session : Lent} {l : List ℕ} {begun taken handed : ℕ} → SoFar first session l begun taken handed
    → {n after : ℕ} → n ≡ 0 → after ≡ (taken + n) % 2 ^ 64 → SoFar first session l begun after handed
so-far-none far none on =
    record {
      input = far.input;
      text = far.text;
      way = far.way;
      read = tallied-on far.input [] far.read none on ∙ ap tallied (append-nil far.input);
      wrote = far.wrote;
    }

-- without a read
pub so-far-same : {first : View} {session : Lent} {l : List ℕ} {begun taken handed : ℕ} → SoFar first session l begun taken handed
    → {after : ℕ} → after ≡ taken → SoFar first session l begun after handed
so-far-same far same =
    record { input = far.input; text = far.text; way = far.way; read = same ∙ far.read; wrote = far.wrote }

-- the test for a write that failed
pub written_all : (written : Bool) → not written ≡ false → written ≡ true
written_all true e = refl
written_all false e = sym e

-- after a block of which all was written
pub turning-on : {first : View} {session : Lent} {l block : List ℕ} {begun : ℕ} {out : List ℕ} {taken handed : ℕ}
    → Turning first session l block begun out taken handed
    → {new : List ℕ} (n : ℕ) {later : Lent} {m : List ℕ} {kept : ℕ} {room : List ℕ} {sum after : ℕ} {written : Bool} → n ≤ length new
    → Passes session l begun (take n new) handed later m kept room sum written → written ≡ true → after ≡ (taken + n) % 2 ^ 64
    → length new ≡ length block → length room ≡ length out → Turning first later m new kept room after sum
turning-on {first} t {new} n long s all on same lent =
    let far = t.so_far in
    let next = s.way first far.input far.text far.way far.wrote in
    record {
      feedable = s.feedable;
      block-long = t.block-long ∙ sym same;
      out-long = t.out-long ∙ sym lent;
      so_far = record {
        input = far.input ++ take n new;
        text = far.text ++ next.more;
        way = rw (s.whole all) at next.way;
        read = tallied-on far.input (take n new) far.read (sym (length-take-le n new long)) on;
        wrote = next.count;
      };
    }

-- ---- the end of the input
cond-view : (b : Bool) (x y u v : Going) → x.view ≡ u.view → y.view ≡ v.view → (cond b x y).view ≡ (cond b u v).view
cond-view true x y u v first second = first
cond-view false x y u v first second = second

-- what was written before does not matter to the session
view-at-end : (s t : List ℕ) (v : View) (begun : List ℕ)
    → (at_end (record { text = s; view = v; begun = begun })).view ≡ (at_end (record { text = t; view = v; begun = begun })).view
unfolding at_end line_done
view-at-end s t v begun =
    let now : List ℕ → Going = λ text. record { text = text; view = v; begun = begun } in
    cond-view (eqb (length begun) 0) (now s) (line_done (now s)) (now t) (line_done (now t)) refl refl

-- the last line is done and handed over
pub complete : {first : View} {session : Lent} {l : List ℕ} {begun : ℕ} {out : List ℕ} {taken handed : ℕ}
    → SoFar first session l begun taken handed
    → {later : Lent} {new : List ℕ} {end after : ℕ} → Ends (going_in session l begun out 0) out later new end
    → after ≡ (handed + end) % 2 ^ 64 → Complete first later taken after
complete {first} {session} {l} {begun} {out} far {new = new} {end} e on =
    record {
      input = far.input;
      read = far.read;
      wrote =
          tallied-on far.text (take end new) far.wrote (sym (length-take-le end new (omega (arith, e.fits, e.long)))) on
          ∙ ap tallied (sym (part-way-end far.way e));
      state =
          ap (λ (now : Going). now.view) e.state
          ∙ view-at-end (take 0 out) far.text (view_in session) (take begun l)
          ∙ ap (λ (now : Going). (at_end now).view) (sym far.way.state);
    }

pub serves : {first : View} {later : Lent} {taken after : ℕ} (whole : Bool) → Complete first later taken after → InRanges later
    → Serves first later taken after whole
serves whole all within = record { complete = λ e. all; within = within }

-- a write failed
pub serves-not : {first : View} {later : Lent} {taken after : ℕ} → InRanges later → Serves first later taken after false
serves-not within = record { complete = λ e. absurd (false≢true e); within = within }
