-- In a session fresh at its start the note of a known number is the number of the datagram by whose offer the number was reached first, and
-- so it leaves; one that the held messages fixed together has none. Call by call, each of which did nothing, took a datagram, made a
-- number leave, or solved the held messages. Assumes nothing.
use Prim.Native.Nat.{ℕ, suc, ◌+◌, ◌≤◌, ◌<◌}
use mathlib.Core.Path.{◌≡◌, refl, sym, ap, subst, ◌∙◌}
use mathlib.Core.Logic.{⊎_elim}
use mathlib.Core.Bool.{true, false, false≢true}
use mathlib.Core.List.{List, [], ◌∷◌, ◌++◌, append-nil}
use lib.ListN.{length, length-append, get_or-append}
use lib.Seq.{get_or_at}
use native.Mathlib.Omega.{arith}
use Rattle.octets.proofs.Laws.{below_or_not}
use Rattle.datagram.specs.Carried.{Carried}
use Rattle.session.specs.Cells.{unknown, Cell, is_unknown, cell_at, kept_before, kept_numbers}
use Rattle.session.specs.Reached.{Known, Unknown}
use Rattle.session.specs.View.{View, Counts, fresh_view, gone_on}
use Rattle.session.specs.Release.{at_base}
use Rattle.session.specs.Offer.{accept}
use Rattle.session.proofs.Laws.{known-not-unknown, same-unknown}
use Rattle.demands.specs.Common.History.{Left, left_as, is_lost, after_move}
use Rattle.demands.specs.Common.Calls.{Call, Calls, start, ◌then◌, fills_in, left_in, left_by}
use Rattle.demands.specs.Demand2.GoesOn.{move_of, GoesOn, from, by}
use Rattle.demands.specs.Demand2.ReachedBy.{gone}
use Rattle.demands.specs.Demand2.NotedBy.{NotedBy, before_first, filled, together, earlier, left_at, LeftNoted}
use Rattle.demands.proofs.Growing.{fills-known}
use Rattle.demands.proofs.InRanges.{fresh-before, fresh-ahead, grown-accept}
use Rattle.demands.proofs.Shifted.{cell-on, cell-last, unknown-on}
use Rattle.demands.proofs.Knowing.{fresh-known, left-known}
use Rattle.demands.proofs.Reaching.{Knows, knows_start, knows-stays, knows-left}
use Rattle.demands.proofs.Arriving.{Took, took_of}
use Rattle.demands.proofs.Repairing.{knows-mid}
use Rattle.demands.proofs.KnownReached.{Did, nothing, took, leaves, solves, did, took-unfilled, left-unfilled}
use Rattle.demands.proofs.SolveDone.{SolveDone}
use Rattle.demands.proofs.Solving.{knows-solved}

-- ---- what holds after some calls
record Notes (calls : Calls) (g : ℕ) (view : View) : Type 0 where
  known : (p : ℕ) → p < kept_numbers → Known view.cells p → NotedBy calls (g + p) (cell_at view.cells p).note
  unknown : (p : ℕ) → p < kept_numbers → Unknown view.cells p → (cell_at view.cells p).note ≡ 0
  left : LeftNoted calls (left_by calls)

note-of : Cell → ℕ
note-of c = c.note

-- ---- the start
notes-start : Notes start 0 fresh_view
unfolding left_by note-of
notes-start =
    record {
      known = λ p small k.
          let low = (fresh-known p small).0 k in
          subst (NotedBy start (0 + p)) (sym (ap note-of (fresh-before p low))) (before_first (omega arith));
      unknown = λ p small u.
          ⊎_elim (λ low. absurd (known-not-unknown fresh_view.cells p ((fresh-known p small).1 low) u))
          (λ past. ap note-of (fresh-ahead p past small)) (below_or_not p kept_before);
      left = record { released = λ j low. absurd (omega arith); lost = λ j low. absurd (omega arith) };
    }

-- ---- what left stays so
left-stays : {calls : Calls} {call : Call} → LeftNoted calls (left_by calls) → left_in call ≡ []
    → LeftNoted (calls then call) (left_by (calls then call))
unfolding left_by
left-stays {calls} {call} l stays =
    subst (LeftNoted (calls then call)) (sym (ap (λ (more : List Left). left_by calls ++ more) stays ∙ append-nil (left_by calls)))
    (record { released = λ j low is. earlier (l.released j low is); lost = l.lost })

notes-stays : {calls : Calls} {g : ℕ} {view : View} → Notes calls g view → (call : Call) → left_in call ≡ []
    → Notes (calls then call) g view
notes-stays n call stays =
    record { known = λ p small k. earlier (n.known p small k); unknown = n.unknown; left = left-stays n.left stays }

-- ---- an accepted offer
notes-took : {calls : Calls} {call : Call} {g d : ℕ} {c : Carried} {view : View} → Took calls call g d c view → Notes calls g view
    → left_in call ≡ [] → Notes (calls then call) g (accept d c view)
unfolding note-of
notes-took {calls} {call} {g} {d} {c} {view} t n stays =
    let mid = accept d c view in
    record {
      known = λ p small k.
          ⊎_elim
          (λ same.
          subst (NotedBy (calls then call) (g + p)) (sym (ap note-of same))
          (earlier (n.known p small (sym (same-unknown view.cells mid.cells p same) ∙ k))))
          (λ new.
          subst (NotedBy (calls then call) (g + p)) (sym new.2)
          (filled t.here (λ r. known-not-unknown view.cells p ((t.so_far.seen (g + p) r).1 p refl) new.0)
          ((knows-mid t).reached p small k)))
          ((grown-accept d c view).each p);
      unknown = λ p small u.
          ⊎_elim
          (λ same. ap note-of same ∙ n.unknown p small (sym (same-unknown view.cells mid.cells p same) ∙ u))
          (λ new. absurd (false≢true (sym (fills-known new.1) ∙ u)))
          ((grown-accept d c view).each p);
      left = left-stays n.left stays;
    }

-- ---- the held messages were solved together
notes-solved : {calls : Calls} {call : Call} {g : ℕ} {view last : View} → Knows calls g view → Knows (calls then call) g last
    → Notes calls g view → fills_in call ≡ true → left_in call ≡ [] → SolveDone view last → Notes (calls then call) g last
unfolding note-of
notes-solved {calls} {call} {g} {view} {last} k now n fills stays o =
    record {
      known = λ p small known.
          ⊎_elim
          (λ same.
          subst (NotedBy (calls then call) (g + p)) (sym (ap note-of same))
          (earlier (n.known p small (sym (same-unknown view.cells last.cells p same) ∙ known))))
          (λ new.
          subst (NotedBy (calls then call) (g + p)) (sym new.2)
          (together fills (λ r. known-not-unknown view.cells p ((k.seen (g + p) r).1 p refl) new.0) (now.reached p small known)))
          ((o.grown k.ranges.kept).each p);
      unknown = λ p small u.
          ⊎_elim
          (λ same. ap note-of same ∙ n.unknown p small (sym (same-unknown view.cells last.cells p same) ∙ u))
          (λ new. absurd (false≢true (sym (fills-known new.1) ∙ u)))
          ((o.grown k.ranges.kept).each p);
      left = left-stays n.left stays;
    }

-- ---- a number left
module _ {calls : Calls} {g : ℕ} {view : View} (k : Knows calls g view) (n : Notes calls g view) (call : Call) (counts : Counts) (x : Left)
    (leaves-now : left_in call ≡ x ∷ []) (kind : x.kind ≡ (at_base view).state) (note : x.note ≡ (at_base view).note) where
  inside : {p : ℕ} → suc p < kept_numbers → suc p < length view.cells
  inside low = rw k.ranges.kept low

  left-known-on : (p : ℕ) → p < kept_numbers → Known (gone_on counts view).cells p
      → NotedBy (calls then call) (suc g + p) (cell_at (gone_on counts view).cells p).note
  unfolding note-of
  left-known-on p small now =
      let was = (left-known view k.ranges counts p small).0 now in
      let place : g + suc p ≡ suc g + p = omega arith in
      subst (λ (P : ℕ). NotedBy (calls then call) P (cell_at (gone_on counts view).cells p).note) place
      (subst (NotedBy (calls then call) (g + suc p)) (sym (ap note-of (cell-on counts view p (inside was.0))))
      (earlier (n.known (suc p) was.0 was.1)))

  left-unknown-on : (p : ℕ) → p < kept_numbers → Unknown (gone_on counts view).cells p → (cell_at (gone_on counts view).cells p).note ≡ 0
  unfolding note-of
  left-unknown-on p small u =
      ⊎_elim
      (λ low.
      ap note-of (cell-on counts view p (inside low))
      ∙ n.unknown (suc p) low (sym (unknown-on counts view p (inside low)) ∙ u))
      (λ last. ap note-of (cell-last counts view p (omega (arith, k.ranges.kept))))
      (below_or_not (suc p) kept_numbers)

  -- the last that left is the one that stood at the base
  last-left : (j : ℕ) → length (left_by calls) ≤ j → j < length (left_by calls ++ (x ∷ [])) → left_at (left_by calls ++ (x ∷ [])) j ≡ x
  last-left j past low =
      let long = length-append (left_by calls) (x ∷ []) in
      get_or_at (left_by calls) x [] (left_as unknown 0 0 []) j (omega arith)

  left-released : (j : ℕ) → j < length (left_by calls ++ (x ∷ [])) → is_lost (left_at (left_by calls ++ (x ∷ [])) j).kind ≡ false
      → NotedBy (calls then call) (kept_before + j) (left_at (left_by calls ++ (x ∷ [])) j).note
  left-released j low is =
      ⊎_elim
      (λ before.
      let same = get_or-append (left_by calls) (x ∷ []) (left_as unknown 0 0 []) j before in
      subst (λ (y : Left). NotedBy (calls then call) (kept_before + j) y.note) (sym same)
      (earlier (n.left.released j before (ap (λ (y : Left). is_lost y.kind) (sym same) ∙ is))))
      (λ past.
      let same = last-left j past low in
      let long = length-append (left_by calls) (x ∷ []) in
      let place : g + kept_before ≡ kept_before + j = let so_far = k.left in omega arith in
      let base : Known view.cells kept_before = ap is_unknown (sym kind) ∙ ap (λ (y : Left). is_lost y.kind) (sym same) ∙ is in
      subst (λ (y : Left). NotedBy (calls then call) (kept_before + j) y.note) (sym same)
      (subst (NotedBy (calls then call) (kept_before + j)) (sym note)
      (subst (λ (P : ℕ). NotedBy (calls then call) P (at_base view).note) place (earlier (n.known kept_before (omega arith) base)))))
      (below_or_not j (length (left_by calls)))

  left-lost : (j : ℕ) → j < length (left_by calls ++ (x ∷ [])) → is_lost (left_at (left_by calls ++ (x ∷ [])) j).kind ≡ true
      → (left_at (left_by calls ++ (x ∷ [])) j).note ≡ 0
  left-lost j low is =
      ⊎_elim
      (λ before.
      let same = get_or-append (left_by calls) (x ∷ []) (left_as unknown 0 0 []) j before in
      ap (λ (y : Left). y.note) same ∙ n.left.lost j before (ap (λ (y : Left). is_lost y.kind) (sym same) ∙ is))
      (λ past.
      let same = last-left j past low in
      let base : Unknown view.cells kept_before = ap is_unknown (sym kind) ∙ ap (λ (y : Left). is_lost y.kind) (sym same) ∙ is in
      ap (λ (y : Left). y.note) same ∙ note ∙ n.unknown kept_before (omega arith) base)
      (below_or_not j (length (left_by calls)))

  notes-left : Notes (calls then call) (suc g) (gone_on counts view)
  unfolding left_by
  notes-left =
      record {
        known = left-known-on;
        unknown = left-unknown-on;
        left = rw leaves-now (record { released = left-released; lost = left-lost });
      }

-- ---- chains
record Both (calls : Calls) (view : View) : Type 0 where
  g : ℕ
  knows : Knows calls g view
  notes : Notes calls g view

both : {calls : Calls} {held : View} → GoesOn fresh_view calls held → Both calls held
both from = record { g = 0; knows = knows_start; notes = notes-start }
both (by {calls = calls} {call = call} {held = held} on says) = step (both on) where
  step : Both calls held → Both (calls then call) (after_move (move_of call) held)
  step b = pick (did held call b.knows.ranges says) where
    pick : {last : View} → Did held call last → Both (calls then call) last
    pick (nothing stays none-taken unfilled) =
        record { g = b.g; knows = knows-stays b.knows call none-taken unfilled stays; notes = notes-stays b.notes call stays }
    pick (took octets stays taken o) =
        let t = took_of b.knows o call taken (took-unfilled call taken) stays in
        record {
          g = b.g;
          knows = subst (Knows (calls then call) b.g) o.is (knows-mid t);
          notes = subst (Notes (calls then call) b.g) o.is (notes-took t b.notes stays);
        }
    pick (leaves x counts left kind note none-taken more) =
        record {
          g = suc b.g;
          knows = knows-left b.knows call none-taken (left-unfilled call left) counts more x left;
          notes = notes-left b.knows b.notes call counts x left kind note;
        }
    pick (solves stays none-taken fills o s) =
        let now = knows-solved b.knows call none-taken stays fills o s in
        record { g = b.g; knows = now; notes = notes-solved b.knows now b.notes fills stays o }

pub noted-by : {calls : Calls} {held : View} → GoesOn fresh_view calls held → (p : ℕ) → p < kept_numbers → Known held.cells p
    → NotedBy calls (gone calls + p) (cell_at held.cells p).note
noted-by {calls} {held} on p small known =
    let b = both on in
    let same : b.g + p ≡ gone calls + p = let left = b.knows.left in omega arith in
    subst (λ (P : ℕ). NotedBy calls P (cell_at held.cells p).note) same (b.notes.known p small known)

pub left-noted : {calls : Calls} {held : View} → GoesOn fresh_view calls held → LeftNoted calls (left_by calls)
left-noted on = (both on).notes.left
