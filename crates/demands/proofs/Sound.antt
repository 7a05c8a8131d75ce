-- What holds of every session that an honest sender alone feeds: known numbers are the sender's, each held datagram is the
-- sender's for its place, what it brought is known, and no held message adds a number. Assumes nothing.
use Prim.Native.Nat.{ℕ, ◌+◌, ◌<◌}
use mathlib.Core.Path.{◌≡◌, refl, sym, ap, subst, ◌∙◌}
use mathlib.Core.Logic.{inr, ⊎_elim}
use mathlib.Core.Bool.{true, false, true≢false, false≢true}
use mathlib.Core.List.{List, [], Memᴰ as Among}
use lib.ListN.{length}
use native.Mathlib.Omega.{arith}
use Rattle.octets.proofs.Laws.{true-or-false, same_or_not, below_or_not}
use Rattle.datagram.specs.Carried.{Extra, spares, parity, Carried}
use Rattle.session.specs.Cells.{Cell, is_unknown, kept_before, kept_ahead}
use Rattle.session.specs.Repair.{Message}
use Rattle.session.specs.Held.{Held, nothing_held, held_at, held_messages}
use Rattle.session.specs.Reached.{Known, Closed}
use Rattle.session.specs.Honest.{UpToZeros, TrueCells, HonestHeld}
use Rattle.session.proofs.Laws.{makes-repaired, known-closed, held-at, held-honest, repair-right, up-to-zeros-same}
use Rattle.session.specs.View.{View, fresh_view}
use Rattle.session.specs.Offer.{held_by, accept}
use Rattle.sender.specs.Honest.{packet_at}
use Rattle.demands.specs.Demand3.Feeding.{place_of, sent_at}
use Rattle.demands.proofs.Ranges.{ViewInRanges}
use Rattle.demands.proofs.Growing.{known_grown, grown-repair}
use Rattle.demands.proofs.InRanges.{fresh-before, fresh-ahead, fresh-held, fresh-in-ranges, HeldInside, read_held, filled}
use Rattle.demands.proofs.InRanges.{grown-filled}
use Rattle.demands.proofs.InRanges.{grown-accept, held-accepted, held-beside, accept-in-ranges, distinct-held}
use Rattle.demands.proofs.Knowing.{Brings, brought}
use Rattle.demands.proofs.Sent.{packet_at-before, Follows, InView, in-view, honest-held}
use Rattle.demands.proofs.TrueKept.{right-filled}

-- ---- what holds
-- the datagram held at distance d is the sender's for its place, and what it brought is known
pub record Marked (row datagrams : List (List ℕ)) (view : View) (d : ℕ) : Type 0 where
  pub carried : Carried
  pub sent : place_of view + d < length row
  pub follows : Follows row datagrams (place_of view + d) carried
  pub held : held_at view.held d ≡ held_by carried.extra
  pub brings : (p : ℕ) → Brings carried d p → Known view.cells p

pub record Sound (row datagrams : List (List ℕ)) (view : View) : Type 0 where
  pub ranges : ViewInRanges view
  pub right : TrueCells (sent_at row view) view.cells
  pub marked : (d : ℕ) → d < kept_ahead → (held_at view.held d).accepted ≡ true → Marked row datagrams view d
  pub unmarked : (d : ℕ) → d < kept_ahead → (held_at view.held d).accepted ≡ false → held_at view.held d ≡ nothing_held
  -- numbers before the first are known
  pub blanks : (p : ℕ) → place_of view + p < kept_before → Known view.cells p
  -- no message adds a number to the known ones
  pub closed : Closed (held_messages view.held) (Known view.cells)

-- each held datagram is honest
nothing-honest : (sent : ℕ → List ℕ) (S : ℕ) → HonestHeld sent S nothing_held
nothing-honest sent S = record { reach = omega arith; sums = λ i low. absurd (omega arith) }

pub held-sound : {row datagrams : List (List ℕ)} {view : View} → Sound row datagrams view → (d : ℕ) → d < kept_ahead
    → HonestHeld (sent_at row view) (kept_before + d) (held_at view.held d)
held-sound {row} {datagrams} {view} s d low =
    ⊎_elim
    (λ yes-marked.
    let m = s.marked d low yes-marked in
    rw m.held (honest-held (sent_at row view) d m.carried (in-view (place_of view) d m.follows)))
    (λ no-mark. rw (s.unmarked d low no-mark) (nothing-honest (sent_at row view) (kept_before + d)))
    (true-or-false (held_at view.held d).accepted)

-- ---- fresh
fresh-place : (p : ℕ) → place_of fresh_view + p ≡ p
unfolding fresh_view
fresh-place p = omega arith

fresh-length : length fresh_view.held ≡ kept_ahead
unfolding fresh_view
fresh-length = refl

no-message : (message : Message) → Among message (held_messages fresh_view.held) → ⊥
unfolding held_messages
no-message message among =
    let at = held-at kept_before fresh_view.held message among in
    let none-held = fresh-held at.j (rw fresh-length at at.inside) in
    let low : at.i < length nothing_held.messages = rw none-held at at.low in
    omega arith

module _ (row datagrams : List (List ℕ)) where
  fresh-right : TrueCells (sent_at row fresh_view) fresh_view.cells
  fresh-right p inside k =
      ⊎_elim
      (λ low.
      rw (fresh-before p low)
      (subst (UpToZeros []) (sym (ap (packet_at row) (fresh-place p) ∙ packet_at-before row p low)) (up-to-zeros-same [])))
      (λ past.
      absurd
      (true≢false
      (sym (ap (λ (c : Cell). is_unknown c.state) (fresh-ahead p past (rw fresh-in-ranges.kept at inside))) ∙ k)))
      (below_or_not p kept_before)

  pub fresh-sound : Sound row datagrams fresh_view
  fresh-sound =
      record {
        ranges = fresh-in-ranges;
        right = fresh-right;
        marked = λ d low e. absurd (false≢true (sym (ap (λ (h : Held). h.accepted) (fresh-held d low)) ∙ e));
        unmarked = λ d low e. fresh-held d low;
        blanks = λ p low. ap (λ (c : Cell). is_unknown c.state) (fresh-before p (rw (fresh-place p) at low));
        closed = λ message p among. absurd (no-message message among);
      }

-- ---- an accepted datagram
module _ {row datagrams : List (List ℕ)} {view : View} (s : Sound row datagrams view) (d : ℕ) (low : d < kept_ahead) (c : Carried)
    (here : place_of view + d < length row) (f : Follows row datagrams (place_of view + d) c) where
  abbrev sent-here : ℕ → List ℕ
  sent-here = sent_at row view

  abbrev mid : View
  mid = accept d c view

  held_small : HeldInside (held_by c.extra)
  held_small =
      subst (λ (x : Carried). HeldInside (held_by x.extra)) f.reads.carried (read_held _ f.reads.parts f.reads.read)

  mid-ranges : ViewInRanges mid
  mid-ranges = accept-in-ranges d c view s.ranges low held_small

  held-long : d < length view.held
  held-long = rw s.ranges.heard low

  seen_here : InView sent-here d c
  seen_here = in-view (place_of view) d f

  mid-honest : (e : ℕ) → e < kept_ahead → HonestHeld sent-here (kept_before + e) (held_at mid.held e)
  mid-honest e small =
      ⊎_elim
      (λ same.
      subst (λ (x : ℕ). HonestHeld sent-here (kept_before + x) (held_at mid.held x)) (sym same)
      (subst (HonestHeld sent-here (kept_before + d)) (sym (held-accepted d c view held-long)) (honest-held sent-here d c seen_here)))
      (λ other. subst (HonestHeld sent-here (kept_before + e)) (sym (held-beside d c view e other)) (held-sound s e small))
      (same_or_not e d)

  mid-right : TrueCells sent-here mid.cells
  unfolding accept
  mid-right =
      let long = (grown-filled d c view).long ∙ s.ranges.kept in
      repair-right (makes-repaired c.number) sent-here (filled d c view) (held_messages mid.held)
      (rw long
      (held-honest sent-here mid.held (rw mid-ranges.heard (omega arith))
      (λ e small. mid-honest e (rw mid-ranges.heard at small))))
      (right-filled sent-here d c view seen_here s.right)

  mid-brings : (p : ℕ) → Brings c d p → Known mid.cells p
  unfolding accept
  mid-brings p b =
      known_grown (grown-repair c.number (filled d c view) (held_messages mid.held)) p
      ((brought c d view s.ranges.kept low p).1 (inr b))

  mid-new : Marked row datagrams mid d
  unfolding accept
  mid-new = record { carried = c; sent = here; follows = f; held = held-accepted d c view held-long; brings = mid-brings }

  mid-old : (e : ℕ) → (e ≡ d → ⊥) → Marked row datagrams view e → Marked row datagrams mid e
  unfolding accept
  mid-old e other m =
      record {
        carried = m.carried;
        sent = m.sent;
        follows = m.follows;
        held = held-beside d c view e other ∙ m.held;
        brings = λ p b. known_grown (grown-accept d c view) p (m.brings p b);
      }

  beside-mark : (e : ℕ) → (e ≡ d → ⊥) → (held_at mid.held e).accepted ≡ (held_at view.held e).accepted
  beside-mark e other = ap (λ (h : Held). h.accepted) (held-beside d c view e other)

  marks-extra : (x : Extra) → (held_by x).accepted ≡ true
  marks-extra (spares copies) = refl
  marks-extra (parity n messages) = refl

  pub new-mark : (held_at mid.held d).accepted ≡ true
  new-mark = ap (λ (h : Held). h.accepted) (held-accepted d c view held-long) ∙ marks-extra c.extra

  pub accept-sound : Sound row datagrams mid
  unfolding accept
  accept-sound =
      record {
        ranges = mid-ranges;
        right = mid-right;
        marked = λ e small is.
            ⊎_elim (λ same. subst (Marked row datagrams mid) (sym same) mid-new)
            (λ other. mid-old e other (s.marked e small (sym (beside-mark e other) ∙ is)))
            (same_or_not e d);
        unmarked = λ e small is.
            ⊎_elim (λ same. absurd (true≢false (sym (ap (λ (k : ℕ). (held_at mid.held k).accepted) same ∙ new-mark) ∙ is)))
            (λ other. held-beside d c view e other ∙ s.unmarked e small (sym (beside-mark e other) ∙ is))
            (same_or_not e d);
        blanks = λ p first. known_grown (grown-accept d c view) p (s.blanks p first);
        closed = known-closed (makes-repaired c.number) (filled d c view) (held_messages mid.held) (distinct-held mid mid-ranges);
      }
