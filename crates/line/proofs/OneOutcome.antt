-- Two outcomes that a promise allows are one: the buffer is told by what is written and what stays, the lent line by the line
-- that has begun, and within the ranges a session by its view. Assumes nothing.
use Prim.Native.Nat.{ℕ, ◌+◌, ◌≤◌, ◌<◌}
use mathlib.Core.Path.{◌≡◌, sym, ap, ap₂, ◌∙◌}
use mathlib.Core.List.{List, [], ◌++◌}
use mathlib.Core.Logic.{⊎_elim}
use lib.ListN.{length, get_or, take, drop, take-append-drop}
use lib.Seq.{ext_get_or, get_or-take, length-take-le}
use native.Mathlib.Omega.{arith}
use Rattle.octets.proofs.Laws.{below_or_not}
use Rattle.length.proofs.Claims as lengths
use Rattle.session_held.specs.Table.{Lent, lent, view_in}
use Rattle.session_held.specs.Laid.{InRanges}
use Rattle.session_held.specs.declared.Counts.{Counts}
use Rattle.session_held.proofs.Laws.{lent_same}
use Rattle.line.specs.Lines.{Made}
use Rattle.line.specs.Feed.{Going, fed, going_in}
use Rattle.line.specs.Promise.{Does}
use Rattle.line.specs.FeedPromise.{LineIn, Feeds, Ends}
use Rattle.line.specs.Claims.{Same, OneOutcome}
use Rattle.line.specs.declared.steps.Stepped.{Stepped}
use Rattle.line.specs.declared.feed.Fed.{Fed}
use Rattle.line.proofs.BlockLaws.{begun-length}

-- ---- a session, by its view
module _ {r q : Stepped} {t u o p g k : List ℕ} (w : InRanges (lent r.base r.counts t o g))
    (v : InRanges (lent q.base q.counts u p k))
    (same : view_in (lent r.base r.counts t o g) ≡ view_in (lent q.base q.counts u p k)) where
  stepped_same : {new written : List ℕ} → r.end ≡ q.end → new ≡ written
      → Same r q (lent r.base r.counts t o g) (lent q.base q.counts u p k) new written
  stepped_same end lent =
      let one = lent_same w v same in
      record {
        answer =
            ap₂ (λ (b : ℕ) (c : Counts). record { base = b; counts = c; end = r.end }) (ap (λ (x : Lent). x.base) one)
            (ap (λ (x : Lent). x.counts) one)
            ∙ ap (λ (e : ℕ). record { base = q.base; counts = q.counts; end = e }) end;
        held = one;
        lent = lent;
      }

module _ {r q : Fed} {t u o p g k : List ℕ} (w : InRanges (lent r.base r.counts t o g))
    (v : InRanges (lent q.base q.counts u p k))
    (same : view_in (lent r.base r.counts t o g) ≡ view_in (lent q.base q.counts u p k)) where
  fed-same : {new written : List ℕ} → r.begun ≡ q.begun → r.taken ≡ q.taken → r.end ≡ q.end → new ≡ written
      → Same r q (lent r.base r.counts t o g) (lent q.base q.counts u p k) new written
  fed-same begun taken end lent =
      let one = lent_same w v same in
      record {
        answer =
            ap₂ (λ (b : ℕ) (c : Counts). record { base = b; counts = c; begun = r.begun; taken = r.taken; end = r.end })
            (ap (λ (x : Lent). x.base) one) (ap (λ (x : Lent). x.counts) one)
            ∙ ap (λ (n : ℕ). record { base = q.base; counts = q.counts; begun = n; taken = r.taken; end = r.end }) begun
            ∙ ap₂ (λ (n e : ℕ). record { base = q.base; counts = q.counts; begun = q.begun; taken = n; end = e }) taken end;
        held = one;
        lent = lent;
      }

-- ---- a buffer, by what is written and what stays
module _ (out new other : List ℕ) (end last : ℕ) (front : take end new ≡ take last other) (fits : end ≤ length out)
    (also : last ≤ length out)
    (long : length new ≡ length out) (as_long : length other ≡ length out) where
  end_same : end ≡ last
  end_same =
      sym (length-take-le end new (omega arith)) ∙ ap length front ∙ length-take-le last other (omega arith)

  buffer-same : drop end new ≡ drop end out → drop last other ≡ drop last out → new ≡ other
  buffer-same rest stays =
      sym (take-append-drop end new)
      ∙ ap₂ (λ (a b : List ℕ). a ++ b) front (rest ∙ ap (λ (n : ℕ). drop n out) end_same ∙ sym stays)
      ∙ take-append-drop last other

-- ---- the lent line, by the line that has begun
module _ {l m : List ℕ} {begun kept : ℕ} (a : LineIn l begun) (b : LineIn m kept) (front : take begun l ≡ take kept m) where
  begun-same : begun ≡ kept
  begun-same = sym (begun-length a) ∙ ap length front ∙ begun-length b

  line_same : l ≡ m
  line_same =
      ext_get_or 0 l m (sym a.size ∙ b.size)
      (λ i inside.
      ⊎_elim
      (λ below.
      let near : i < kept = omega (arith, begun-same) in
      sym (get_or-take begun l i 0 below) ∙ ap (λ (x : List ℕ). get_or x i 0) front ∙ get_or-take kept m i 0 near)
      (λ past. a.zeros i past ∙ sym (b.zeros i (omega (arith, begun-same))))
      (below_or_not i begun))

-- ---- the calls
step-one : {m : Made} {old : List ℕ} {at : ℕ} {r q : Stepped} {t u o p g k new written : List ℕ}
    → Does m old at (lent r.base r.counts t o g) r.end new → Does m old at (lent q.base q.counts u p k) q.end written
    → Same r q (lent r.base r.counts t o g) (lent q.base q.counts u p k) new written
step-one a b =
    stepped_same a.within b.within (a.state ∙ sym b.state) (a.lent.after ∙ sym b.lent.after)
    (a.lent.lent ∙ sym b.lent.lent)

take-block-one : {before : Going} {s out : List ℕ} {r q : Fed} {t u o p g k l m new written : List ℕ}
    → Feeds before s out (lent r.base r.counts t o g) l r.begun r.taken new r.end
    → Feeds before s out (lent q.base q.counts u p k) m q.begun q.taken written q.end
    → (Same r q (lent r.base r.counts t o g) (lent q.base q.counts u p k) new written) × (l ≡ m)
take-block-one {before} {s} {out} {r} {q} {t} {u} {o} {p} {g} {k} {l} {m} {new} {written} a b =
    let taken : r.taken ≡ q.taken = a.all ∙ sym b.all in
    let same : going_in (lent r.base r.counts t o g) l r.begun new r.end
    ≡ going_in (lent q.base q.counts u p k) m q.begun written q.end =
    a.takes.state ∙ ap (λ (n : ℕ). fed (take n s) before) taken ∙ sym b.takes.state in
    let view = ap (λ (x : Going). x.view) same in
    let text = ap (λ (x : Going). x.text) same in
    let begun = ap (λ (x : Going). x.begun) same in
    let ta = a.takes in
    let tb = b.takes in (
      fed-same ta.within tb.within view (begun-same ta.line tb.line begun) taken
          (end_same out new written r.end q.end text ta.fits tb.fits ta.long tb.long)
          (buffer-same out new written r.end q.end text ta.fits tb.fits ta.long tb.long ta.rest tb.rest),
      line_same ta.line tb.line begun,
    )

finish-one : {before : Going} {out : List ℕ} {r q : Stepped} {t u o p g k new written : List ℕ}
    → Ends before out (lent r.base r.counts t o g) new r.end → Ends before out (lent q.base q.counts u p k) written q.end
    → Same r q (lent r.base r.counts t o g) (lent q.base q.counts u p k) new written
finish-one {before} {out} {r} {q} {t} {u} {o} {p} {g} {k} {new} {written} a b =
    let same : going_in (lent r.base r.counts t o g) [] 0 new r.end ≡ going_in (lent q.base q.counts u p k) [] 0 written
    q.end =
    a.state ∙ sym b.state in
    let text = ap (λ (x : Going). x.text) same in
    stepped_same a.within b.within (ap (λ (x : Going). x.view) same)
    (end_same out new written r.end q.end text a.fits b.fits a.long b.long)
    (buffer-same out new written r.end q.end text a.fits b.fits a.long b.long a.rest b.rest)

pub one-outcome : OneOutcome
one-outcome =
    record {
      hex_to_octets = λ line a b. (lengths.one-outcome).written a b;
      step = step-one;
      take_block = take-block-one;
      finish = finish-one;
    }
