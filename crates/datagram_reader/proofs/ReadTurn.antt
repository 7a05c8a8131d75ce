-- One turn of the loop over a datagram's spares or messages, on plain values. The invariant: what is left to read, put behind
-- what was read, is the whole; the places hold what was read, and the rest of them are unused. Assumes nothing.
use Rattle.std.proofs.Common.{Result, Ok, Err}
use Prim.Native.Nat.{ℕ, suc, ◌+◌, ◌-◌, ◌≤◌, ◌<◌}
use mathlib.Core.Path.{◌≡◌, refl, sym, ap, ◌∙◌}
use mathlib.Core.List.{List, [], ◌∷◌, ◌++◌, append-nil}
use lib.ListN.{length, replicate, set, length-append}
use lib.Seq.{set-append_seam, append_snoc}
use native.Mathlib.Omega.{arith}
use Rattle.length.specs.Answers.{Answer, done, refused, ◌>>=◌}
use Rattle.length.specs.declared.Refusal.{Refusal}
use Rattle.datagram.specs.Sizes.{spares_limit}
use Rattle.datagram.specs.Read.{after, item_at, items_at, end_of}
use Rattle.datagram.specs.Promise.{padded_parts, nowhere}
use Rattle.datagram_reader.specs.Pieces.{ItemRead, ItemsBegin}
use Rattle.datagram.specs.declared.reader.Part.{Part}
use Rattle.datagram.proofs.Laws.{item-done}

-- what was read before, in front of what is left to read
pub prefixed : List Part → Answer (List Part) → Answer (List Part)
prefixed got a = ◌>>=◌ a (λ (ps : List Part). done (got ++ ps))

pub record Turning (least most : ℕ) (s : List ℕ) (count first : ℕ) (items : List Part) (at i : ℕ) : Type 0 where
  pub got : List Part
  pub counted : length got ≡ i
  pub some : i ≤ count
  pub asked : ItemsBegin s count at
  pub kept : items ≡ padded_parts got
  pub ends : end_of first got ≡ at
  pub left : items_at least most s first count ≡ prefixed got (items_at least most s at (count - i))

-- one more part at the first place that is not used
places-set : (got : List Part) (p : Part) → length got < spares_limit → set (padded_parts got) (length got) p ≡ padded_parts (got ++ (p ∷ []))
unfolding padded_parts
places-set got p few =
    let more : spares_limit - length got ≡ suc (spares_limit - length (got ++ (p ∷ []))) = omega (arith, length-append got (p ∷ [])) in
    ap (λ (n : ℕ). set (got ++ replicate n nowhere) (length got) p) more
    ∙ set-append_seam got nowhere (replicate (spares_limit - length (got ++ (p ∷ []))) nowhere) p
    ∙ sym (append_snoc got p (replicate (spares_limit - length (got ++ (p ∷ []))) nowhere))

prefixed-none : (a : Answer (List Part)) → a ≡ prefixed [] a
unfolding prefixed
prefixed-none (done ps) = refl
prefixed-none (refused r) = refl

prefixed-more : (got : List Part) (p : Part) (a : Answer (List Part))
    → prefixed got (◌>>=◌ a (λ (ps : List Part). done (p ∷ ps))) ≡ prefixed (got ++ (p ∷ [])) a
unfolding prefixed
prefixed-more got p (done ps) = ap (λ (l : List Part). done l) (sym (append_snoc got p ps))
prefixed-more got p (refused r) = refl

end_of-more : (at : ℕ) (got : List Part) (p : Part) → end_of at (got ++ (p ∷ [])) ≡ after p
unfolding end_of
end_of-more at [] p = refl
end_of-more at (q ∷ got) p = end_of-more (after q) got p

-- the first of several
items-first : (least most : ℕ) (s : List ℕ) (at left : ℕ) (p : Part) → item_at least most s at ≡ done p
    → items_at least most s at (suc left) ≡ ◌>>=◌ (items_at least most s (after p) left) (λ (ps : List Part). done (p ∷ ps))
unfolding items_at
items-first least most s at left p e = rw e

items-stop : (least most : ℕ) (s : List ℕ) (at left : ℕ) (r : Refusal) → item_at least most s at ≡ refused r
    → items_at least most s at (suc left) ≡ refused r
unfolding items_at
items-stop least most s at left r e = rw e

items-none : (least most : ℕ) (s : List ℕ) (at : ℕ) → items_at least most s at 0 ≡ done []
unfolding items_at
items-none least most s at = refl

module _ {least most : ℕ} {s : List ℕ} {count first : ℕ} where
  pub turn-start : ItemsBegin s count first → Turning least most s count first (replicate spares_limit nowhere) first 0
  unfolding padded_parts end_of
  turn-start asked =
      record {
        got = [];
        counted = refl;
        some = omega arith;
        asked = asked;
        kept = refl;
        ends = refl;
        left =
            let whole : count - 0 ≡ count = omega arith in
            prefixed-none (items_at least most s first count) ∙ ap (λ (k : ℕ). prefixed [] (items_at least most s first k)) (sym whole);
      }

  module _ {items : List Part} {at i : ℕ} (so : Turning least most s count first items at i) where
    pub turn-again : {r : Result Part Refusal} {p : Part} → i < count → ItemRead least most s at r → r ≡ Ok p
        → Turning least most s count first (set items i p) (p.start + p.size) (i + 1)
    turn-again {r} {p} more read is =
        let e : done p ≡ item_at least most s at = rw is at read.answer in
        let one : count - i ≡ suc (count - (i + 1)) = omega arith in
        record {
          got = so.got ++ (p ∷ []);
          counted = omega (arith, length-append so.got (p ∷ []), so.counted);
          some = omega arith;
          asked = record { inside = (item-done least most s at p (sym e)).inside so.asked.inside; few = so.asked.few };
          kept =
              ap (λ (l : List Part). set l i p) so.kept
              ∙ ap (λ (k : ℕ). set (padded_parts so.got) k p) (sym so.counted)
              ∙ places-set so.got p (omega (arith, so.counted, so.asked.few));
          ends = end_of-more first so.got p;
          left =
              so.left
              ∙ ap (λ (k : ℕ). prefixed so.got (items_at least most s at k)) one
              ∙ ap (prefixed so.got) (items-first least most s at (count - (i + 1)) p (sym e))
              ∙ prefixed-more so.got p (items_at least most s (after p) (count - (i + 1)));
        }

    -- a refused item refuses all
    pub turn-refused : {r : Result Part Refusal} {why : Refusal} → i < count → ItemRead least most s at r → r ≡ Err why
        → items_at least most s first count ≡ refused why
    unfolding prefixed
    turn-refused {r} {why} more read is =
        let e : refused why ≡ item_at least most s at = rw is at read.answer in
        let one : count - i ≡ suc (count - (i + 1)) = omega arith in
        so.left
        ∙ ap (λ (k : ℕ). prefixed so.got (items_at least most s at k)) one
        ∙ ap (prefixed so.got) (items-stop least most s at (count - (i + 1)) why (sym e))

    -- none is left to read
    pub turn-done : count ≤ i → items_at least most s first count ≡ done so.got
    unfolding prefixed
    turn-done all =
        let none : count - i ≡ 0 = omega arith in
        so.left
        ∙ ap (λ (k : ℕ). prefixed so.got (items_at least most s at k)) none
        ∙ ap (prefixed so.got) (items-none least most s at)
        ∙ ap (λ (l : List Part). done l) (append-nil so.got)

-- the laws of the loop's turns
pub ruleset turns = (turn-start, turn-again)
