-- A packet or message at its place, and several of them: one law for each answer of `item_at`, and the turns of `items_at`. The loop's
-- invariant: what is left to read, put behind what was read, is the whole. Assumes nothing.
use Rattle.std.proofs.Common.{◌≡◌, ℕ, suc, ◌+◌, ◌-◌, ◌<◌, ◌≤◌, List, [], ◌∷◌, ◌++◌, Option, Some, None, length, take, drop, set, replicate, sym, refl, ap, ◌∙◌, append-nil, add-one, arith, length-drop, length-set, take_all, take-suc-set, le-ltb, lt-ltb, Result, Ok, Err}
use lib.ListN.{length-replicate}
use lib.Seq.{append_snoc}
use Rattle.length.specs.Answers.{Answer, done, refused, ◌>>=◌, read_from, length_outcome}
use Rattle.length.specs.Length.{length_within}
use Rattle.length.specs.Promise.{WithinRead}
use Rattle.length.specs.declared.Refusal.{Refusal}
use Rattle.length.specs.declared.Length.{Length}
use Rattle.length.proofs.Laws.{not_done, bind_done}
use Rattle.datagram.specs.Sizes.{message_least, messages_limit}
use Rattle.datagram.specs.Read.{after, length_from, item_at, items_at, end_of}
use Rattle.datagram.specs.Promise.{nowhere}
use Rattle.datagram.specs.declared.reader.Part.{Part}
use Rattle.datagram.proofs.Laws.{within-ends, item-done}
use Rattle.image_reader.specs.Items.{NoItem, ItemTold, ItemsTold}

-- ---- one
module _ {limit : ℕ} (s : List ℕ) (at : ℕ) {found : Result Length Refusal}
    (read : WithinRead message_least limit (take (length s - at) (drop at s)) found) where
  -- the length reader looks at the rest from the place on
  told : length_from message_least limit s at ≡ read_from at (length_outcome found)
  told =
      let rest : take (length s - at) (drop at s) ≡ drop at s = take_all (length s - at) (drop at s) (omega (arith, length-drop at s)) in
      ap (read_from at) (sym (read.answer ∙ ap (length_within message_least limit) rest))

  pub item-none : {why : Refusal} → found ≡ Err why → ItemTold limit s at None
  unfolding item_at
  item-none {why} is =
      record {
        answer = λ p e.
            let l = bind_done (length_from message_least limit s at) _ p e in
            not_done (sym (ap (λ (x : Result Length Refusal). read_from at (length_outcome x)) is) ∙ sym told ∙ l.1);
      }

  module _ {l : Length} (is : found ≡ Ok l) where
    length-told : length_from message_least limit s at ≡ done (record { value = l.value; size = l.size })
    length-told = told ∙ ap (λ (x : Result Length Refusal). read_from at (length_outcome x)) is

    pub length-ends : at ≤ length s → at + l.size ≤ length s
    length-ends inside = within-ends message_least limit s at (record { value = l.value; size = l.size }) length-told inside

    pub item-cut : length s - (at + l.size) < l.value → ItemTold limit s at None
    unfolding item_at
    item-cut short = record { answer = λ p e. not_done (rw (length-told, lt-ltb (length s - (at + l.size)) l.value short) at e) }

    pub item-found : l.value ≤ length s - (at + l.size)
        → ItemTold limit s at (Some (record { start = at + l.size; size = l.value }))
    unfolding item_at
    item-found room = record { answer = rw (length-told, le-ltb (length s - (at + l.size)) l.value room) }

pub ruleset parts = (item-none, item-cut, item-found)

-- what was told of one
module _ {limit : ℕ} {s : List ℕ} {at : ℕ} {r : Option Part} (t : ItemTold limit s at r) where
  pub told-item : {p : Part} → r ≡ Some p → item_at message_least limit s at ≡ done p
  told-item is = rw is at t.answer

  pub told_none : r ≡ None → NoItem limit s at
  told_none is = rw is at t.answer

  pub item-ends : {p : Part} → r ≡ Some p → at ≤ length s → p.start + p.size ≤ length s
  item-ends {p} is inside = (item-done message_least limit s at p (told-item is)).inside inside

-- ---- several
-- what was read before, in front of what is left to read
abbrev pub prefixed : List Part → Answer (List Part) → Answer (List Part)
prefixed got a = ◌>>=◌ a (λ (ps : List Part). done (got ++ ps))

pub record Turning (limit : ℕ) (s : List ℕ) (count first : ℕ) (places : List Part) (at i : ℕ) : Type 0 where
  pub some : i ≤ count
  pub few : count ≤ messages_limit
  pub there : messages_limit ≡ length places
  pub inside : at ≤ length s
  pub ends : end_of first (take i places) ≡ at
  pub left : items_at message_least limit s first count ≡ prefixed (take i places) (items_at message_least limit s at (count - i))

prefixed-none : (a : Answer (List Part)) → a ≡ prefixed [] a
prefixed-none (done ps) = refl
prefixed-none (refused r) = refl

prefixed-more : (got : List Part) (p : Part) (a : Answer (List Part))
    → prefixed got (◌>>=◌ a (λ (ps : List Part). done (p ∷ ps))) ≡ prefixed (got ++ (p ∷ [])) a
prefixed-more got p (done ps) = ap (λ (l : List Part). done l) (sym (append_snoc got p ps))
prefixed-more got p (refused r) = refl

prefixed-never : (got : List Part) (a : Answer (List Part)) → ((ps : List Part) → a ≡ done ps → ⊥) → (ps : List Part)
    → prefixed got a ≡ done ps → ⊥
prefixed-never got (done x) never ps e = never x refl
prefixed-never got (refused r) never ps e = not_done e

end_of-more : (at : ℕ) (got : List Part) (p : Part) → end_of at (got ++ (p ∷ [])) ≡ after p
unfolding end_of
end_of-more at [] p = refl
end_of-more at (q ∷ got) p = end_of-more (after q) got p

module _ (limit : ℕ) (s : List ℕ) (at left : ℕ) where
  items-first : (p : Part) → item_at message_least limit s at ≡ done p → items_at message_least limit s at (suc left)
      ≡ ◌>>=◌ (items_at message_least limit s (after p) left) (λ (ps : List Part). done (p ∷ ps))
  unfolding items_at
  items-first p e = rw e

  items-never : NoItem limit s at → (ps : List Part) → items_at message_least limit s at (suc left) ≡ done ps → ⊥
  unfolding items_at
  items-never never ps e =
      let one = bind_done (item_at message_least limit s at) _ ps e in
      never one.0 one.1

items-none : (limit : ℕ) (s : List ℕ) (at : ℕ) → items_at message_least limit s at 0 ≡ done []
unfolding items_at
items-none limit s at = refl

module _ {limit : ℕ} {s : List ℕ} {count first : ℕ} where
  pub turn-start : first ≤ length s → count ≤ messages_limit
      → Turning limit s count first (replicate messages_limit nowhere) first 0
  unfolding end_of
  turn-start inside few =
      let whole : count - 0 ≡ count = omega arith in
      record {
        some = omega arith;
        few = few;
        there = sym (length-replicate messages_limit nowhere);
        inside = inside;
        ends = refl;
        left =
            prefixed-none (items_at message_least limit s first count)
            ∙ ap (λ (k : ℕ). prefixed [] (items_at message_least limit s first k)) (sym whole);
      }

  module _ {places : List Part} {at i : ℕ} (so : Turning limit s count first places at i) (more : i < count) {r : Option Part}
      (told : ItemTold limit s at r) where
    one : count - i ≡ suc (count - (i + 1))
    one = omega arith

    pub turn-again : {p : Part} → r ≡ Some p → Turning limit s count first (set places i p) (p.start + p.size) (i + 1)
    turn-again {p} is =
        let e = told-item told is in
        let low : i < length places = omega (arith, so.few, so.there) in
        let next : take (i + 1) (set places i p) ≡ take i places ++ (p ∷ []) = rw add-one (take-suc-set places i p low) in
        record {
          some = omega arith;
          few = so.few;
          there = so.there ∙ sym (length-set places i p);
          inside = (item-done message_least limit s at p e).inside so.inside;
          ends = ap (end_of first) next ∙ end_of-more first (take i places) p;
          left =
              so.left
              ∙ ap (λ (k : ℕ). prefixed (take i places) (items_at message_least limit s at k)) one
              ∙ ap (prefixed (take i places)) (items-first limit s at (count - (i + 1)) p e)
              ∙ prefixed-more (take i places) p (items_at message_least limit s (after p) (count - (i + 1)))
              ∙ ap (λ (l : List Part). prefixed l (items_at message_least limit s (after p) (count - (i + 1)))) (sym next);
        }

    -- a refused one refuses all
    pub turn-none : r ≡ None → ItemsTold limit s first count None
    turn-none is =
        record {
          answer = λ ps e.
              prefixed-never (take i places) (items_at message_least limit s at (suc (count - (i + 1))))
              (items-never limit s at (count - (i + 1)) (told_none told is)) ps
              (sym (so.left ∙ ap (λ (k : ℕ). prefixed (take i places) (items_at message_least limit s at k)) one) ∙ e);
        }

  -- none is left to read
  pub turn-done : {places : List Part} {at i : ℕ} → Turning limit s count first places at i → count ≤ i
      → ItemsTold limit s first count (Some (record { end = at; parts = places }))
  turn-done {places} {at} {i} so all =
      let is : i ≡ count = omega (arith, so.some) in
      let none : count - i ≡ 0 = omega arith in
      record {
        answer =
            record {
              read =
                  so.left
                  ∙ ap (λ (k : ℕ). prefixed (take i places) (items_at message_least limit s at k)) none
                  ∙ ap (prefixed (take i places)) (items-none limit s at)
                  ∙ ap (λ (l : List Part). done l) (append-nil (take i places))
                  ∙ ap (λ (k : ℕ). done (take k places)) is;
              ends = ap (λ (k : ℕ). end_of first (take k places)) (sym is) ∙ so.ends;
            };
      }

pub ruleset turns = (turn-start, turn-again, turn-none, turn-done)
