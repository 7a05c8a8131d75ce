-- The datagram reader goes from item to item: of octets within the limit it tells what the walk over their items tells, place and all.
-- Each of its pieces is a step of the walk or two, at a place of the octets; what is left from there on is what the walk meets.
-- Assumes nothing.
use Prim.Native.Nat.{ℕ, zero, suc, ◌+◌, ◌-◌, ◌*◌, ◌%◌, ◌≤◌}
use mathlib.Core.Path.{◌≡◌, refl, sym, ap, subst, ◌∙◌}
use mathlib.Core.Logic.{⊎_elim}
use mathlib.Core.Bool.{Bool, true, false, cond}
use mathlib.Core.List.{List, [], ◌∷◌, ◌++◌}
use lib.ListN.{length, get_or, drop, replicate, length-drop, drop_of_length-le}
use lib.Seq.{get_or-drop, drop-cons}
use lib.Dec.{leb, ltb, eqb}
use native.Mathlib.Omega.{arith}
use borrow.Author.Tests.{lt-ltb, le-ltb, le-leb, lt-leb}
use Rattle.octets.proofs.Laws.{below_or_not}
use Rattle.length.specs.Refusals.{refusal, refusal_at, ends_early, spare_bit, left_over}
use Rattle.length.specs.Answers.{Answer, done, refused, refuse, refuse_at, read_from, ◌>>=◌, LengthAnswer}
use Rattle.length.specs.declared.Refusal.{Refusal}
use Rattle.length.proofs.Laws.{from_front}
use Rattle.length.specs.Claims.{Octets}
use Rattle.datagram.specs.Sizes.{packet_least, packet_limit, datagram_limit, spares_least, spares_limit, covered_least, covered_limit}
use Rattle.datagram.specs.Sizes.{messages_least, messages_limit}
use Rattle.datagram.specs.Read.{ExtraHead, after, length_from, octet_at, item_at, items_at, end_of}
use Rattle.datagram.specs.Read.{spares_at, parity_at, extra_at, least_of, most_of, number_of, whole_of, read_datagram}
use Rattle.datagram.specs.declared.reader.Part.{Part}
use Rattle.datagram.specs.declared.kind.Kind.TheVariants as kinds
use Rattle.datagram.proofs.Laws.{rest-after}
use Rattle.length.specs.Length.{allowed, length_within}
use Rattle.length.specs.declared.Reason.{Reason}
use Rattle.demands.specs.Demand1.DatagramItems.{Item, number, packet, kind, spares, octet01, octet_n, count_m, message, inside, Form}
use Rattle.demands.specs.Demand1.DatagramItems.{many, sized, plain, flag, form_of, form_due, brings, Right, right_octets, right_octet}
use Rattle.demands.specs.Demand1.DatagramItems.{right_spares, right_parity}
use Rattle.demands.specs.Demand1.DatagramRefusals.{Wrong, more_octets}
use Rattle.demands.proofs.DatagramForms.{form_at, found, Stands, right, wrong, octets-stand, octet-stands, size-stands, flag-stands}
use Rattle.demands.proofs.DatagramWalk.{why_in, Walk, ends, stops, steps, start}

-- ---- steps of the reader
then-then : {A B C : Type 0} (m : Answer A) (f : A → Answer B) (g : B → Answer C)
    → ◌>>=◌ (◌>>=◌ m f) g ≡ ◌>>=◌ m (λ a. ◌>>=◌ (f a) g)
then-then (done a) f g = refl
then-then (refused why) f g = refl

test-then : {A B : Type 0} (t : Bool) (why : Refusal) (a : A) (g : A → Answer B)
    → ◌>>=◌ (cond t (refused why) (done a)) g ≡ cond t (refused why) (g a)
test-then true why a g = refl
test-then false why a g = refl

-- and of one at the front of what is read from a place on
test-from : {A B : Type 0} (t : Bool) (at : ℕ) (n : Reason) (a : A) (g : A → Answer B)
    → ◌>>=◌ (read_from at (cond t (refuse n) (done a))) g ≡ cond t (refuse_at at n) (g a)
test-from true at n a g = ap (λ (m : Answer _). ◌>>=◌ m g) (from_front at n)
test-from false at n a g = refl

-- the octet at a place, if there is one
one_at : (s : List ℕ) (at : ℕ) {A : Type 0} (m : Answer A) (test : ℕ → Answer A) (f : List ℕ → Answer A) → f [] ≡ m
    → ((first : ℕ) (rest : List ℕ) → f (first ∷ rest) ≡ test first)
    → cond (leb (length s) at) m (test (get_or s at 0)) ≡ f (drop at s)
one_at s at m test f none-there there =
    ⊎_elim
    (λ low. ap (λ (b : Bool). cond b m (test (get_or s at 0))) (lt-leb (length s) at low)
    ∙ sym (there (get_or s at 0) (drop (suc at) s)) ∙ ap f (sym (drop-cons s at 0 low)))
    (λ past. ap (λ (b : Bool). cond b m (test (get_or s at 0))) (le-leb (length s) at past)
    ∙ sym none-there ∙ ap f (sym (drop_of_length-le s past)))
    (below_or_not at (length s))

flag-then : {A : Type 0} (at : ℕ) (g : ℕ → Answer A) (first : ℕ) (t : Bool)
    → ◌>>=◌ (read_from at (cond t (found first 1) (refuse spare_bit))) (λ (l : LengthAnswer). g l.value)
    ≡ cond t (g first) (refuse_at at spare_bit)
flag-then at g first true = refl
flag-then at g first false = ap (λ (m : Answer LengthAnswer). ◌>>=◌ m (λ (l : LengthAnswer). g l.value)) (from_front at spare_bit)

many-right : {n v : ℕ} {x : List ℕ} → Right (many n) x v → (v ≡ 0) × (length x ≡ n)
many-right (right_octets is) = (refl, is)

plain-right : {least most v : ℕ} {x : List ℕ} → Right (plain least most) x v → length x ≡ 1
plain-right (right_octet low high) = refl

next_place : (at : ℕ) → at + 2 ≡ at + 1 + 1
next_place at = omega arith

none-off : (n : ℕ) → n ≡ n - 0
none-off n = omega arith

-- ---- and of the walk, at a place of the octets

-- with these items due at this place, the walk tells what the reader's next steps tell
abbrev Leads : {B : Type 0} → List ℕ → List Item → ℕ → Answer B → Type 0
Leads s items at m = Walk at items (drop at s) (why_in m)

module _ (s : List ℕ) (octets : Octets s) where
  left-octets : (at : ℕ) → Octets (drop at s)
  left-octets at i = rw (get_or-drop at s i 0) (octets (at + i))

  step : {B : Type 0} {item : Item} {later : List Item} {f : Form} {a : Answer LengthAnswer} (at : ℕ) (g : LengthAnswer → Answer B)
      → form_of item ≡ f → Stands f (drop at s) a
      → ((x : List ℕ) (v n : ℕ) → Right f x v → length x ≡ n
      → Leads s (brings item v ++ later) (at + n) (g (record { value = v; size = n })))
      → Leads s (item ∷ later) at (◌>>=◌ (read_from at a) g)
  unfolding form_due
  step {item = item} {later} at g is (right {x} {v} {n} t r e long) next =
      let left : drop (at + n) s ≡ t = ap (λ (k : ℕ). drop (at + k) s) (sym long) ∙ rest-after s x t at e in
      steps t (subst (λ (f : Form). Right f x v) (sym is) r) e
      (subst (λ (l : List ℕ). Walk (at + length x) (brings item v ++ later) l (why_in (g (record { value = v; size = n })))) left
      (subst (λ (k : ℕ). Walk (at + k) (brings item v ++ later) (drop (at + n) s) (why_in (g (record { value = v; size = n })))) (sym long)
      (next x v n r long)))
  step {item = item} {later} at g is (wrong {n} w) next =
      subst (λ (m : Answer LengthAnswer). Leads s (item ∷ later) at (◌>>=◌ m g)) (sym (from_front at n))
      (stops {items = item ∷ later} (subst (λ (f : Form). Wrong f (drop at s) n) (sym is) w))

  -- so many octets
  many-walk : {B : Type 0} (item : Item) (later : List Item) (at n : ℕ) (m : Answer B) → form_of item ≡ many n → brings item 0 ≡ []
      → Leads s later (at + n) m
      → Leads s (item ∷ later) at (cond (ltb (length s - at) n) (refuse_at at ends_early) m)
  unfolding form_at
  many-walk item later at n m is none-brought next =
      subst (λ (a : Answer _). Leads s (item ∷ later) at a)
      (test-from (ltb (length (drop at s)) n) at ends_early (record { value = 0; size = n }) (λ (l : LengthAnswer). m)
      ∙ ap (λ (k : ℕ). cond (ltb k n) (refuse_at at ends_early) m) (length-drop at s))
      (step at (λ (l : LengthAnswer). m) is (octets-stand n (drop at s))
      (λ x v k r long.
      rw ((many-right r).0, none-brought) (subst (λ (j : ℕ). Leads s later (at + j) m) (sym (many-right r).1 ∙ long) next)))

  -- a length or count
  sized-walk : {B : Type 0} (item : Item) (later : List Item) (at least most : ℕ) (g : LengthAnswer → Answer B)
      → form_of item ≡ sized least most
      → ((v n : ℕ) → Leads s (brings item v ++ later) (at + n) (g (record { value = v; size = n })))
      → Leads s (item ∷ later) at (◌>>=◌ (length_from least most s at) g)
  unfolding form_at length_within
  sized-walk item later at least most g is next =
      step at g is (size-stands least most (drop at s) (left-octets at)) (λ x v n r long. next v n)

  -- a plain octet
  octet-walk : {B : Type 0} (item : Item) (later : List Item) (at least most : ℕ) (g : LengthAnswer → Answer B)
      → form_of item ≡ plain least most → ((v : ℕ) → brings item v ≡ [])
      → ((v : ℕ) → Leads s later (at + 1) (g (record { value = v; size = 1 })))
      → Leads s (item ∷ later) at (◌>>=◌ (octet_at least most s at) g)
  unfolding form_at octet_at
  octet-walk item later at least most g is none-brought next =
      rw
      (one_at s at (refuse ends_early) (λ v. allowed least most (record { value = v; size = 1 })) (form_at (plain least most)) refl
      (λ first rest. refl))
      (step at g is (octet-stands least most (drop at s))
      (λ x v n r long.
      rw (none-brought v)
      (subst (λ (k : ℕ). Leads s later (at + k) (g (record { value = v; size = k }))) (sym (plain-right r) ∙ long) (next v))))

  -- a packet, spare or message
  item-walk : {B : Type 0} (item : Item) (later : List Item) (at least most : ℕ) (g : Part → Answer B) → form_of item ≡ sized least most
      → ((v : ℕ) → brings item v ≡ inside v ∷ []) → ((p : Part) → Leads s later (after p) (g p))
      → Leads s (item ∷ later) at (◌>>=◌ (item_at least most s at) g)
  unfolding item_at form_of brings
  item-walk item later at least most g is brought next =
      rw (then-then (length_from least most s at) _ g)
      (sized-walk item later at least most _ is
      (λ v n.
      let part : Part = record { start = at + n; size = v } in
      rw (brought v, test-then (ltb (length s - (at + n)) v) (refusal_at (at + n) ends_early) part g)
      (many-walk (inside v) later (at + n) v (g part) refl refl (next part))))

  -- so many of them
  items-walk : {B : Type 0} (item : Item) (later : List Item) (least most : ℕ) → form_of item ≡ sized least most
      → ((v : ℕ) → brings item v ≡ inside v ∷ [])
      → (count at : ℕ) (g : List Part → Answer B) → ((ps : List Part) → Leads s later (end_of at ps) (g ps))
      → Leads s (replicate count item ++ later) at (◌>>=◌ (items_at least most s at count) g)
  unfolding items_at end_of
  items-walk item later least most is brought zero at g next = next []
  items-walk item later least most is brought (suc count) at g next =
      rw (then-then (item_at least most s at) _ g)
      (item-walk item (replicate count item ++ later) at least most _ is brought
      (λ p. rw (then-then (items_at least most s (after p) count) _ g)
      (items-walk item later least most is brought count (after p) (λ ps. g (p ∷ ps)) (λ ps. next (p ∷ ps)))))

  -- ---- what follows the newest packet, up to the items
  module _ {B : Type 0} (g : ExtraHead → Answer B) (later : List Item)
      (of-spares : (count first : ℕ)
      → Leads s (replicate count packet ++ later) first (g (record { kind = kinds.Spares; count = count; first = first })))
      (of-parity : (n count first : ℕ)
      → Leads s (replicate count message ++ later) first (g (record { kind = kinds.Parity n; count = count; first = first })))
    where
      spares-walk : (at : ℕ) → Leads s (spares ∷ later) at (◌>>=◌ (spares_at s at) g)
      unfolding spares_at form_of brings
      spares-walk at =
          rw (then-then (length_from spares_least spares_limit s at) _ g)
          (sized-walk spares later at spares_least spares_limit _ refl (λ v n. of-spares v (at + n)))

      parity-walk : (at : ℕ) → Leads s (octet01 ∷ octet_n ∷ count_m ∷ later) at (◌>>=◌ (parity_at s at) g)
      unfolding parity_at form_of brings
      parity-walk at =
          rw (then-then (octet_at 1 1 s at) _ g)
          (octet-walk octet01 (octet_n ∷ count_m ∷ later) at 1 1 _ refl (λ v. refl)
          (λ one. rw (then-then (octet_at covered_least covered_limit s (at + 1)) _ g)
          (octet-walk octet_n (count_m ∷ later) (at + 1) covered_least covered_limit _ refl (λ v. refl)
          (λ n. rw (then-then (length_from messages_least messages_limit s (at + 2)) _ g, ← next_place at)
          (sized-walk count_m later (at + 2) messages_least messages_limit _ refl (λ m k. of-parity n m (at + 2 + k)))))))

      extra-walk : (at : ℕ) → Leads s (kind ∷ later) at (◌>>=◌ (extra_at s at) g)
      unfolding extra_at form_at form_of brings
      extra-walk at =
          rw (
            one_at s at (refuse_at at ends_early) (λ first. cond (eqb (first % 0x80) 0) (kind-head first) (refuse_at at spare_bit))
                (λ rest. ◌>>=◌ (read_from at (form_at flag rest)) (λ (l : LengthAnswer). kind-head l.value)) (from_front at ends_early)
                (λ first rest. flag-then at kind-head first (eqb (first % 0x80) 0)),
            then-then (read_from at (form_at flag (drop at s))) (λ (l : LengthAnswer). kind-head l.value) g,
          )
          (step at _ refl (flag-stands (drop at s) (left-octets at)) pick) where
            kind-head : ℕ → Answer ExtraHead
            kind-head first = cond (ltb first 0x80) (spares_at s (at + 1)) (parity_at s (at + 1))

            pick : (x : List ℕ) (v n : ℕ) → Right flag x v → length x ≡ n
                → Leads s (brings kind v ++ later) (at + n) (◌>>=◌ (kind-head v) g)
            pick x v n right_spares long =
                subst (λ (k : ℕ). Leads s (spares ∷ later) (at + k) (◌>>=◌ (spares_at s (at + 1)) g)) long (spares-walk (at + 1))
            pick x v n right_parity long =
                subst (λ (k : ℕ). Leads s (octet01 ∷ octet_n ∷ count_m ∷ later) (at + k) (◌>>=◌ (parity_at s (at + 1)) g)) long
                (parity-walk (at + 1))

  -- ---- the whole
  end-walk : {B : Type 0} (at : ℕ) (b : B) → Leads s [] at (cond (ltb at (length s)) (refuse_at at left_over) (done b))
  unfolding form_due
  end-walk at b =
      ⊎_elim (λ more. rw (lt-ltb at (length s) more, drop-cons s at 0 more) (stops {items = []} more_octets))
      (λ none_left. rw (le-ltb at (length s) none_left, drop_of_length-le s none_left) ends)
      (below_or_not at (length s))

  whole-walk : (h : ExtraHead) (item : Item) (place : ℕ) (p : Part) → form_of item ≡ sized (least_of h.kind) (most_of h.kind)
      → ((v : ℕ) → brings item v ≡ inside v ∷ [])
      → Leads s (replicate h.count item ++ []) h.first (whole_of s place p h)
  unfolding whole_of
  whole-walk h item place p is brought =
      items-walk item [] (least_of h.kind) (most_of h.kind) is brought h.count h.first _ (λ ps. end-walk (end_of h.first ps) _)

  pub read_walk : length s ≤ datagram_limit → Walk 0 start s (why_in (read_datagram s))
  unfolding read_datagram number_of form_of brings
  read_walk short =
      rw (
        le-ltb datagram_limit (length s) short,
        test-then (ltb (length s) 2) (refusal ends_early) (get_or s 0 0 * 256 + get_or s 1 0) _,
        none-off (length s),
      )
      (many-walk number (packet ∷ kind ∷ []) 0 2 _ refl refl
      (item-walk packet (kind ∷ []) 2 packet_least packet_limit _ refl (λ v. refl)
      (λ p. extra-walk (whole_of s (get_or s 0 0 * 256 + get_or s 1 0) p) []
      (λ count first. whole-walk (record { kind = kinds.Spares; count = count; first = first }) packet _ p refl (λ v. refl))
      (λ n count first. whole-walk (record { kind = kinds.Parity n; count = count; first = first }) message _ p refl (λ v. refl))
      (after p))))
