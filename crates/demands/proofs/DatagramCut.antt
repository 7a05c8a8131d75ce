-- Octets that end too early: octets more make them a datagram, or they end inside a length or count that no second octet would bring
-- within its sizes, and never both. What is due after the item that is cut can always come. Assumes nothing.
use Prim.Native.Nat.{ℕ, ◌-◌, ◌≤◌, ◌<◌}
use mathlib.Core.Path.{◌≡◌, refl, sym, ap, subst, ◌∙◌}
use mathlib.Core.Logic.{◌⊎◌, inl, inr, ⊎_elim}
use mathlib.Core.List.{List, [], ◌∷◌, ◌++◌, append_assoc, append-nil}
use lib.ListN.{length, replicate, length-append, length-replicate}
use native.Mathlib.Omega.{arith}
use Rattle.length.specs.Refusals.{ends_early, bad_form, outside_sizes}
use Rattle.length.specs.Length.{length_octets, of_two}
use Rattle.length.specs.Claims.{Octets}
use Rattle.length.specs.declared.Reason.{Reason}
use Rattle.octets.proofs.Laws.{below_or_not}
use Rattle.demands.specs.Demand1.DatagramItems.{Item, number, packet, kind, spares, octet01, octet_n, count_m, message, inside, Form}
use Rattle.demands.specs.Demand1.DatagramItems.{many, sized, form_of, form_due}
use Rattle.demands.specs.Demand1.DatagramItems.{Right, right_octets, right_size, Due, passes}
use Rattle.demands.specs.Demand1.DatagramRefusals.{Wrong, cut_size, long_size, other_size}
use Rattle.demands.specs.Demand1.DatagramRefusals.{FirstWrong, Front, CutOver}
use Rattle.demands.proofs.DatagramForms.{two-octets}
use Rattle.demands.proofs.DatagramFronts.{octets-zero, octet-alone, Comes, comes-after, all_come}
use Rattle.demands.proofs.DatagramNumbers.{Early, few, bare, cut}

-- ---- fronts
-- an item that octets more make right
complete-right : (before rest missing : List ℕ) (item : Item) (later : List Item) (v : ℕ) → Due before (item ∷ later) → Octets missing
    → Right (form_of item) (rest ++ missing) v → Comes (before ++ rest) []
complete-right before rest missing item later v due octets right =
    let come = all_come _ (before ++ (rest ++ missing)) (passes due right) in
    comes-after (before ++ rest) missing [] octets (rw (append_assoc before rest missing) come)

complete-few : (before rest : List ℕ) (item : Item) (later : List Item) (n : ℕ) → Due before (item ∷ later) → form_of item ≡ many n
    → length rest < n → Comes (before ++ rest) []
complete-few before rest item later n due is less =
    let missing : List ℕ = replicate (n - length rest) 0 in
    let long : length (rest ++ missing) ≡ n = omega (arith, length-append rest missing, length-replicate {A = ℕ} (n - length rest) 0) in
    complete-right before rest missing item later 0 due (octets-zero (n - length rest)) (rw is (right_octets long))

-- a length or count may be small
sized_same : {a b c d : ℕ} → sized a b ≡ sized c d → a ≡ c
sized_same e = cc

least-of : {a b least most : ℕ} → sized a b ≡ sized least most → a ≤ 1 → least ≤ 1
least-of e low = rw (← sized_same e) low

item-least : (item : Item) (least most : ℕ) → form_of item ≡ sized least most → least ≤ 1
unfolding form_of
item-least number least most is = let z : ◌≡◌ {A = ℕ} 0 1 = cc in absurd (omega arith)
item-least packet least most is = least-of is (omega arith)
item-least kind least most is = let z : ◌≡◌ {A = ℕ} 0 1 = cc in absurd (omega arith)
item-least spares least most is = least-of is (omega arith)
item-least octet01 least most is = let z : ◌≡◌ {A = ℕ} 0 1 = cc in absurd (omega arith)
item-least octet_n least most is = let z : ◌≡◌ {A = ℕ} 0 1 = cc in absurd (omega arith)
item-least count_m least most is = least-of is (omega arith)
item-least message least most is = least-of is (omega arith)
item-least (inside n) least most is = let z : ◌≡◌ {A = ℕ} 0 1 = cc in absurd (omega arith)

-- the least second octet is 80 after 80, which makes 128, and 00 after any other; if that is over its most, no second octet helps
module _ (before : List ℕ) (item : Item) (later : List Item) (least most first : ℕ) (due : Due before (item ∷ later))
    (is : form_of item ≡ sized least most) (low : 0x80 ≤ first) (high : first < 0xC0) where
  beyond : ((second : ℕ) → 0x80 ≤ of_two first second → most < of_two first second) → CutOver (before ++ (first ∷ []))
  beyond over =
      record {
        before = before;
        first = first;
        item = item;
        later = later;
        least = least;
        most = most;
        is = refl;
        due = due;
        form = is;
        of_two_octets = (low, high);
        over = over;
      }

  with_second : (second : ℕ) → second < 256 → 0x80 ≤ of_two first second → of_two first second ≤ most → Comes (before ++ (first ∷ [])) []
  with_second second octet large fits =
      let small : least ≤ of_two first second = omega (arith, item-least item least most is) in
      let right : Right (form_of item) (length_octets (of_two first second)) (of_two first second) = rw is (right_size small fits) in
      complete-right before (first ∷ []) (second ∷ []) item later (of_two first second) due (octet-alone second octet)
      (subst (λ (l : List ℕ). Right (form_of item) l (of_two first second)) (two-octets first second octet low high large) right)

  -- a second octet that makes a length or count of two octets, and no other makes less
  complete-least : (second : ℕ) → second < 256 → 0x80 ≤ of_two first second
      → ((other : ℕ) → 0x80 ≤ of_two first other → of_two first second ≤ of_two first other)
      → Comes (before ++ (first ∷ [])) [] ⊎ CutOver (before ++ (first ∷ []))
  complete-least second octet large no_less =
      ⊎_elim (λ over. inr (beyond (λ other long. omega (arith, no_less other long)))) (λ fits. inl (with_second second octet large fits))
      (below_or_not most (of_two first second))

  complete-size : Comes (before ++ (first ∷ [])) [] ⊎ CutOver (before ++ (first ∷ []))
  complete-size =
      ⊎_elim (λ eighty. complete-least 0x80 (omega arith) (omega arith) (λ other long. omega arith))
      (λ more. complete-least 0x00 (omega arith) (omega arith) (λ other long. omega arith))
      (below_or_not first 0x81)

pub completed : (before rest : List ℕ) (items : List Item) → Due before items → Early (form_due items) rest
    → Comes (before ++ rest) [] ⊎ CutOver (before ++ rest)
unfolding form_due
completed before rest [] due (few is less) = let z : ◌≡◌ {A = ℕ} 0 1 = cc in absurd (omega arith)
completed before rest [] due (bare is item) = absurd (item refl)
completed before rest [] due (cut is left low high) = let z : ◌≡◌ {A = ℕ} 0 1 = cc in absurd (omega arith)
completed before rest (item ∷ later) due (few {n} is less) = inl (complete-few before rest item later n due is less)
completed before rest (item ∷ later) due (bare is some-due) =
    inl (rw (is, append-nil before) (all_come (item ∷ later) before due))
completed before rest (item ∷ later) due (cut {least} {most} {first} is left low high) =
    rw left (complete-size before item later least most first due is low high)

pub cut-wrong : {s : List ℕ} → CutOver s → FirstWrong s ends_early
unfolding form_due
cut-wrong c =
    record {
      before = c.before;
      rest = c.first ∷ [];
      items = c.item ∷ c.later;
      is = c.is;
      due = c.due;
      wrong = subst (λ (f : Form). Wrong f (c.first ∷ []) ends_early) (sym c.form) (cut_size c.of_two_octets.0 c.of_two_octets.1);
    }

-- and is wrong with any octets after it
cut_on : (least most first second : ℕ) (t : List ℕ) → second < 256 → 0x80 ≤ first → first < 0xC0
    → (0x80 ≤ of_two first second → most < of_two first second) → (n : Reason) × Wrong (sized least most) (first ∷ second ∷ t) n
cut_on least most first second t octet low high over =
    ⊎_elim
    (λ less.
    let is : first ≡ 0x80 = omega arith in
    let small : second < 0x80 = omega arith in
    (bad_form, rw is (long_size small)))
    (λ large. (
      outside_sizes,
      rw (sym (ap (λ (l : List ℕ). l ++ t) (two-octets first second octet low high large))) (other_size t (inr (over large)) (omega arith)),
    ))
    (below_or_not (of_two first second) 0x80)

pub front-wrong : {s : List ℕ} (f : Front s) → CutOver s → (n : Reason) × FirstWrong (s ++ (f.first ∷ f.rest)) n
unfolding form_due
front-wrong f c =
    let two = c.of_two_octets in
    let on = cut_on c.least c.most c.first f.first f.rest (f.octets 0) two.0 two.1 (c.over f.first) in (
      on.0,
      record {
        before = c.before;
        rest = c.first ∷ f.first ∷ f.rest;
        items = c.item ∷ c.later;
        is = ap (λ (l : List ℕ). l ++ (f.first ∷ f.rest)) c.is ∙ append_assoc c.before (c.first ∷ []) (f.first ∷ f.rest);
        due = c.due;
        wrong = subst (λ (g : Form). Wrong g (c.first ∷ f.first ∷ f.rest) on.0) (sym c.form) on.1;
      },
    )
