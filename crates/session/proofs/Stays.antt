-- A fresh session is within the ranges and every call keeps them, of the definitions alone: an offer fills unknown numbers and holds a
-- datagram at a known one, and a release moves the base on. Assumes nothing.
use Prim.Native.Nat.{ℕ, suc, ◌+◌, ◌-◌, ◌≤◌, ◌<◌}
use mathlib.Core.Path.{◌≡◌, refl, sym, ap, subst, ◌∙◌}
use mathlib.Core.Bool.{Bool, true, false, not, cond, false≢true}
use mathlib.Core.List.{List, [], ◌∷◌, map}
use mathlib.Core.Logic.{⊎_elim}
use mathlib.Core.Option.{some}
use lib.ListN.{length, get_or, drop, length-map, length-drop, get_or-map}
use lib.Seq.{get_or-set_same, length-take-le}
use lib.Dec.{leb, ltb, eqb}
use native.Mathlib.Omega.{arith}
use borrow.Author.Tests.{le-leb, leb-true, ltb-true, eq-eqb, ne_eqb}
use Rattle.octets.specs.Place.{all_below}
use Rattle.octets.proofs.Laws.{true-or-false, and_left, and_right, and_both, all_below-at}
use Rattle.length.specs.Refusals.{repeated, too_far, late}
use Rattle.length.specs.Answers.{Answer, done, refused, refuse, ◌>>=◌, afterwards}
use Rattle.length.specs.Claims.{Octets}
use Rattle.length.specs.Length.{within}
use Rattle.length.proofs.Laws.{within-true}
use Rattle.datagram.specs.Sizes.{packet_least, packet_limit, message_limit, covered_least, covered_limit, messages_least, messages_limit}
use Rattle.datagram.specs.Carried.{Carried, Extra}
use Rattle.datagram.specs.Promise.{nowhere}
use Rattle.datagram.specs.Claims.{PartInside}
use Rattle.datagram.specs.Read.{DatagramParts, octets_of, read_datagram, carried_by, least_of, most_of}
use Rattle.datagram.specs.Write.{count_inside, extra_of}
use Rattle.datagram.specs.declared.reader.Part.{Part}
use Rattle.datagram.specs.declared.kind.Kind.{Kind}
use Rattle.datagram.specs.declared.kind.Kind.TheVariants as kind
use Rattle.datagram.proofs.Laws.{read-inside, number_small}
use Rattle.session.specs.Cells.{State, unknown, received, spare, repaired, blank, Cell, blank_cell, filled_cell, is_unknown, unknown_at}
use Rattle.session.specs.Cells.{kept_before, kept_ahead}
use Rattle.session.specs.Held.{Held, held_at, held_messages}
use Rattle.session.specs.Repair.{Message, first_usable, mended, fill, repair}
use Rattle.session.specs.View as views
use Rattle.session.specs.View.{View, sum, numbers, number_at, distance, fresh_view}
use Rattle.session.specs.Offer.{keep, keep_spares, keep_extra, held_by, accept, accepted_at, late_from, offered, offer}
use Rattle.session.specs.Ranges.{sum_right, size_right, note_right, is_fill, mark_right, held_right, known_at, Sound}
use Rattle.session.specs.Release.{Release, counted, at_base, release, view_after_release}
use Rattle.session.proofs.Fill.{unknown-inside, missing, usable-says, length-mended}
use Rattle.session.proofs.Search.{found-usable}
use Rattle.session.proofs.Grows.{repair-keeps}
use Rattle.session.proofs.Held.{held-at}
use Rattle.session.proofs.Filled.{fill_known, filled-sound}
use Rattle.session.proofs.Holding.{accepted-right, held-sound}
use Rattle.session.proofs.GoesOn.{sound-goes-on}
use Rattle.session.proofs.Ranges.{sound-of}
use Rattle.session.proofs.Cases.{ranges-cases}
use Rattle.session.proofs.Release.{release-leaves}

-- the view with other numbers kept
abbrev with_cells : View → List Cell → View
with_cells v cells = record { base = v.base; counts = v.counts; cells = cells; held = v.held }

same-sound : {v : View} → Sound v → Sound (with_cells v v.cells)
unfolding sum_right
same-sound s =
    record { small = s.small; total = s.total; kept = s.kept; ahead = s.ahead; cell = s.cell; note = s.note; held = s.held }

-- ---- packets and spares are kept
-- octets that a packet may have
record PacketSized (b : List ℕ) : Type 0 where
  least : packet_least ≤ length b
  most : length b ≤ packet_limit

keep-sound : {v : View} → Sound v → (S : ℕ) (state : State) → is_fill state ≡ true → (p : ℕ)
    → note_right state S (number_at v.base p) ≡ true → (b : List ℕ) → PacketSized b
    → Sound (with_cells v (keep S state p b v.cells))
unfolding keep
keep-sound {v} s S state fills p noted b sized =
    ⊎_elim (λ t. rw t (filled-sound s p t S state fills noted b sized.least sized.most)) (λ f. rw f (same-sound s))
    (true-or-false (unknown_at v.cells p))

spares-sound : (copies : List (List ℕ)) → ((i : ℕ) → i < length copies → PacketSized (get_or copies i [])) → {v : View} → Sound v → (S p : ℕ)
    → Sound (with_cells v (keep_spares S p copies v.cells))
unfolding keep_spares note_right
spares-sound [] each s S p = same-sound s
spares-sound (b ∷ more) each s S p =
    spares-sound more (λ i low. each (suc i) (omega arith)) (keep-sound s S spare refl (p - 1) refl b (each 0 (omega arith))) S (p - 1)

-- what an accepted datagram adds beside its packet
record ExtraSized (x : Extra) : Type 0 where
  copies : {v : View} → Sound v → (S p : ℕ) → Sound (with_cells v (keep_extra S p x v.cells))
  right : held_right (held_by x) true ≡ true

-- ---- its messages mend
-- a held message is within its size
message-fits : (h : Held) (known : Bool) → held_right h known ≡ true → (i : ℕ) → i < length h.messages
    → length (get_or h.messages i []) ≤ message_limit
unfolding held_right
message-fits h known e i low =
    leb-true (length (get_or h.messages i [])) message_limit
    (all_below-at (length h.messages) (λ j. leb (length (get_or h.messages j [])) message_limit)
    (and_right (mark_right h.accepted known h.n (length h.messages)) _ e) i low)

fill-sound : {v : View} → Sound v → (S : ℕ) (found : Message) → first_usable v.cells (held_messages v.held) ≡ some found
    → Sound (with_cells v (fill (filled_cell S repaired) v.cells found))
unfolding fill held_messages note_right
fill-sound {v} s S found e =
    let got = found-usable v.cells (held_messages v.held) found e in
    let says = usable-says v.cells found got.1 in
    let at = held-at kept_before v.held found got.0 in
    let h : Held = held_at v.held at.j in
    let fits = message-fits h _ (s.held at.j (omega (arith, s.ahead, at.inside))) at.i at.low in
    let long = length-mended v.cells found in
    filled-sound s (missing v.cells found) says.unknown S repaired refl refl (mended v.cells found)
    (omega (arith, long, says.length-one))
    (omega (arith, long, ap (λ (x : Message). length x.octets) at.same))

repair-sound : {v : View} → Sound v → (S : ℕ) → Sound (with_cells v (repair (filled_cell S repaired) v.cells (held_messages v.held)))
repair-sound {v} s S =
    repair-keeps (filled_cell S repaired) (λ now. Sound (with_cells v now)) (held_messages v.held)
    (λ now found e sound. fill-sound sound S found e)
    v.cells (same-sound s)

-- ---- an accepted datagram
known_kept : (S : ℕ) (state : State) → is_fill state ≡ true → (p : ℕ) (b : List ℕ) (cells : List Cell)
    → not (unknown_at (keep S state p b cells) p) ≡ true
unfolding keep
known_kept S state fills p b cells =
    ⊎_elim
    (λ t.
    rw t
    (ap (λ (c : Cell). not (is_unknown c.state)) (get_or-set_same cells p (filled_cell S state b) blank_cell (unknown-inside cells p t))
    ∙ fill_known state fills))
    (λ f. rw f (ap not f))
    (true-or-false (unknown_at cells p))

accept-sound : {v : View} → Sound v → (d : ℕ) → d < kept_ahead → (datagram : Carried)
    → datagram.number ≡ number_at v.base (kept_before + d) → PacketSized datagram.packet
    → ExtraSized datagram.extra → Sound (accept d datagram v)
unfolding accept note_right
accept-sound {v} s d near datagram stands packet extra =
    let S = datagram.number in
    let place = kept_before + d in
    let first = keep S received place datagram.packet v.cells in
    let known : known_at (with_cells v first) place ≡ true = known_kept S received refl place datagram.packet v.cells in
    let own = eq-eqb S (number_at v.base place) stands in
    repair-sound
    (extra.copies
    (held-sound (keep-sound s S received refl place own datagram.packet packet) d near (held_by datagram.extra)
    (rw known extra.right))
    S place)
    S

-- ---- a datagram that was read
part-sized : {least most : ℕ} {s : List ℕ} {p : Part} → PartInside least most s p → length (octets_of s p) ≡ p.size
part-sized {s = s} {p} inside = length-take-le p.size (drop p.start s) (omega (arith, length-drop p.start s, inside.inside))

module _ (s : List ℕ) (items : List Part) {least most : ℕ}
    (each : (i : ℕ) → i < length items → PartInside least most s (get_or items i nowhere)) where
  item-sized : (i : ℕ) → i < length (map (octets_of s) items)
      → (least ≤ length (get_or (map (octets_of s) items) i [])) × (length (get_or (map (octets_of s) items) i []) ≤ most)
  item-sized i low =
      let inside = each i (rw (length-map items (octets_of s)) at low) in
      let long = ap length (get_or-map (octets_of s) items i nowhere) ∙ part-sized inside in
      (omega (arith, long, inside.low), omega (arith, long, inside.high))

extra-sized : (k : Kind) (s : List ℕ) (items : List Part) → count_inside k (length items) ≡ true
    → ((i : ℕ) → i < length items → PartInside (least_of k) (most_of k) s (get_or items i nowhere))
    → ExtraSized (extra_of k (map (octets_of s) items))
unfolding held_right mark_right all_below
extra-sized kind.Spares s items inside each =
    record {
      copies = spares-sound (map (octets_of s) items)
          (λ i low. let sized = item-sized s items each i low in record { least = sized.0; most = sized.1 });
      right = refl;
    }
extra-sized (kind.Parity n) s items inside each =
    let count = length (map (octets_of s) items) in
    let long = length-map items (octets_of s) in
    let n-in = within-true covered_least covered_limit n (and_left (within covered_least covered_limit n) _ inside) in
    let m-in = within-true messages_least messages_limit (length items) (and_right (within covered_least covered_limit n) _ inside) in
    record {
      copies = λ sound S p. same-sound sound;
      right =
          accepted-right n (map (octets_of s) items)
          (rw (ne_eqb count 0 (λ none. omega (arith, long, m-in.0)))
          (and_both (and_both (le-leb covered_least n n-in.0) (le-leb n covered_limit n-in.1))
          (le-leb count messages_limit (omega (arith, long, m-in.1)))))
          (λ i low. (item-sized s items each i low).1);
    }

-- the number at its distance from the base
number-there : (base S : ℕ) → base < numbers → S < numbers → S ≡ number_at base (kept_before + distance base S)
number-there base S low small = omega arith

read-sound : {v : View} → Sound v → (octets : List ℕ) → Octets octets → (parts : DatagramParts) → read_datagram octets ≡ done parts
    → distance v.base parts.number < kept_ahead
    → Sound (accept (distance v.base parts.number) (carried_by octets parts) v)
unfolding carried_by
read-sound {v} s octets small parts e near =
    let inside = read-inside octets parts e in
    let long = part-sized inside.newest in
    let stands = number-there v.base parts.number s.small (number_small octets parts small e) in
    accept-sound s (distance v.base parts.number) near (carried_by octets parts) stands
    (record { least = omega (arith, long, inside.newest.low); most = omega (arith, long, inside.newest.high) })
    (extra-sized parts.kind octets parts.items inside.counted inside.each)

-- ---- the calls, from a fresh session on
pub fresh-sound : Sound fresh_view
unfolding fresh_view
fresh-sound = sound-of fresh_view ranges-cases.at-start refl refl

after-offered : (near repeats far : Bool) {v w : View} → Sound v → (near ≡ true → Sound w)
    → Sound (afterwards (cond near (cond repeats (refuse repeated) (done w)) (cond far (refuse too_far) (refuse late))) v)
after-offered true true far s sound = s
after-offered true false far s sound = sound refl
after-offered false repeats true s sound = s
after-offered false repeats false s sound = s

pub offer-sound : {v : View} → Sound v → (octets : List ℕ) → Octets octets → Sound (afterwards (offer octets v) v)
unfolding offer offered carried_by
offer-sound {v} s octets small = pick (read_datagram octets) refl where
  pick : (a : Answer DatagramParts) → read_datagram octets ≡ a → Sound (afterwards (◌>>=◌ a (λ parts. offered (carried_by octets parts) v)) v)
  pick (done parts) e =
      let d = distance v.base parts.number in
      after-offered (ltb d kept_ahead) (accepted_at v d) (ltb d late_from) s
      (λ near. read-sound s octets small parts e (ltb-true d kept_ahead near))
  pick (refused why) e = s

-- a number at the base is not blank: one count is one more
pub sum-counted : (s : State) (n : ℕ) (c : views.Counts) → size_right s n false ≡ true → sum (counted s c) ≡ sum c + 1
unfolding size_right
sum-counted unknown n c e = omega arith
sum-counted received n c e = omega arith
sum-counted spare n c e = omega arith
sum-counted repaired n c e = omega arith
sum-counted blank n c e = absurd (false≢true (and_right (eqb n 0) false e))

pub release-sound : {v : View} → Sound v → (leave : Bool) (room : ℕ) → Sound (afterwards (view_after_release (release leave room v)) v)
release-sound {v} s leave room = pick (release leave room v) refl where
  pick : (a : Answer Release) → release leave room v ≡ a → Sound (afterwards (view_after_release a) v)
  pick (done r) e =
      let left = release-leaves leave room v r e in
      let one = sum-counted (at_base v).state (length (at_base v).octets) v.counts (s.cell kept_before (omega arith)) in
      subst Sound (sym left.after) (sound-goes-on _ s one (omega (arith, one, left.some)))
  pick (refused why) e = s
