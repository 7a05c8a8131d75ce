-- Two outcomes of a call of the receiving session inside this repository are one: the promises tell its view and that it is within
-- its ranges, and within them the view tells all that is lent. Assumes nothing.
use Rattle.std.proofs.Common.{Result}
use Rattle.length.specs.declared.Refusal.{Refusal}
use Prim.Native.Nat.{ℕ}
use mathlib.Core.Path.{◌≡◌, refl, sym, ap, ap₂, ◌∙◌}
use mathlib.Core.Bool.{Bool}
use mathlib.Core.List.{List, map}
use lib.ListN.{take}
use Rattle.datagram.specs.Read.{octets_of}
use Rattle.datagram.specs.declared.reader.Part.{Part}
use Rattle.session.specs.Cells.{Cell}
use Rattle.session.specs.Held.{Held}
use Rattle.session.specs.Offer as offers
use Rattle.session_held.specs.Table.{Lent, lent, counts_of, state_numbered, cells_of, view_in}
use Rattle.session_held.specs.Laid.{InRanges}
use Rattle.session_held.specs.declared.Counts.{Counts}
use Rattle.session_held.proofs.Laws.{lent_same}
use Rattle.session_offer.specs.KeepPromise.{CellsNow, HeldNow, MayKeep, Keeps, KeepsSpares, MayHold, Holds}
use Rattle.session_repair.specs.Promise.{MayMend, Mends}
use Rattle.session_release.specs.Promise.{Leaves, Releases}
use Rattle.session_release.specs.declared.Released.{Released}
use Rattle.session_release.proofs.Laws.{released-told}
use Rattle.session_offer.specs.Promise.{Offers}
use Rattle.session_offer.proofs.Laws.{offered-told}
use Rattle.demands.specs.OneOutcome.OneTold.{OneLent}
use Rattle.demands.specs.OneOutcome.OneInside.{InHeld, InReceiving}
use Rattle.demands.proofs.OneTold.{told-one}

-- ---- the receiving session
pub in_held : InHeld
in_held =
    record {
      state_at = λ t slot. told-one;
      size_at = λ t slot. told-one;
      note_at = λ t slot. told-one;
      is_known = λ t slot. told-one;
      mark_at = λ t slot. told-one;
      accepted_at = λ t slot. told-one;
      n_at = λ t slot. told-one;
      m_at = λ t slot. told-one;
      message_size_at = λ t slot. told-one;
      set_kept = λ t slot state size note. told-one;
      set_heard = λ t slot n m. told-one;
      set_message_size = λ t slot size. told-one;
      drop_heard = λ t slot. told-one;
    }

-- what is lent with one base and one counts is told by its cells and what it holds
parts_same : (l k : Lent) → InRanges l → InRanges k → l.base ≡ k.base → l.counts ≡ k.counts
    → (view_in l).cells ≡ (view_in k).cells → (view_in l).held ≡ (view_in k).held → l ≡ k
unfolding view_in
parts_same l k w v base counts cells held =
    lent_same w v
    (ap₂ (λ (x : ℕ) (y : Counts). record { base = x; counts = counts_of y; cells = (view_in l).cells; held = (view_in l).held }) base counts
    ∙ ap₂ (λ (x : List Cell) (y : List Held). record { base = k.base; counts = counts_of k.counts; cells = x; held = y }) cells held)

-- a number kept leaves what is held, and messages held leave the kept numbers
cells-one : {before after other : Lent} {wanted : List Cell} → after.base ≡ other.base → after.counts ≡ other.counts
    → CellsNow before after wanted → CellsNow before other wanted → after ≡ other
unfolding view_in
cells-one {after = after} {other} base counts a b =
    parts_same after other a.within b.within base counts (a.cells ∙ sym b.cells) (a.held ∙ sym b.held)

held_one : {before after other : Lent} {wanted : List Held} → after.base ≡ other.base → after.counts ≡ other.counts
    → HeldNow before after wanted → HeldNow before other wanted → after ≡ other
unfolding view_in
held_one {after = after} {other} base counts a b =
    parts_same after other a.within b.within base counts (a.cells ∙ sym b.cells) (a.held ∙ sym b.held)

table-octets : {l k : Lent} → l ≡ k → (l.table ≡ k.table) × (l.octets ≡ k.octets)
table-octets e = (ap (λ (x : Lent). x.table) e, ap (λ (x : Lent). x.octets) e)

table-messages : {l k : Lent} → l ≡ k → (l.table ≡ k.table) × (l.messages ≡ k.messages)
table-messages e = (ap (λ (x : Lent). x.table) e, ap (λ (x : Lent). x.messages) e)

module _ (note state number : ℕ) (b t o : List ℕ) (may : MayKeep number 0 t o) where
  keep-told : {new_t new_o : List ℕ} → Keeps note state number b t o new_t new_o
      → CellsNow (lent may.base may.counts t o may.messages) (lent may.base may.counts new_t new_o may.messages)
      (offers.keep note (state_numbered state) may.place b (cells_of may.base t o))
  keep-told k = k.kept may.base may.counts may.messages may.place may.within may.there may.stands

  keep_one : OneLent (λ (new_o new_t : List ℕ). Keeps note state number b t o new_t new_o)
  keep_one new_o other_o new_t other_t x y = table-octets (cells-one refl refl (keep-told x) (keep-told y))

module _ (number : ℕ) (s : List ℕ) (items : List Part) (count : ℕ) (t o : List ℕ) (may : MayKeep number count t o) where
  spares-told : {new_t new_o : List ℕ} → KeepsSpares number s items count t o new_t new_o
      → CellsNow (lent may.base may.counts t o may.messages) (lent may.base may.counts new_t new_o may.messages)
      (offers.keep_spares number may.place (map (octets_of s) (take count items)) (cells_of may.base t o))
  spares-told k = k.kept may.base may.counts may.messages may.place may.within may.there may.low may.stands

  spares-one : OneLent (λ (new_o new_t : List ℕ). KeepsSpares number s items count t o new_t new_o)
  spares-one new_o other_o new_t other_t x y = table-octets (cells-one refl refl (spares-told x) (spares-told y))

hold-one : (base d : ℕ) (s : List ℕ) (n : ℕ) (items : List Part) (count : ℕ) (t g : List ℕ) → MayHold base t g d
    → OneLent (λ (new_g new_t : List ℕ). Holds base d s n items count t g new_t new_g)
hold-one base d s n items count t g may new_g other_g new_t other_t x y =
    table-messages
    (held_one refl refl (x.holds may.counts may.octets may.unmarked) (y.holds may.counts may.octets may.unmarked))

mend-one : (note base : ℕ) (t o g : List ℕ) → MayMend base t o g → OneLent (λ (new_o new_t : List ℕ). Mends note base t o g new_t new_o)
mend-one note base t o g may new_o other_o new_t other_t x y =
    let a = x.mends may.counts may.within in
    let b = y.mends may.counts may.within in
    table-octets (lent_same a.within b.within (a.state ∙ sym b.state))

leave-one : {leave : Bool} {room : ℕ} {before after other : Lent} {r q : Result Released Refusal} → Leaves leave room before after r
    → Leaves leave room before other q
    → (r ≡ q) × (after ≡ other)
leave-one {r = r} {q} a b = (
  released-told r q (a.told ∙ sym b.told),
  lent_same a.within b.within (a.state ∙ sym b.state),
)

release-one : {leave : Bool} {before after other : Lent} {old new newer : List ℕ} {r q : Result Released Refusal}
    → Releases leave before after old new r → Releases leave before other old newer q
    → (r ≡ q) × (after ≡ other) × (new ≡ newer)
release-one {r = r} {q} a b = (
  released-told r q (a.told ∙ sym b.told),
  lent_same a.within b.within (a.state ∙ sym b.state),
  a.written ∙ sym b.written,
)

offer-one : {octets : List ℕ} {before after other : Lent} {r q : Result (Unit {0}) Refusal} → Offers octets before after r
    → Offers octets before other q
    → (r ≡ q) × (after ≡ other)
offer-one {r = r} {q} a b = (
  offered-told r q (a.told ∙ sym b.told),
  lent_same a.within b.within (a.state ∙ sym b.state),
)

pub in-receiving : InReceiving
in-receiving =
    record {
      in_ranges = λ base counts t o g. told-one;
      keep = keep_one;
      keep_spares = spares-one;
      hold = hold-one;
      mend = mend-one;
      leave_core = λ a b. leave-one a b;
      release_core = λ a b. release-one a b;
      offer_core = λ a b. offer-one a b;
    }
