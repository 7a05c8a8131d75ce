-- Reading a packet stops at its first wrong item, or at its end: every item that is due is reached, and what is met from the first
-- value on is met from there on. So the reader refuses for a reason exactly if there is a first wrong item of it, at the octet at
-- which that begins, and does not refuse exactly if there is a packet after which nothing is left over. Assumes nothing.
use Prim.Native.Nat.{ℕ, ◌≤◌, ◌<◌}
use mathlib.Core.Path.{◌≡◌, refl, sym, ap, subst, ◌∙◌}
use mathlib.Core.Logic.{◌↔◌, ◌⊎◌, inl, inr}
use mathlib.Core.Bool.{true}
use mathlib.Core.List.{List}
use mathlib.Core.Option.{Option, none, some}
use lib.ListN.{length}
use native.Mathlib.Omega.{arith}
use borrow.Author.Tests.{lt-ltb}
use Rattle.length.specs.Refusals.{refusal_at, outside_sizes}
use Rattle.length.specs.Answers.{Answer, done, refused, refuse}
use Rattle.length.specs.declared.Refusal.{Refusal}
use Rattle.length.specs.Tables.{first, refusal_in}
use Rattle.length.specs.declared.Reason.{Reason}
use Rattle.format.specs.Places.{Place}
use Rattle.datagram.specs.Sizes.{packet_limit}
use Rattle.packet.specs.Edition.{Edition, edition_of}
use Rattle.packet.specs.Packet.{may_follow, PacketAnswer, read_packet}
use Rattle.packet.specs.declared.types.Named.{Named}
use Rattle.packet.specs.declared.types.Ending.{Ending}
use Rattle.packet.specs.declared.types.Ending.TheVariants.{Whole}
use Rattle.demands.specs.Demand1.PacketItems.{Item, first_value, end, octet_of, octets_from, rows, ends, due_after, Due, begins, goes_on}
use Rattle.demands.specs.Demand1.PacketRefusals.{FirstWrong}
use Rattle.demands.proofs.PacketRows.{same_reason, not-both, end-passed, end-passes, rows_alike}
use Rattle.demands.proofs.PacketWalk.{why_in, Met, wrong, right, whole, packet-walk}

module _ {edition : Edition} {ending : Ending} {s : List ℕ} where
  -- ---- every item that is due is reached
  -- behind an item whose table is passed
  behind : {p : Place} {item : Item} {o : Option Refusal} → first (rows edition ending item s p) ≡ none → Met edition ending s p item o
      → Met edition ending s (ends edition item s p) (due_after item s p) o
  behind passed (wrong e) = absurd (not-both passed e)
  behind passed (right e on) = on
  behind passed (whole e) = whole e

  past : {p : Place} {item : Item} {o : Option Refusal} → first (rows edition Whole item s p) ≡ none → Met edition ending s p item o
      → Met edition ending s (ends edition item s p) (due_after item s p) o
  past {p} {item} {o} passed met = by (rows_alike edition ending Whole item s p) where
    by : (item ≡ end) ⊎ (rows edition ending item s p ≡ rows edition Whole item s p)
        → Met edition ending s (ends edition item s p) (due_after item s p) o
    by (inl is-end) =
        subst (λ (i : Item). Met edition ending s (ends edition i s p) (due_after i s p) o) (sym is-end)
        (subst (λ (i : Item). Met edition ending s p i o) is-end met)
    by (inr same) = behind (ap first same ∙ passed) met

  reaches : {p : Place} {item : Item} {o : Option Refusal} → Due edition s p item → Met edition ending s 0 first_value o
      → Met edition ending s p item o
  reaches begins met = met
  reaches (goes_on due passed) met = past passed (reaches due met)

  wrong-here : {p : Place} {item : Item} {n : Reason} {o : Option Refusal} → first (rows edition ending item s p) ≡ some n
      → Met edition ending s p item o
      → o ≡ some (refusal_at (octet_of item p) n)
  wrong-here {p} {item} given (wrong e) = ap (λ (n : Reason). some (refusal_at (octet_of item p) n)) (same_reason (sym e ∙ given))
  wrong-here given (right e on) = absurd (not-both e given)
  wrong-here given (whole e) = absurd (not-both e given)

  end-here : {p : Place} {item : Item} {o : Option Refusal} → item ≡ end → first (rows edition ending end s p) ≡ none
      → Met edition ending s p item o
      → o ≡ none
  end-here {p} is-end passed (wrong {item = item} e) =
      absurd (not-both (ap (λ (i : Item). first (rows edition ending i s p)) is-end ∙ passed) e)
  end-here {p} is-end passed (right {item = item} e on) =
      end-here (ap (λ (i : Item). due_after i s p) is-end)
      (subst (λ (i : Item). first (rows edition ending end s (ends edition i s p)) ≡ none) (sym is-end) passed) on
  end-here is-end passed (whole e) = refl

-- ---- where it stops
due-on : {edition : Edition} (ending : Ending) {s : List ℕ} {p : Place} {item : Item} → Due edition s p item
    → first (rows edition ending item s p) ≡ none
    → Due edition s (ends edition item s p) (due_after item s p)
due-on {edition} ending {s} {p} {item} due passed = by (rows_alike edition Whole ending item s p) where
  by : (item ≡ end) ⊎ (rows edition Whole item s p ≡ rows edition ending item s p)
      → Due edition s (ends edition item s p) (due_after item s p)
  by (inl is-end) =
      subst (λ (i : Item). Due edition s (ends edition i s p) (due_after i s p)) (sym is-end)
      (subst (λ (i : Item). Due edition s p i) is-end due)
  by (inr same) = goes_on due (ap first same ∙ passed)

-- a packet, and after it nothing is left over
pub record Ended (edition : Edition) (ending : Ending) (s : List ℕ) : Type 0 where
  pub place : Place
  pub due : Due edition s place end
  pub follows : may_follow ending (octets_from s place) ≡ true

Outcome : Edition → Ending → List ℕ → Option Refusal → Type 0
Outcome edition ending s (some why) = FirstWrong edition ending s why.reason
Outcome edition ending s none = Ended edition ending s

stops : {edition : Edition} {ending : Ending} {s : List ℕ} {p : Place} {item : Item} {o : Option Refusal} → Due edition s p item
    → Met edition ending s p item o
    → Outcome edition ending s o
unfolding Outcome
stops {p = p} {item} due (wrong e) = record { item = item; place = p; due = due; wrong = e }
stops {ending = ending} due (right e on) = stops (due-on ending due e) on
stops {edition} {ending} {s} {p} due (whole e) = record { place = p; due = due; follows = end-passed edition ending s p e }

-- ---- what the reader refuses
pub over-refused : (edition : Edition) (ending : Ending) (s : List ℕ) → packet_limit < length s
    → read_packet edition ending s ≡ refuse outside_sizes
unfolding read_packet
over-refused edition ending s over = rw (lt-ltb packet_limit (length s) over)

pub over-limit : (edition : Edition) (ending : Ending) (s : List ℕ) → packet_limit < length s
    → refusal_in (read_packet edition ending s) ≡ some outside_sizes
over-limit edition ending s over = ap refusal_in (over-refused edition ending s over)

module _ (named : Named) (ending : Ending) (s : List ℕ) (fits : length s ≤ packet_limit) where
  met : Met (edition_of named) ending s 0 first_value (why_in (read_packet (edition_of named) ending s))
  met = packet-walk named ending s fits

  -- where the first wrong item is, it is refused
  pub wrong-refused : (n : Reason) (w : FirstWrong (edition_of named) ending s n)
      → why_in (read_packet (edition_of named) ending s) ≡ some (refusal_at (octet_of w.item w.place) n)
  wrong-refused n w = wrong-here w.wrong (reaches w.due met)

  pub refused-wrong : (n : Reason) → (refusal_in (read_packet (edition_of named) ending s) ≡ some n)
      ↔ FirstWrong (edition_of named) ending s n
  unfolding Outcome
  refused-wrong n = (
    λ e. by (read_packet (edition_of named) ending s) e (stops begins met),
    λ w. back (read_packet (edition_of named) ending s) (wrong-refused n w),
  ) where
    by : (m : Answer PacketAnswer) → refusal_in m ≡ some n → Outcome (edition_of named) ending s (why_in m)
        → FirstWrong (edition_of named) ending s n
    by (done a) e t = absurd (not-both refl e)
    by (refused why) e t = subst (FirstWrong (edition_of named) ending s) (same_reason e) t

    back : {why : Refusal} (m : Answer PacketAnswer) → why_in m ≡ some why → refusal_in m ≡ some why.reason
    back (done a) e = let z : ◌≡◌ {A = ℕ} 0 1 = cc in absurd (omega arith)
    back {why} (refused r) e = let same : r ≡ why = cc in ap (λ (x : Refusal). some x.reason) same

  pub passed-ended : (refusal_in (read_packet (edition_of named) ending s) ≡ none) ↔ Ended (edition_of named) ending s
  unfolding Outcome
  passed-ended = (
    λ e. by (read_packet (edition_of named) ending s) e (stops begins met),
    λ t.
        back (read_packet (edition_of named) ending s)
        (end-here refl (end-passes (edition_of named) ending s t.place t.follows) (reaches t.due met)),
  ) where
    by : (m : Answer PacketAnswer) → refusal_in m ≡ none → Outcome (edition_of named) ending s (why_in m)
        → Ended (edition_of named) ending s
    by (done a) e t = t
    by (refused why) e t = absurd (not-both e refl)

    back : (m : Answer PacketAnswer) → why_in m ≡ none → refusal_in m ≡ none
    back (done a) e = refl
    back (refused r) e = let z : ◌≡◌ {A = ℕ} 0 1 = cc in absurd (omega arith)
