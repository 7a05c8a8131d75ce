-- No session that the library returned is refused with 17: a session in a chain of calls is within its ranges, offer and release on what
-- it holds have lower refusals only, and solving has 23. Assumes nothing.
use Prim.Native.Nat.{ℕ, zero, suc, ◌+◌, ◌-◌, ◌%◌, ◌<◌}
use mathlib.Core.Path.{◌≡◌, refl, sym, ap, subst, ◌∙◌}
use mathlib.Core.Bool.{Bool, true, false, not, cond, ◌&&◌}
use mathlib.Core.List.{List}
use mathlib.Core.Option.{some, none-ne-some, some-injective}
use lib.ListN.{length, get_or, drop}
use lib.Dec.{leb, ltb, eqb}
use native.Mathlib.Omega.{arith}
use borrow.Author.Tests.{ltb-true}
use Rattle.length.specs.Refusals.{ends_early, too_long, bad_form, outside_sizes, spare_bit, left_over, number_of}
use Rattle.length.specs.Refusals.{repeated, too_far, late, base_unknown, no_room, all_passed, outside_ranges, no_solution}
use Rattle.length.specs.Answers.{Answer, done, refused, refuse, refuse_at, read_from, ◌>>=◌, LengthAnswer}
use Rattle.length.specs.Length.{of_two, length_at, within, allowed, length_within}
use Rattle.length.specs.declared.Refusal.{Refusal}
use Rattle.datagram.specs.Read.{ExtraHead, length_from, octet_at, item_at, items_at, spares_at, parity_at, extra_at, whole_of}
use Rattle.datagram.specs.Read.{read_datagram}
use Rattle.datagram.specs.Sizes.{datagram_limit}
use Rattle.datagram.specs.Read.{carried_by, after, end_of, least_of, most_of}
use Rattle.datagram.specs.Read as reading
use Rattle.datagram.specs.Carried.{Carried}
use Rattle.datagram.specs.declared.reader.Part.{Part}
use Rattle.session.specs.Cells.{unknown_at, kept_before, kept_ahead}
use Rattle.session.specs.View.{View, sum, distance, session_limit}
use Rattle.session.specs.Offer as offers
use Rattle.session.specs.Offer.{accepted_at, late_from}
use Rattle.session.specs.Release as releases
use Rattle.session.specs.Release.{Release, at_base}
use Rattle.session_held.specs.declared.Session.{Session}
use Rattle.session_release.specs.Outcome.{handed_of}
use Rattle.session_offer.specs.Outcome.{accepted_of}
use Rattle.length.specs.Tables.{refusal_in}
use Rattle.length.specs.declared.Reason.{Reason}
use Rattle.solve.specs.Solve as solutions
use Rattle.solve_code.specs.Outcome.{filled_of}
use Rattle.demands.specs.Common.Calls.{Call, offer, release, solve, Calls, ◌then◌, Called, call_refusal}
use Rattle.demands.specs.Demand2.GoesOn.{Says, GoesOn, by}
use Rattle.demands.specs.Demand2.Demand2.{Begins}
use Rattle.demands.proofs.Calling.{begins-seen, called_on}

-- ---- lower refusals only
data Lower {A : Type 0} : Answer A → Type 0 where
  value : (a : A) → Lower (done a)
  below : {why : Refusal} → number_of why.reason < number_of outside_ranges → Lower (refused why)

low : {A : Type 0} {place : ℕ} (n : Reason) → ltb (number_of n) (number_of outside_ranges) ≡ true → Lower {A = A} (refuse_at place n)
low n e = below (ltb-true (number_of n) (number_of outside_ranges) e)

lower_cond : {A : Type 0} (b : Bool) {x y : Answer A} → Lower x → Lower y → Lower (cond b x y)
lower_cond true first second = first
lower_cond false first second = second

lower-bind : {A B : Type 0} {a : Answer A} {f : A → Answer B} → Lower a → ((v : A) → Lower (f v)) → Lower (◌>>=◌ a f)
lower-bind (value a) each = each a
lower-bind (below low) each = below low

lower-from : {A : Type 0} (start : ℕ) {a : Answer A} → Lower a → Lower (read_from start a)
lower-from start (value a) = value a
lower-from start (below low) = below low

not-17 : {A : Type 0} {a : Answer A} → Lower a → refusal_in a ≡ some outside_ranges → ⊥
not-17 (value a) e = none-ne-some outside_ranges e
not-17 (below {why = why} low) e = let same = ap number_of (some-injective why.reason outside_ranges e) in omega arith

-- ---- reading a datagram
lower-length : (s : List ℕ) → Lower (length_at s)
unfolding length_at
lower-length s =
    lower_cond (ltb (length s) 1) (low ends_early refl)
    (lower_cond (ltb (get_or s 0 0) 0x80) (value _)
    (lower_cond (leb 0xC0 (get_or s 0 0)) (low bad_form refl)
    (lower_cond (ltb (length s) 2) (low ends_early refl)
    (lower_cond (ltb (of_two (get_or s 0 0) (get_or s 1 0)) 0x80) (low bad_form refl) (value _)))))

lower-allowed : (least most : ℕ) (l : LengthAnswer) → Lower (allowed least most l)
unfolding allowed
lower-allowed least most l = lower_cond (within least most l.value) (value _) (low outside_sizes refl)

lower-octet : (least most : ℕ) (s : List ℕ) (at : ℕ) → Lower (octet_at least most s at)
unfolding octet_at
lower-octet least most s at = lower-from at (lower_cond (leb (length s) at) (low ends_early refl) (lower-allowed least most _))

lower-sized : (least most : ℕ) (s : List ℕ) (at : ℕ) → Lower (length_from least most s at)
unfolding length_within
lower-sized least most s at = lower-from at (lower-bind (lower-length (drop at s)) (lower-allowed least most))

lower-item : (least most : ℕ) (s : List ℕ) (at : ℕ) → Lower (item_at least most s at)
unfolding item_at
lower-item least most s at =
    lower-bind (lower-sized least most s at)
    (λ l. lower_cond (ltb (length s - (at + l.size)) l.value) (low ends_early refl) (value _))

lower-items : (least most : ℕ) (s : List ℕ) (at left : ℕ) → Lower (items_at least most s at left)
unfolding items_at
lower-items least most s at zero = value _
lower-items least most s at (suc left) =
    lower-bind (lower-item least most s at) (λ p. lower-bind (lower-items least most s (after p) left) (λ ps. value _))

lower-spares : (s : List ℕ) (at : ℕ) → Lower (spares_at s at)
unfolding spares_at
lower-spares s at = lower-bind (lower-sized _ _ s at) (λ k. value _)

lower-parity : (s : List ℕ) (at : ℕ) → Lower (parity_at s at)
unfolding parity_at
lower-parity s at =
    lower-bind (lower-octet _ _ s at)
    (λ one. lower-bind (lower-octet _ _ s (at + 1)) (λ n. lower-bind (lower-sized _ _ s (at + 2)) (λ m. value _)))

lower-extra : (s : List ℕ) (at : ℕ) → Lower (extra_at s at)
unfolding extra_at
lower-extra s at =
    lower_cond (leb (length s) at) (low ends_early refl)
    (lower_cond (eqb (get_or s at 0 % 0x80) 0)
    (lower_cond (ltb (get_or s at 0) 0x80) (lower-spares s (at + 1)) (lower-parity s (at + 1)))
    (low spare_bit refl))

lower-number : (s : List ℕ) → Lower (reading.number_of s)
unfolding reading.number_of
lower-number s = lower_cond (ltb (length s) 2) (low ends_early refl) (value _)

lower-whole : (s : List ℕ) (number : ℕ) (packet : Part) (extra : ExtraHead) → Lower (whole_of s number packet extra)
unfolding whole_of
lower-whole s number packet extra =
    lower-bind (lower-items (least_of extra.kind) (most_of extra.kind) s extra.first extra.count)
    (λ items. lower_cond (ltb (end_of extra.first items) (length s)) (low left_over refl) (value _))

lower-read : (s : List ℕ) → Lower (read_datagram s)
unfolding read_datagram
lower-read s =
    lower_cond (ltb datagram_limit (length s)) (low too_long refl)
    (lower-bind (lower-number s)
    (λ number.
    lower-bind (lower-item _ _ s 2) (λ packet. lower-bind (lower-extra s (after packet)) (λ extra. lower-whole s number packet extra))))

-- ---- the calls
lower-offered : (datagram : Carried) (view : View) → Lower (offers.offered datagram view)
unfolding offers.offered
lower-offered datagram view =
    lower_cond (ltb (distance view.base datagram.number) kept_ahead)
    (lower_cond (accepted_at view (distance view.base datagram.number)) (low repeated refl) (value _))
    (lower_cond (ltb (distance view.base datagram.number) late_from) (low too_far refl) (low late refl))

lower-offer : (octets : List ℕ) (view : View) → Lower (offers.offer octets view)
unfolding offers.offer
lower-offer octets view = lower-bind (lower-read octets) (λ parts. lower-offered (carried_by octets parts) view)

lower-release : (leave : Bool) (room : ℕ) (view : View) → Lower (releases.release leave room view)
unfolding releases.release
lower-release leave room view =
    lower_cond (leb session_limit (sum view.counts)) (low all_passed refl)
    (lower_cond (unknown_at view.cells kept_before && not leave) (low base_unknown refl)
    (lower_cond (ltb room (length (at_base view).octets)) (low no_room refl) (value _)))

-- the same of what they answer
lower-accepted : {a : Answer View} → Lower a → Lower (accepted_of a)
lower-accepted (value a) = value _
lower-accepted (below low) = below low

lower-handed : {a : Answer Release} → Lower a → Lower (handed_of a)
lower-handed (value a) = value _
lower-handed (below low) = below low

-- solving is refused with 23 alone
refused-23 : (b : Bool) (v : View) → refusal_in (filled_of (cond b (done v) (refuse no_solution))) ≡ some outside_ranges → ⊥
refused-23 true v e = none-ne-some outside_ranges e
refused-23 false v e = let same = ap number_of (some-injective no_solution outside_ranges e) in omega arith

solve-not-17 : (view : View) → refusal_in (filled_of (solutions.solve view)) ≡ some outside_ranges → ⊥
unfolding solutions.solve
solve-not-17 view = refused-23 (solutions.all_fit view.cells view.held (solutions.reduced_rows view)) _

says-lower : (view : View) (call : Call) → Says view call → call_refusal call ≡ some outside_ranges → ⊥
says-lower view (offer octets r) says = not-17 (subst Lower (sym says) (lower-accepted (lower-offer octets view)))
says-lower view (release leave old new r) says = not-17 (subst Lower (sym says.0) (lower-handed (lower-release leave (length old) view)))
says-lower view (solve r) says = λ e. solve-not-17 view (ap refusal_in (sym says.0) ∙ e)

-- ---- chains
last_says : {view : View} {calls : Calls} {call : Call} {held : View} → GoesOn view (calls then call) held
    → call_refusal call ≡ some outside_ranges
    → ⊥
last_says (by {call = call} {held = held} on says) = says-lower held call says

pub never-17 : {s t : Session} {calls : Calls} {call : Call} → Begins s → Called s (calls then call) t
    → call_refusal call ≡ some outside_ranges
    → ⊥
never-17 {s} begins called = last_says (called_on (begins-seen s begins) called)
