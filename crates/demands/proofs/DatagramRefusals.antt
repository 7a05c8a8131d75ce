-- What the datagram reader refuses, and for which reason: the reader walks over the items, the walk ends at the first that is
-- wrong, and it has one outcome. A wrong item stays wrong for the same reason whatever follows it, except for 1, where octets are
-- missing and can still come. Assumes nothing.
use Rattle.std.proofs.Common.{Result}
use Prim.Native.Nat.{ℕ, ◌+◌, ◌≤◌, ◌<◌}
use mathlib.Core.Path.{◌≡◌, refl, sym, ap, subst, ◌∙◌}
use mathlib.Core.Bool.{Bool, true, false}
use mathlib.Core.Logic.{◌⊎◌, inl, inr, ⊎_elim}
use mathlib.Core.List.{List, [], ◌∷◌, ◌++◌, append-nil}
use mathlib.Core.Option.{Option, none, some}
use lib.ListN.{length, length-append, get_or-append, get_or-eq_default}
use lib.Seq.{get_or-append-add}
use native.Mathlib.Omega.{arith}
use borrow.Author.Tests.{lt-ltb}
use Rattle.octets.proofs.Laws.{below_or_not}
use Rattle.length.specs.Refusals.{refusal, refusal_at, ends_early, too_long, left_over, number_of}
use Rattle.length.specs.Answers.{Answer, done, refused}
use Rattle.length.specs.declared.Refusal.{Refusal}
use Rattle.length.proofs.Laws.{refused-same, refused-some, done_none}
use Rattle.length.specs.Claims.{Octets}
use Rattle.datagram.specs.Sizes.{packet_least, packet_limit, datagram_limit}
use Rattle.datagram.specs.Read.{read_datagram}
use Rattle.datagram.specs.Promise.{DatagramReads, read_outcome}
use Rattle.datagram.specs.declared.reader.DatagramRead.{DatagramRead}
use Rattle.length.specs.Tables.{refusal_in}
use Rattle.length.specs.declared.Reason.{Reason}
use Rattle.length.specs.declared.Reason.TheVariants as reason
use Rattle.demands.specs.Demand1.DatagramItems.{packet, kind, form_of, brings, right_octets, begins, passes, WholeDatagram}
use Rattle.demands.specs.Demand1.DatagramRefusals.{FirstWrong, Followed, Front, CutOver, RefusalOf, PlacedIn, DatagramRefusals}
use Rattle.demands.proofs.DatagramWalk.{why_in, Walk, ends, stops, one-walk, start, walk_from, StopsAt, walk_ends, Ended}
use Rattle.demands.proofs.DatagramSteps.{read_walk}
use Rattle.demands.proofs.DatagramFronts.{all_come, cut_short, whole-short}
use Rattle.demands.proofs.DatagramNumbers.{never-over, ends-early, followed-wrong, wrong-followed, wrong-longer}
use Rattle.demands.proofs.DatagramCut.{completed, cut-wrong, front-wrong}

-- ---- a datagram is not wrong
whole_walks : {s : List ℕ} → WholeDatagram s → Walk 0 start s none
whole_walks {s} whole = subst (λ (l : List ℕ). Walk 0 start l none) (append-nil s) (walk_from whole ends)

-- the refusal of octets of which this is the first wrong item
abbrev why_wrong : {s : List ℕ} {n : Reason} → FirstWrong s n → Refusal
why_wrong {n = n} w = refusal_at (length w.before) n

wrong-walks : {s : List ℕ} {n : Reason} (w : FirstWrong s n) → Walk 0 start s (some (why_wrong w))
wrong-walks {s} {n} w = subst (λ (l : List ℕ). Walk 0 start l (some (why_wrong w))) (sym w.is) (walk_from w.due (stops w.wrong))

not_none : {A : Type 0} {a : A} {o : Option A} → o ≡ none → o ≡ some a → ⊥
not_none p q = let z : ◌≡◌ {A = ℕ} 0 1 = cc in omega arith

some_same : {A : Type 0} {n k : A} {o : Option A} → o ≡ some n → o ≡ some k → n ≡ k
some_same p q = cc

-- the reason of a refusal
abbrev reason_in : Option Refusal → Option Reason
reason_in none = none
reason_in (some why) = some why.reason

reason-in : {A : Type 0} (m : Answer A) → refusal_in m ≡ reason_in (why_in m)
reason-in (done a) = refl
reason-in (refused why) = refl

whole-right : {s : List ℕ} {n : Reason} → WholeDatagram s → FirstWrong s n → ⊥
whole-right whole w = not_none refl (one-walk (whole_walks whole) (wrong-walks w))

-- whether the rules give a reason's number
is_assigned : Reason → Bool
is_assigned (reason.Unassigned n) = false
is_assigned why = true

-- a reason is 1 or another
early_or_not : (n : Reason) → (n ≡ ends_early) ⊎ (n ≡ ends_early → ⊥)
early_or_not reason.EndsEarly = inl refl
early_or_not reason.TooLong = inr (λ e. let same = ap number_of e in omega arith)
early_or_not reason.BadForm = inr (λ e. let same = ap number_of e in omega arith)
early_or_not reason.OutsideSizes = inr (λ e. let same = ap number_of e in omega arith)
early_or_not reason.SpareBit = inr (λ e. let same = ap number_of e in omega arith)
early_or_not reason.LeftOver = inr (λ e. let same = ap number_of e in omega arith)
early_or_not reason.Repeated = inr (λ e. let same = ap number_of e in omega arith)
early_or_not reason.TooFar = inr (λ e. let same = ap number_of e in omega arith)
early_or_not reason.Late = inr (λ e. let same = ap number_of e in omega arith)
early_or_not reason.BaseUnknown = inr (λ e. let same = ap number_of e in omega arith)
early_or_not reason.NotAssigned = inr (λ e. let same = ap number_of e in omega arith)
early_or_not reason.NoRoom = inr (λ e. let same = ap number_of e in omega arith)
early_or_not reason.WrongData = inr (λ e. let same = ap number_of e in omega arith)
early_or_not reason.WrongSettings = inr (λ e. let same = ap number_of e in omega arith)
early_or_not reason.AllPassed = inr (λ e. let same = ap number_of e in omega arith)
early_or_not reason.OutsideRanges = inr (λ e. let same = ap number_of e in omega arith)
early_or_not reason.FrameTooLong = inr (λ e. let same = ap number_of e in omega arith)
early_or_not reason.BadImage = inr (λ e. let same = ap number_of e in omega arith)
early_or_not reason.OtherEdition = inr (λ e. let same = ap number_of e in omega arith)
early_or_not reason.TooManyLines = inr (λ e. let same = ap number_of e in omega arith)
early_or_not reason.NoSolution = inr (λ e. let same = ap number_of e in omega arith)
early_or_not (reason.Unassigned n) = inr (λ e. let same = ap is_assigned e in cc)

-- ---- the reader
module _ (s : List ℕ) (octets : Octets s) where
  abbrev answer : Option Reason
  answer = refusal_in (read_datagram s)

  is-over : datagram_limit < length s → answer ≡ some too_long
  unfolding read_datagram
  is-over long = rw (lt-ltb datagram_limit (length s) long)

  -- a reason other than 2 is that of octets within the limit
  within-limit : {o : Option Reason} → answer ≡ o → (o ≡ some too_long → ⊥) → length s ≤ datagram_limit
  within-limit e other = ⊎_elim (λ long. absurd (other (sym e ∙ is-over long))) (λ short. short) (below_or_not datagram_limit (length s))

  is_whole : WholeDatagram s → answer ≡ none
  is_whole whole = reason-in (read_datagram s) ∙ ap reason_in (one-walk (read_walk s octets (whole-short whole)) (whole_walks whole))

  why-wrong : {n : Reason} → length s ≤ datagram_limit → (w : FirstWrong s n) → why_in (read_datagram s) ≡ some (why_wrong w)
  why-wrong short w = one-walk (read_walk s octets short) (wrong-walks w)

  is-wrong : {n : Reason} → length s ≤ datagram_limit → FirstWrong s n → answer ≡ some n
  is-wrong short w = reason-in (read_datagram s) ∙ ap reason_in (why-wrong short w)

  whole_is : answer ≡ none → WholeDatagram s
  whole_is e =
      subst (Ended s) (ap why_in (done_none (read_datagram s) e).1)
      (walk_ends refl begins (read_walk s octets (within-limit e (λ q. not_none refl q))))

  wrong-is : (n : Reason) → length s ≤ datagram_limit → answer ≡ some n → FirstWrong s n
  wrong-is n short e =
      let got = refused-some (read_datagram s) n e in
      let ended : StopsAt s got.0 = subst (Ended s) (ap why_in got.1) (walk_ends refl begins (read_walk s octets short)) in
      subst (FirstWrong s) (some_same (ap refusal_in got.1) e) ended.wrong

  over-is : answer ≡ some too_long → datagram_limit < length s
  over-is e =
      ⊎_elim (λ long. long) (λ short. absurd (never-over (wrong-is too_long short e).wrong refl)) (below_or_not datagram_limit (length s))

  -- 1
  front-is : (more : List ℕ) → answer ≡ some ends_early → Octets more → WholeDatagram (s ++ more) → Front s
  front-is [] e octets-more whole = absurd (not_none (is_whole (subst WholeDatagram (append-nil s) whole)) e)
  front-is (first ∷ rest) e octets-more whole = record { first = first; rest = rest; octets = octets-more; whole = whole }

  cut-is : answer ≡ some ends_early → Front s ⊎ CutOver s
  cut-is e =
      let w = wrong-is ends_early (within-limit e (λ q. omega (arith, ap number_of (some_same {o = some ends_early} refl q)))) e in
      ⊎_elim (λ m. inl (front-is m.more e m.octets (subst (λ (l : List ℕ). WholeDatagram (l ++ m.more)) (sym w.is) m.due)))
      (λ c. inr (subst CutOver (sym w.is) c))
      (completed w.before w.rest w.items w.due (ends-early w.wrong refl))

  is_front : Front s → answer ≡ some ends_early
  is_front f = pick answer refl where
    short : length s ≤ datagram_limit
    short = omega (arith, whole-short f.whole, length-append s (f.first ∷ f.rest))

    pick : (o : Option Reason) → answer ≡ o → answer ≡ some ends_early
    pick none e =
        let followed : Followed (s ++ (f.first ∷ f.rest)) =
        record { datagram = s; first = f.first; rest = f.rest; is = refl; whole = whole_is e } in
        absurd (whole-right f.whole (followed-wrong followed))
    pick (some n) e =
        ⊎_elim (λ is. e ∙ ap (λ (k : Reason). some k) is)
        (λ other. absurd (whole-right f.whole (wrong-longer s (f.first ∷ f.rest) n (wrong-is n short e) other)))
        (early_or_not n)

  pub told : RefusalOf s answer
  told =
      record {
        over = (over-is, is-over);
        whole = (whole_is, is_whole);
        first_wrong = λ n short. (wrong-is n short, is-wrong short);
        followed = λ short. (λ e. wrong-followed (wrong-is left_over short e), λ f. is-wrong short (followed-wrong f));
        cut = (cut-is, λ c. ⊎_elim is_front (λ cut. is-wrong (cut_short cut) (cut-wrong cut)) c);
      }

  -- where
  module _ {why : Refusal} (e : read_datagram s ≡ refused why) where
    over-place : datagram_limit < length s → why.place ≡ 0
    unfolding read_datagram
    over-place long =
        let same : refusal too_long ≡ why = refused-same (rw (lt-ltb datagram_limit (length s) long) at e) in
        ap (λ (r : Refusal). r.place) (sym same)

    item-place : length s ≤ datagram_limit → (w : FirstWrong s why.reason) → why.place ≡ length w.before
    item-place short w = ap (λ (r : Refusal). r.place) (some_same (ap why_in e) (why-wrong short w))

    place-few : why.place ≤ datagram_limit
    place-few =
        ⊎_elim (λ long. omega (arith, over-place long))
        (λ short.
        let w = wrong-is why.reason short (ap refusal_in e) in
        omega (arith, item-place short w, ap length w.is, length-append w.before w.rest))
        (below_or_not datagram_limit (length s))

    pub placed : PlacedIn s why
    placed = record { over = over-place; item = item-place; few = place-few }

octets-front : (s more : List ℕ) → Octets (s ++ more) → Octets s
octets-front s more octets i =
    ⊎_elim (λ low. rw (get_or-append s more 0 i low) at (octets i)) (λ past. rw (get_or-eq_default s 0 {n = i} past) (omega arith))
    (below_or_not i (length s))

octets-rest : (s more : List ℕ) → Octets (s ++ more) → Octets more
octets-rest s more octets i = rw (get_or-append-add s more i 0) at (octets (length s + i))

-- ---- the call
reads-told : {s : List ℕ} {r : Result DatagramRead Refusal} → Octets s → DatagramReads s r → RefusalOf s (refusal_in (read_outcome r))
reads-told {s} octets p = subst (RefusalOf s) (sym (ap refusal_in p.answer)) (told s octets)

module _ (s more : List ℕ) {r : Result DatagramRead Refusal} {n : Reason} (octets : Octets (s ++ more)) (p : DatagramReads s r)
    (e : refusal_in (read_outcome r) ≡ some n) (other : n ≡ ends_early → ⊥) where
  longer : length (s ++ more) ≤ datagram_limit → FirstWrong (s ++ more) n
  longer short =
      let here : length s ≤ datagram_limit = omega (arith, length-append s more) in
      wrong-longer s more n (((reads-told (octets-front s more octets) p).first_wrong n here).0 e) other

  stays : {q : Result DatagramRead Refusal} → length (s ++ more) ≤ datagram_limit → DatagramReads (s ++ more) q
      → refusal_in (read_outcome q) ≡ some n
  stays short long = ((reads-told octets long).first_wrong n short).1 (longer short)

  never : {q : Result DatagramRead Refusal} → DatagramReads (s ++ more) q → refusal_in (read_outcome q) ≡ none → ⊥
  never long reads =
      let whole = (reads-told octets long).whole.0 reads in
      whole-right whole (longer (whole-short whole))

cut-bf : CutOver (0x00 ∷ 0x00 ∷ 0xBF ∷ [])
unfolding form_of brings
cut-bf =
    record {
      before = 0x00 ∷ 0x00 ∷ [];
      first = 0xBF;
      item = packet;
      later = kind ∷ [];
      least = packet_least;
      most = packet_limit;
      is = refl;
      due = passes begins (right_octets refl);
      form = refl;
      of_two_octets = (omega arith, omega arith);
      over = λ second large. omega arith;
    }

pub datagram-refusals : DatagramRefusals
datagram-refusals =
    record {
      refusal = reads-told;
      placed = λ {octets = s} octets p e. placed s octets (sym p.answer ∙ e);
      begun = λ w.
          let c = all_come w.items w.before w.due in
          record { more = c.more; octets = c.octets; whole = c.due };
      front = λ s more first octets q reads p.
          (reads-told (octets-front s (first ∷ more) octets) p).cut.1
          (inl (record {
            first = first;
            rest = more;
            octets = octets-rest s (first ∷ more) octets;
            whole = (reads-told octets q).whole.0 reads;
          }));
      stays = λ s more octets p e other short q. stays s more octets p e other short q;
      never = λ s more octets p e other q reads. never s more octets p e other q reads;
      not_both = λ f c. whole-right f.whole (front-wrong f c).1;
      cut_bf = cut-bf;
    }
