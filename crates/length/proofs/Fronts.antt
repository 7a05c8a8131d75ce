-- Laws of `Put`, octets written to the front of a lent part: none, one more, and a writer after another, lent what is still
-- free after the last. Whoever writes item by item composes its writers by `put_next`. Assumes nothing.
use Rattle.std.proofs.Common.{Ok, Err}
use Prim.Native.Nat.{ℕ, suc, ◌+◌, ◌-◌, ◌≤◌, ◌<◌}
use mathlib.Core.Path.{◌≡◌, refl, sym}
use mathlib.Core.List.{List, [], ◌∷◌, ◌++◌, append_assoc, append-nil}
use lib.ListN.{length, get_or, take, drop, set, length-append, length-drop, drop_of_length-le}
use lib.Seq.{take_at, drop_at, set_at, drop-cons, drop-drop, append_snoc, take-suc, take_all}
use native.Mathlib.Numerals.{add-one}
use native.Mathlib.Omega.{arith}
use borrow.Author.Tests.{le-leb, lt-leb}
use borrow.Rule.Slice.PartMut.{mid_of, put_mid}
use Rattle.length.specs.Refusals.{no_room}
use Rattle.length.specs.Answers.{done}
use Rattle.length.specs.Promise.{Puts, RefusalMade, Put}
use Rattle.length.specs.declared.Refusal.{Refusal}

-- ---- none, one more
pub put-none : {old : List ℕ} → Put [] old old 0
put-none = record { inside = omega arith; answer = refl; lent = refl }

pub put_one : {octets old new : List ℕ} {at : ℕ} (x : ℕ) → Put octets old new at → at < length old
    → Put (octets ++ (x ∷ [])) old (set new at x) (at + 1)
put_one {octets} {old} {new} {at} x p room =
    let fits : length octets < length old = omega arith in
    record {
      inside = rw (length-append octets (x ∷ [])) (omega arith);
      answer = rw (length-append octets (x ∷ [])) (omega arith);
      lent =
          rw (p.lent, p.answer, drop-cons old (length octets) 0 fits, length-append octets (x ∷ []), append_snoc octets x, add-one)
          (set_at octets (get_or old (length octets) 0) (drop (suc (length octets)) old) x (length octets) refl);
    }

-- one octet of a row after another
pub put-turn : (octets : List ℕ) {old new : List ℕ} {i : ℕ} → Put (take i octets) old new i → i < length octets → i < length old
    → Put (take (i + 1) octets) old (set new i (get_or octets i 0)) (i + 1)
put-turn octets {old} {new} {i} p more room = rw (add-one, take-suc octets i 0 more) (rw add-one at (put_one (get_or octets i 0) p room))

pub put_all : {octets old new : List ℕ} {i : ℕ} → Put (take i octets) old new i → length octets ≤ i → Put octets old new i
put_all {octets} {old} {new} {i} p end = rw (take_all i octets end) at p

-- one writer after another
pub put_then : {a b old mid part : List ℕ} {at n : ℕ} → Put a old mid at → Put b (drop at mid) part n
    → Put (a ++ b) old (take at mid ++ part) (at + n)
put_then {a} {b} {old} {mid} {part} {at} {n} p q =
    let front : take at mid ≡ a = rw p.lent (take_at a _ at (sym p.answer)) in
    let rest : drop at mid ≡ drop (length a) old = rw p.lent (drop_at a _ at (sym p.answer)) in
    let free : length b ≤ length old - length a = rw (rest, length-drop (length a) old) at q.inside in
    let before = p.inside in
    record {
      inside = rw (length-append a b) (omega arith);
      answer = rw (length-append a b) (omega arith);
      lent =
          rw (front, q.lent, rest, drop-drop (length b) (length a) old, length-append a b)
          (sym (append_assoc a b (drop (length a + length b) old)));
    }

-- the same in the words of the code, which lends `&mut out[at..]`
pub rest_of : (mid : List ℕ) (at : ℕ) → mid_of at (length mid - at) mid ≡ drop at mid
rest_of mid at = take_all (length mid - at) (drop at mid) (rw (length-drop at mid) (omega arith))

pub rest_put : (mid part : List ℕ) (at : ℕ) → put_mid at (length mid - at) mid part ≡ take at mid ++ part
rest_put mid part at =
    let end : length (drop at mid) ≤ length mid - at = rw (length-drop at mid) (omega arith) in
    rw (drop_of_length-le (drop at mid) end, append-nil part)

pub put_next : {a b old mid part : List ℕ} {at n : ℕ} → Put a old mid at → Put b (mid_of at (length mid - at) mid) part n
    → Put (a ++ b) old (put_mid at (length mid - at) mid part) (at + n)
put_next {a} {b} {old} {mid} {part} {at} {n} p q = rw (rest_put mid part at) (put_then p (rw (rest_of mid at) at q))

-- what is still free after the last
pub room-left : (mid : List ℕ) (at k : ℕ) → at + k ≤ length mid → k ≤ length (mid_of at (length mid - at) mid)
room-left mid at k room = rw (rest_of mid at, length-drop at mid) (omega arith)

-- a writer keeps the length of what it is lent
pub put-long : {octets old new : List ℕ} {n : ℕ} → Put octets old new n → length new ≡ length old
put-long {octets} {old} p =
    rw (p.lent, length-append octets (drop (length octets) old), length-drop (length octets) old) (let room = p.inside in omega arith)

-- ---- a call's whole promise: what is put where it has room, and 13 where it has none
pub put-puts : {octets old new : List ℕ} {n : ℕ} → Put octets old new n → Puts (done octets) old new (Ok n)
put-puts {octets} {old} p =
    let fits = le-leb (length octets) (length old) p.inside in
    record { answer = rw (fits, p.answer); lent = rw fits p.lent }

pub full-puts : {octets old : List ℕ} {r : Refusal} → RefusalMade no_room r → length old < length octets
    → Puts (done octets) old old (Err r)
full-puts {octets} {old} made full =
    let short = lt-leb (length octets) (length old) full in
    record { answer = rw (short, made.answer); lent = rw short }
