-- The reader of a packet's count of fields is its table. Assumes nothing.
use Prim.Native.Nat.{ℕ, ◌+◌, ◌*◌, ◌/◌, ◌<◌}
use mathlib.Core.Path.{◌≡◌, refl, ap, ◌∙◌}
use mathlib.Core.Bool.{Bool, true, false, not, cond, ◌&&◌}
use mathlib.Core.List.{List, [], ◌∷◌, ◌++◌}
use mathlib.Core.Option.{Option, none, some}
use lib.ListN.{length, get_or, drop}
use lib.Dec.{leb, ltb}
use native.Mathlib.Omega.{arith}
use borrow.Author.Tests.{le-leb, lt-leb, ltb-true, ltb-false}
use Rattle.length.specs.Refusals.{ends_early, bad_form, outside_sizes}
use Rattle.length.specs.Answers.{Answer, done, refused, refuse, refuse_at, read_from, ◌>>=◌, LengthAnswer}
use Rattle.length.specs.Length.{length_at, length_within, allowed, within, of_two}
use Rattle.length.specs.Tables.{when, first}
use Rattle.length.specs.declared.Reason.{Reason}
use Rattle.packet.specs.Edition.{Edition}
use Rattle.packet.specs.Packet.{fields_least, fields_limit}
use Rattle.packet_laws.specs.Octets.{Count, count_at}
use Rattle.packet.specs.declared.types.Ending.{Ending}
use Rattle.demands.specs.Demand1.Refusals.{length_rows}
use Rattle.demands.specs.Demand1.PacketItems.{count_of_fields, rows, octet_here}
use Rattle.demands.proofs.PacketTables.{answered, bind_assoc}

then_if : {A B : Type 0} (b : Bool) (n : Reason) (x : A) (next : A → Answer B)
    → ◌>>=◌ (cond b (done x) (refuse n)) next ≡ cond b (next x) (refuse n)
then_if true n x next = refl
then_if false n x next = refl

-- the count: in one octet its value is that octet; in two it is over its limit, and so is its first octet
count-tests : (b₁ b₂ b₃ b₄ b₅ c d : Bool) (x y : LengthAnswer) (z : Count) (next : LengthAnswer → Answer Count)
    → (b₂ ≡ true → (b₃ ≡ false) × (d ≡ false)) → (b₂ ≡ false → d ≡ true) → next x ≡ cond c (done z) (refuse outside_sizes)
    → (b₂ ≡ false → b₅ ≡ false → (next y ≡ refuse outside_sizes) × (c ≡ false))
    → ◌>>=◌
    (cond b₁ (refuse ends_early)
    (cond b₂ (done x) (cond b₃ (refuse bad_form) (cond b₄ (refuse ends_early) (cond b₅ (refuse bad_form) (done y))))))
    next
    ≡ answered 0
    (first
    (when b₁ ends_early ∷ when b₃ bad_form ∷ when (d && b₄) ends_early ∷ when (d && b₅) bad_form ∷ when (not c) outside_sizes ∷ []))
    z
unfolding first
count-tests true b₂ b₃ b₄ b₅ c d x y z next low high one two = refl
count-tests false true b₃ b₄ b₅ true d x y z next low high one two = one ∙ rw ((low refl).0, (low refl).1)
count-tests false true b₃ b₄ b₅ false d x y z next low high one two = one ∙ rw ((low refl).0, (low refl).1)
count-tests false false true b₄ b₅ c d x y z next low high one two = refl
count-tests false false false true b₅ c d x y z next low high one two = rw (high refl)
count-tests false false false false true c d x y z next low high one two = rw (high refl)
count-tests false false false false false c d x y z next low high one two =
    let over = two refl refl in
    over.0 ∙ rw (high refl, over.1)

-- what is made of a length at an octet: a count, if it is 1 to 16
counted : ℕ → LengthAnswer → Answer Count
counted at l = ◌>>=◌ (allowed fields_least fields_limit l) (λ n. done (record { value = n.value; next = 8 * (at + n.size) }))

count-made : (at v n : ℕ)
    → counted at (record { value = v; size = n })
    ≡ cond (within fields_least fields_limit v) (done (record { value = v; next = 8 * (at + n) })) (refuse outside_sizes)
unfolding counted allowed
count-made at v n =
    let l : LengthAnswer = record { value = v; size = n } in
    then_if (within fields_least fields_limit v) outside_sizes l (λ n. done (record { value = n.value; next = 8 * (at + n.size) }))

over-limit : (v : ℕ) → fields_limit < v → within fields_least fields_limit v ≡ false
over-limit v large = rw (lt-leb v fields_limit large, le-leb fields_least v (omega arith))

-- from an octet on: what comes after a length, and a table
from_then : {A B : Type 0} (start : ℕ) (m : Answer A) (made : A → B)
    → ◌>>=◌ (read_from start m) (λ a. done (made a)) ≡ read_from start (◌>>=◌ m (λ a. done (made a)))
from_then start (done a) made = refl
from_then start (refused r) made = refl

from-table : {A : Type 0} (start : ℕ) (o : Option Reason) (x : A) → read_from start (answered 0 o x) ≡ answered start o x
from-table start (some n) x = ap (λ (place : ℕ). refuse_at place n) (omega arith)
from-table start none x = refl

-- the table of a count, by the octets from there on
count-front : (at : ℕ) (rest : List ℕ)
    → ◌>>=◌ {B = Count} (length_within fields_least fields_limit rest) (λ n. done (record { value = n.value; next = 8 * (at + n.size) }))
    ≡ answered 0 (first (length_rows rest ++ (when (not (within fields_least fields_limit (get_or rest 0 0))) outside_sizes ∷ [])))
    (record { value = get_or rest 0 0; next = 8 * (at + 1) })
unfolding length_within length_at length_rows counted
count-front at rest =
    let o = get_or rest 0 0 in
    let v = of_two (get_or rest 0 0) (get_or rest 1 0) in
    bind_assoc (length_at rest) (allowed fields_least fields_limit) _
    ∙ count-tests (ltb (length rest) 1) (ltb o 0x80) (leb 0xC0 o) (ltb (length rest) 2) (ltb v 0x80) (within fields_least fields_limit o)
    (leb 0x80 o) (record { value = o; size = 1 }) (record { value = v; size = 2 }) (record { value = o; next = 8 * (at + 1) }) (counted at)
    (λ e. let small = ltb-true o 0x80 e in (lt-leb 0xC0 o (omega arith), lt-leb 0x80 o (omega arith)))
    (λ e. le-leb 0x80 o (ltb-false o 0x80 e))
    (count-made at o 1)
    (λ e large.
    let big = ltb-false o 0x80 e in
    let over = ltb-false v 0x80 large in
    (count-made at v 2 ∙ rw (over-limit v (omega arith)), over-limit o (omega arith)))

pub count-table : (edition : Edition) (ending : Ending) (s : List ℕ) (at : ℕ)
    → count_at s at true
    ≡ answered (8 * at / 8) (first (rows edition ending count_of_fields s (8 * at)))
    (record { value = octet_here s (8 * at); next = 8 * (at + 1) })
unfolding count_at rows
count-table edition ending s at =
    let here : 8 * at / 8 ≡ at = omega arith in
    let rest : List ℕ = drop at s in
    let made : LengthAnswer → Count = λ n. record { value = n.value; next = 8 * (at + n.size) } in
    rw here
    (from_then at (length_within fields_least fields_limit rest) made
    ∙ ap (read_from at) (count-front at rest)
    ∙ from-table at (first (length_rows rest ++ (when (not (within fields_least fields_limit (get_or rest 0 0))) outside_sizes ∷ []))) _)
