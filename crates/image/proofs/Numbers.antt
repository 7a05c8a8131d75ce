-- Numbers in whole octets, the high one first, and packets and messages with their lengths: what is written reads, what reads is
-- written so, and how many octets it is. Assumes nothing.
use Prim.Native.Nat.{ℕ, zero, suc, ◌+◌, ◌-◌, ◌*◌, ◌/◌, ◌%◌, ◌^◌, ◌≤◌, ◌<◌}
use mathlib.Core.Path.{◌≡◌, refl, sym, ap, ap₂}
use mathlib.Core.Bool.{Bool, true, false, cond}
use mathlib.Core.List.{List, [], ◌∷◌, ◌++◌}
use lib.ListN.{length, get_or, take, drop, length-append, length-drop}
use lib.Seq.{append_snoc, get_or_at, get_or-drop, take-suc, take-add, length-take-le}
use lib.Dec.{leb, ltb, eqb}
use native.Mathlib.Nat.{pow-suc, mod-lt}
use native.Mathlib.Omega.{arith}
use borrow.Author.Tests.{le-ltb, ltb-false}
use Rattle.length.specs.Refusals.{refusal, bad_image}
use Rattle.length.specs.Answers.{Answer, done, refused}
use Rattle.length.specs.Length.{length_octets}
use Rattle.length.specs.Claims.{Octets}
use Rattle.length.proofs.Laws.{octets-cons, octets-none, octets-written, read-writes, value_read}
use Rattle.datagram.specs.Read.{after, octets_of, item_at}
use Rattle.datagram.specs.Write.{item_octets}
use Rattle.datagram.specs.declared.reader.Part.{Part}
use Rattle.datagram.proofs.Laws.{item-done, item_back}
use Rattle.format.specs.Reading.{found, stopped}
use Rattle.format.proofs.Laws.{Fronts}
use Rattle.image.specs.Parts.{high_first, high_first_octets, number_front, number, octet_to, octet_is, part_taken, item_front}
use Rattle.image.specs.Parts.{Sendable, item_to}
use Rattle.image.proofs.Plain.{Plain, octets-append, plain-octetwise, plain-guarded}

-- ---- numbers
pub length-number : (k v : ℕ) → length (high_first_octets k v) ≡ k
unfolding high_first_octets
length-number zero v = refl
length-number (suc k) v = omega (arith, length-append (high_first_octets k (v / 256)) (v % 256 ∷ []), length-number k (v / 256))

number_small : (k v : ℕ) → Octets (high_first_octets k v)
unfolding high_first_octets
number_small zero v = octets-none
number_small (suc k) v =
    octets-append (high_first_octets k (v / 256)) (v % 256 ∷ []) (number_small k (v / 256))
    (octets-cons (v % 256) [] (mod-lt v {m = 256} (omega arith)) octets-none)

number-reads : (k v : ℕ) (rest : List ℕ) → v < 256 ^ k → high_first k (high_first_octets k v ++ rest) ≡ v
unfolding high_first_octets high_first
number-reads zero v rest small = omega arith
number-reads (suc k) v rest small =
    let less : v / 256 < 256 ^ k = omega (arith, pow-suc 256 k) in
    let there : (high_first_octets k (v / 256) ++ (v % 256 ∷ [])) ++ rest ≡ high_first_octets k (v / 256) ++ (v % 256 ∷ rest)
    = append_snoc (high_first_octets k (v / 256)) (v % 256) rest in
    rw (
      there,
      number-reads k (v / 256) (v % 256 ∷ rest) less,
      get_or_at (high_first_octets k (v / 256)) (v % 256) rest 0 k (length-number k (v / 256)),
    )
    (omega arith)

high_first-small : (k : ℕ) (s : List ℕ) → Octets s → high_first k s < 256 ^ k
unfolding high_first
high_first-small zero s small = omega arith
high_first-small (suc k) s small = let rest = high_first-small k s small in omega (arith, pow-suc 256 k, small k)

number-back : (k : ℕ) (s : List ℕ) → Octets s → k ≤ length s → high_first_octets k (high_first k s) ≡ take k s
unfolding high_first_octets high_first
number-back zero s small inside = refl
number-back (suc k) s small inside =
    let high : (high_first k s * 256 + get_or s k 0) / 256 ≡ high_first k s = omega (arith, small k) in
    let low : (high_first k s * 256 + get_or s k 0) % 256 ≡ get_or s k 0 = omega (arith, small k) in
    rw (high, low, number-back k s small (omega arith), take-suc s k 0 inside)

number-fronts : (k : ℕ) → Fronts (number_front k) (high_first_octets k) (λ v. v < 256 ^ k)
unfolding number_front
number-fronts k =
    record {
      reads =
          λ v rest small.
          rw (
            le-ltb (length (high_first_octets k v ++ rest)) k (omega (arith, length-append (high_first_octets k v) rest, length-number k v)),
            number-reads k v rest small,
            length-number k v,
          );
      back = λ s v m small e. by s v m small (ltb (length s) k) refl e;
    } where
      by : (s : List ℕ) (v m : ℕ) → Octets s → (b : Bool) → ltb (length s) k ≡ b
          → cond b (stopped (refusal bad_image)) (found (high_first k s) k) ≡ found v m
          → (v < 256 ^ k) × (high_first_octets k v ≡ take m s) × (m ≤ length s)
      by s v m small true was e = let z : ◌≡◌ {A = ℕ} 0 1 = cc in absurd (omega arith)
      by s v m small false was e =
          let is : high_first k s ≡ v = cc in
          let same : k ≡ m = cc in
          let inside = ltb-false (length s) k was in
          rw (← is, ← same) (high_first-small k s small, number-back k s small inside, inside)

pub plain-number : (k : ℕ) → Plain (number k) (high_first_octets k)
plain-number k = plain-octetwise (number-fronts k) (λ v fits. number_small k v)

pub plain-octet-to : (most : ℕ) → Plain (octet_to most) (high_first_octets 1)
plain-octet-to most = plain-guarded bad_image (λ v. leb v most) (plain-number 1)

pub plain-octet-is : (octet : ℕ) → Plain (octet_is octet) (high_first_octets 1)
plain-octet-is octet = plain-guarded bad_image (λ v. eqb v octet) (plain-number 1)

-- ---- packets and messages
pub octets-take : (n : ℕ) (s : List ℕ) → Octets s → Octets (take n s)
octets-take zero s small = octets-none
octets-take (suc n) [] small = octets-none
octets-take (suc n) (x ∷ s) small = octets-cons x (take n s) (small 0) (octets-take n s (λ i. small (suc i)))

pub octets-drop : (n : ℕ) (s : List ℕ) → Octets s → Octets (drop n s)
octets-drop n s small i = rw (get_or-drop n s i 0) (small (n + i))

item-reads : (limit : ℕ) (x rest : List ℕ) → Sendable limit x → item_front limit (item_octets x ++ rest) ≡ found x (length (item_octets x))
unfolding item_front
item-reads limit x rest fits =
    let s = item_octets x ++ rest in
    let back = item_back 0 limit (item_octets x ++ rest) 0 x rest refl (omega arith) fits.short fits.form in
    let inside = (item-done 0 limit (item_octets x ++ rest) 0 back.part back.read).inside (omega arith) in
    let ends : after back.part ≡ length (item_octets x)
    = omega (arith, length-append (item_octets x) rest, length-drop (after back.part) s, ap length back.next) in
    rw back.read (ap₂ (λ (o : List ℕ) (n : ℕ). found o n) back.octets ends)

-- a length that stands before its octets
item-joined : (s : List ℕ) (start size form value : ℕ) → start ≡ form → size ≡ value → length (take size (drop start s)) ≡ size
    → length_octets value ≡ take form s
    → length_octets (length (take size (drop start s))) ++ take size (drop start s) ≡ take (start + size) s
item-joined s start size form value begins is long front =
    rw (long, is, begins, front) (sym (take-add form value s))

item-written : (limit : ℕ) (s x : List ℕ) (n : ℕ) → Octets s → item_front limit s ≡ found x n
    → (Sendable limit x) × (item_octets x ≡ take n s) × (n ≤ length s)
unfolding item_front item_octets
item-written limit s x n small e = by (item_at 0 limit s 0) refl e where
  by : (r : Answer Part) → item_at 0 limit s 0 ≡ r → part_taken s r ≡ found x n
      → (Sendable limit x) × (length_octets (length x) ++ x ≡ take n s) × (n ≤ length s)
  by (refused why) was e = let z : ◌≡◌ {A = ℕ} 0 1 = cc in absurd (omega arith)
  by (done p) was e =
      let i = item-done 0 limit s 0 p was in
      let is : octets_of s p ≡ x = cc in
      let same : after p ≡ n = cc in
      let inside = i.inside (omega arith) in
      let long : length (octets_of s p) ≡ p.size
      = length-take-le p.size (drop p.start s) (omega (arith, length-drop p.start s)) in
      let whole = item-joined s p.start p.size i.length.size i.length.value (omega (arith, i.start)) i.size long
      (read-writes s i.length small i.read) in
      rw (← is, ← same) (
        record {
          short = omega (arith, i.high);
          form = omega (arith, value_read s i.length small i.read, i.size);
          octets = octets-take p.size (drop p.start s) (octets-drop p.start s small);
        },
        whole,
        inside,
      )

pub item-small : (limit : ℕ) (x : List ℕ) → Sendable limit x → Octets (item_octets x)
unfolding item_octets
item-small limit x fits = octets-append (length_octets (length x)) x (octets-written (length x) fits.form) fits.octets

pub plain-item : (limit : ℕ) → Plain (item_to limit) item_octets
plain-item limit = plain-octetwise (record { reads = item-reads limit; back = item-written limit }) (item-small limit)
