-- What follows a packet changes nothing of it, in any edition: octets that read still read the same with more after them. So a repaired
-- packet reads the same whatever zeros follow. Assumes nothing.
use Prim.Native.Nat.{ℕ, ◌+◌, ◌-◌, ◌/◌, ◌≤◌}
use mathlib.Core.Path.{◌≡◌, refl, sym, ap, ◌∙◌}
use mathlib.Core.Bool.{Bool, true, false}
use mathlib.Core.List.{List, [], ◌∷◌, ◌++◌, append_assoc}
use lib.ListN.{length, drop, replicate, length-append, length-replicate, replicate-append-replicate}
use lib.Seq.{drop-append-le}
use lib.Dec.{leb, eqb}
use native.Mathlib.Omega.{arith}
use borrow.Author.Tests.{leb-true, leb-false}
use Rattle.length.specs.Answers.{done}
use Rattle.length.proofs.Laws.{both}
use Rattle.packet.specs.Edition.{Edition}
use Rattle.packet.specs.Packet.{every, PacketAnswer, read_packet}
use Rattle.packet.specs.Claims.{PartsWithin, ZerosFollow, ZerosAlike}
use Rattle.packet.specs.declared.types.Ending.TheVariants.{Repaired}
use Rattle.packet.proofs.Steady.{steady-packet}
use Rattle.packet.proofs.Inside.{packet-in, packet-read, packet-reads}
use Rattle.packet.proofs.RoundTrips.{zeros-all}

pub parts_within : PartsWithin
parts_within edition e s p reads j =
    let r = packet-read edition s e p reads in
    rw r.is ((packet-in edition s 0 r.content r.end r.reads).contents.parts j)

zeros-more : (s : List ℕ) (n : ℕ) → every (λ x. eqb x 0) s ≡ true → every (λ x. eqb x 0) (s ++ replicate n 0) ≡ true
unfolding every
zeros-more [] n all = zeros-all n
zeros-more (x ∷ s) n all =
    rw (both (eqb x 0) (every (λ y. eqb y 0) s) all).0 (zeros-more s n (both (eqb x 0) (every (λ y. eqb y 0) s) all).1)

pub zeros-follow : ZerosFollow
zeros-follow edition s p n reads room =
    let r = packet-read edition s Repaired p reads in
    let i = packet-in edition s 0 r.content r.end r.reads in
    let zeros : List ℕ = replicate n 0 in
    let left : drop (r.end / 8) (s ++ zeros) ≡ drop (r.end / 8) s ++ zeros
    = drop-append-le (r.end / 8) s zeros (omega (arith, i.is, i.inside)) in
    rw r.is
    (packet-reads edition (s ++ zeros) Repaired r.content r.end
    (omega (arith, length-append s zeros, length-replicate {A = ℕ} n 0))
    ((steady-packet edition).longer s zeros 0 0 r.content r.end (omega arith) r.reads)
    (ap (every (λ x. eqb x 0)) left ∙ zeros-more (drop (r.end / 8) s) n r.follows))

-- with fewer zeros and with more
zeros-up : (edition : Edition) (s : List ℕ) (p q : PacketAnswer) (n m : ℕ) → n ≤ m
    → read_packet edition Repaired (s ++ replicate n 0) ≡ done p → read_packet edition Repaired (s ++ replicate m 0) ≡ done q → p ≡ q
zeros-up edition s p q n m few less more =
    let longer : (s ++ replicate n 0) ++ replicate (m - n) 0 ≡ s ++ replicate m 0
    = append_assoc s (replicate n 0) (replicate (m - n) 0)
    ∙ ap (λ (l : List ℕ). s ++ l) (replicate-append-replicate n (m - n) 0)
    ∙ ap (λ (k : ℕ). s ++ replicate k 0) (rejoined n m few) in
    let fits = (packet-read edition (s ++ replicate m 0) Repaired q more).fits in
    let goes : read_packet edition Repaired (s ++ replicate m 0) ≡ done p
    = ap (read_packet edition Repaired) (sym longer)
    ∙ zeros-follow edition (s ++ replicate n 0) p (m - n) less
    (omega (arith, ap length longer, length-append (s ++ replicate n 0) (replicate (m - n) 0), length-replicate {A = ℕ} (m - n) 0)) in
    cc where
      rejoined : (a b : ℕ) → a ≤ b → a + (b - a) ≡ b
      rejoined a b h = omega arith

pub zeros-alike : ZerosAlike
zeros-alike edition s p q n m left right = by (leb n m) refl where
  by : (b : Bool) → leb n m ≡ b → p ≡ q
  by true e = zeros-up edition s p q n m (leb-true n m e) left right
  by false e = let less = leb-false n m e in sym (zeros-up edition s q p m n (omega arith) right left)
