-- The loops that make octets of digits, sixteen together, on plain values. Each of the two inner loops has done its first j octets.
-- The outer loop has made the first i octets of the line and left the rest of the buffer. The last sixteen may make some octets
-- again: they are the same octets, so a place before i and a place after are told by the same law. Assumes nothing.
use Rattle.std.proofs.Common.{◌≡◌, ℕ, ◌+◌, ◌-◌, ◌*◌, ◌/◌, ◌%◌, ◌<◌, ◌≤◌, true, List, ◌++◌, length, get_or, drop, set, sym, refl, ap, ◌∙◌, ap₂, ⊎_elim, mod-eq_of_lt, arith, rules, take, length-append, length-drop, length-set, get_or-drop, get_or-set_other, get_or-set_same, get_or-append-add}
use lib.ListN.{get_or-append}
use borrow.Rule.Slice.PartMut.{put_mid}
use lib.Seq.{length-take-le}
use Rattle.std.proofs.lemmas.List.{places}
use Rattle.octets.specs.Place.{tab}
use Rattle.octets.proofs.Laws.{tab-ext, tab-get_d, below_or_not, same_or_not}
use Rattle.line.specs.Hex.{digit_of, all_digits, octets_in, pair_at}
use Rattle.line_hex.specs.Near.{together, NearRead}
use Rattle.line.proofs.Laws.{length-octets_in}
use Rattle.line_hex.proofs.HexSteps.{digit-small, octets_in-at}

-- ---- reading: the first j octets from place `from` on are in the chunk
pub record Nearing (line : List ℕ) (from : ℕ) (chunk : List ℕ) (j : ℕ) : Type 0 where
  pub read : (k : ℕ) → k < j → get_or chunk k 0 ≡ pair_at line (from + k)
  pub few : j ≤ together
  pub long : length chunk ≡ together

pub nearing-start : (line chunk : List ℕ) (from : ℕ) → length chunk ≡ together → Nearing line from chunk 0
nearing-start line chunk from long = record { read = λ k below. absurd (omega (arith, below)); few = omega arith; long = long }

pub nearing-turn : {line chunk : List ℕ} {from j high low : ℕ} → Nearing line from chunk j → j < together
    → from + together ≤ length line / 2 → all_digits line ≡ true → high ≡ digit_of (get_or line (2 * (from + j)) 0)
    → low ≡ digit_of (get_or line (2 * (from + j) + 1) 0) → Nearing line from (set chunk j (high % 16 * 16 + low % 16)) (j + 1)
nearing-turn {line} {chunk} {from} {j} {high} {low} n more inside all h l =
    let hs : high < 16 = rw h (digit-small line (2 * (from + j)) all (omega arith)) in
    let ls : low < 16 = rw l (digit-small line (2 * (from + j) + 1) all (omega arith)) in
    let value : high % 16 * 16 + low % 16 ≡ pair_at line (from + j) =
    ap₂ (λ (a b : ℕ). a * 16 + b) (mod-eq_of_lt hs ∙ h) (mod-eq_of_lt ls ∙ l) in
    record {
      read =
          λ k below.
          ⊎_elim
          (λ e.
          ap (λ (p : ℕ). get_or (set chunk j (high % 16 * 16 + low % 16)) p 0) e
          ∙ get_or-set_same chunk j _ 0 (omega (arith, n.long))
          ∙ value
          ∙ ap (λ (p : ℕ). pair_at line (from + p)) (sym e))
          (λ other. get_or-set_other chunk j k _ 0 other ∙ n.read k (omega (arith, below, other)))
          (same_or_not k j);
      few = omega arith;
      long = length-set chunk j _ ∙ n.long;
    }

pub nearing-done : {line chunk : List ℕ} {from j : ℕ} → Nearing line from chunk j → together ≤ j → NearRead line from chunk
nearing-done {line} {chunk} {from} {j} n whole = record { read = λ k below. n.read k (omega (arith, below, whole)) }

-- ---- putting
-- the octets of the chunk are at place `from` and behind it, and all else is unchanged
pub record NearPut (chunk : List ℕ) (from : ℕ) (old new : List ℕ) : Type 0 where
  pub long : length new ≡ length old
  pub inside : (k : ℕ) → k < together → get_or new (from + k) 0 ≡ get_or chunk k 0
  pub before : (k : ℕ) → k < from → get_or new k 0 ≡ get_or old k 0
  pub after : (k : ℕ) → from + together ≤ k → get_or new k 0 ≡ get_or old k 0

-- a chunk that was copied into its place
pub near-put : {chunk old part : List ℕ} {from n : ℕ} → part ≡ chunk → n ≡ together → from + together ≤ length old
    → length part ≡ length (take n (drop from old)) → NearPut chunk from old (put_mid from n old part)
near-put {chunk} {old} {part} {from} {n} same size room as-long =
    let front : length (take from old) ≡ from = length-take-le from old (omega arith) in
    let rest : length (drop from old) ≡ length old - from = length-drop from old in
    let long : length part ≡ together = as-long ∙ length-take-le n (drop from old) (omega arith) ∙ size in
    record {
      long = simp (length-append, length-drop) (omega (arith, front));
      inside = λ k below. rw (← same) (search (rules, places));
      before = λ k below. search (rules, places);
      after = λ k past. search (rules, places);
    }

-- ---- the whole line: the first i octets are made, and the rest is as it was
pub record Pairing (line old new : List ℕ) (i : ℕ) : Type 0 where
  pub long : length new ≡ length old
  pub made : (k : ℕ) → k < i → get_or new k 0 ≡ pair_at line k
  pub rest : (k : ℕ) → i ≤ k → get_or new k 0 ≡ get_or old k 0
  pub few : i ≤ length line / 2

pub pairing-start : (line old : List ℕ) → Pairing line old old 0
pairing-start line old =
    record { long = refl; made = λ k below. absurd (omega (arith, below)); rest = λ k _. refl; few = omega arith }

-- sixteen are made from place `from` on, before which all are made
pub pairing-over : {line old new newer chunk : List ℕ} {i from : ℕ} → Pairing line old new i → from ≤ i → i ≤ from + together
    → from + together ≤ length line / 2 → NearRead line from chunk → NearPut chunk from new newer
    → Pairing line old newer (from + together)
pairing-over {line} {old} {new} {newer} {chunk} {i} {from} p start reach inside r w =
    record {
      long = w.long ∙ p.long;
      made =
          λ k below.
          ⊎_elim (λ early. w.before k early ∙ p.made k (omega (arith, early, start)))
          (λ late.
          let e : k ≡ from + (k - from) = omega (arith, late) in
          ap (λ (q : ℕ). get_or newer q 0) e
          ∙ w.inside (k - from) (omega (arith, below, late))
          ∙ r.read (k - from) (omega (arith, below, late))
          ∙ ap (λ (q : ℕ). pair_at line q) (sym e))
          (below_or_not k from);
      rest = λ k past. w.after k past ∙ p.rest k (omega (arith, past, reach));
      few = inside;
    }

pub pairing-turn : {line old new newer chunk : List ℕ} {i : ℕ} → Pairing line old new i → i + together ≤ length line / 2
    → NearRead line i chunk → NearPut chunk i new newer → Pairing line old newer (i + together)
pairing-turn p inside r w = pairing-over p (omega arith) (omega arith) inside r w

pub pairing-done : {line old new newer chunk : List ℕ} {i last : ℕ} → Pairing line old new i → last ≤ i
    → last + together ≡ length line / 2 → length line / 2 ≤ length old → NearRead line last chunk → NearPut chunk last new newer
    → newer ≡ octets_in line ++ drop (length line / 2) old
pairing-done {line} {old} {new} {newer} {chunk} {i} {last} p start whole room r w =
    let all : Pairing line old newer (last + together) =
    pairing-over p start (omega (arith, p.few, whole)) (omega (arith, whole)) r w in
    let half = length line / 2 in
    let x = octets_in line in
    let size : length (x ++ drop half old) ≡ length newer =
    length-append x (drop half old)
    ∙ ap₂ (λ (a b : ℕ). a + b) (length-octets_in line) (length-drop half old)
    ∙ omega (arith, room, all.long) in
    let same : (k : ℕ) → k < length newer → get_or newer k 0 ≡ get_or (x ++ drop half old) k 0 =
    λ k _.
    ⊎_elim
    (λ early.
    all.made k (omega (arith, early, whole))
    ∙ sym (octets_in-at line k early)
    ∙ sym (get_or-append x (drop half old) 0 k (omega (arith, early, length-octets_in line))))
    (λ late.
    let e : k ≡ length x + (k - half) = omega (arith, late, length-octets_in line) in
    all.rest k (omega (arith, late, whole))
    ∙ ap (λ (q : ℕ). get_or old q 0) (omega (arith, late))
    ∙ sym (get_or-drop half old (k - half) 0)
    ∙ sym (get_or-append-add x (drop half old) (k - half) 0)
    ∙ ap (λ (q : ℕ). get_or (x ++ drop half old) q 0) (sym e))
    (below_or_not k half) in
    sym (tab-get_d newer 0)
    ∙ tab-ext (length newer) (λ k. get_or newer k 0) (λ k. get_or (x ++ drop half old) k 0) same
    ∙ ap (λ (n : ℕ). tab n (λ k. get_or (x ++ drop half old) k 0)) (sym size)
    ∙ tab-get_d (x ++ drop half old) 0

pub ruleset pairings = (pairing-start, pairing-turn, pairing-done)
