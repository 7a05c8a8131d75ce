-- The cases. An empty message says that a number is zeros; where nothing satisfies all equations, one octet shows it. Assumes nothing.
use Prim.Native.Nat.{ℕ, zero, suc, ◌≤◌, ◌<◌}
use mathlib.Core.Path.{◌≡◌, refl, sym, ◌∙◌}
use mathlib.Core.Logic.{inl}
use mathlib.Core.Bool.{false≢true}
use mathlib.Core.List.Memᴰ.{head as here}
use mathlib.Core.List.Memᴰ.{tail as further}
use mathlib.Core.List.{List, [], ◌∷◌, Memᴰ as Among}
use lib.ListN.{get_or}
use lib.Bits.{xor_zero_r}
use native.Mathlib.Omega.{arith}
use Rattle.octets.specs.Place.{tab}
use Rattle.octets.specs.ExclusiveOr.{xor_at, exclusive_or}
use Rattle.datagram.specs.Sizes.{packet_limit}
use Rattle.solve_algebra.specs.Masks.{mask_places, mask_of}
use Rattle.session.specs.Cells.{Cell, unknown_cell, unknown_at, cell_at}
use Rattle.session.specs.Repair.{Message, passing}
use Rattle.session.specs.Reached.{Known, Unknown}
use Rattle.solve.specs.Equations.{padded, Solution, Unsolvable}
use Rattle.solve.specs.Solved.{Solved}
use Rattle.solve.specs.Claims.{unknown_in, Together}
use Rattle.solve.specs.Cases.{over_places, came_with, fixed, Cases}
use Rattle.solve.proofs.Padded.{length-padded, known_at, equation-at}
use Rattle.solve.proofs.Together.{together-one}
use Rattle.solve.proofs.CaseParts.{given, none_of, each, Satisfied, Within, Small, Told, solved-by}
use Rattle.solve.proofs.FilledCases.{three-together, two-values, known-stays}

-- ---- an empty message
abbrev nothing_said : Message
nothing_said = over_places (0 ∷ []) []

empty-solution : Solution (unknown_cell ∷ []) (nothing_said ∷ []) (given [])
unfolding padded exclusive_or xor_at tab
empty-solution =
    record {
      long = λ p. length-padded [];
      known = known;
      equation = each (Satisfied []) nothing_said [] refl (none_of (Satisfied []));
    }
  where
    known : (p : ℕ) → Known (unknown_cell ∷ []) p → given [] p ≡ padded (cell_at (unknown_cell ∷ []) p).octets
    known zero k = absurd (false≢true (sym k))
    known (suc p) k = refl

empty-message : Solved (unknown_cell ∷ []) (nothing_said ∷ []) (fixed [] ∷ [])
unfolding unknown_in passing mask_of
empty-message = solved-by (unknown_cell ∷ []) (nothing_said ∷ []) _ (given []) empty-solution refl kept told
  where
    kept : (p : ℕ) → Known (unknown_cell ∷ []) p → cell_at (fixed [] ∷ []) p ≡ cell_at (unknown_cell ∷ []) p
    kept zero k = absurd (false≢true (sym k))
    kept (suc p) k = refl

    within : (message : Message) (q : ℕ) → Among message (nothing_said ∷ []) → Among q message.members → q < mask_places
    within message q m = each Within nothing_said [] (each Small 0 [] (omega arith) (none_of Small)) (none_of Within) message m q

    told : (p : ℕ) → Unknown (unknown_cell ∷ []) p → Told (unknown_cell ∷ []) (nothing_said ∷ []) (fixed [] ∷ []) (given []) p
    told zero u =
        inl (
          refl,
          together-one (unknown_cell ∷ []) (nothing_said ∷ []) 0 (omega arith) within
              (record { chosen = nothing_said ∷ []; held = λ message m. m; alone = refl }),
        )
    told (suc p) u = absurd (false≢true u)

-- ---- nothing satisfies them
-- a message over a known number alone is that number
alone-fits : (octets message : List ℕ) (k : ℕ) → k < packet_limit → (x : ℕ → List ℕ)
    → Solution (came_with octets ∷ []) (over_places (0 ∷ []) message ∷ []) x → get_or octets k 0 ≡ get_or message k 0
unfolding xor_at
alone-fits octets message k inside x s =
    sym (known_at s 0 k inside refl) ∙ sym (xor_zero_r (get_or (x 0) k 0)) ∙ equation-at s (over_places (0 ∷ []) message) (here refl) k inside

misfit : Unsolvable (came_with (0x01 ∷ []) ∷ []) (over_places (0 ∷ []) (0x02 ∷ []) ∷ [])
misfit x s = let e = alone-fits (0x01 ∷ []) (0x02 ∷ []) 0 (omega arith) x s in omega arith

cut_short : Unsolvable (came_with (0xAA ∷ 0xBB ∷ []) ∷ []) (over_places (0 ∷ []) (0xAA ∷ []) ∷ [])
cut_short x s = let e = alone-fits (0xAA ∷ 0xBB ∷ []) (0xAA ∷ []) 1 (omega arith) x s in omega arith

differ : Unsolvable (unknown_cell ∷ unknown_cell ∷ []) (over_places (0 ∷ 1 ∷ []) (0x01 ∷ []) ∷ over_places (0 ∷ 1 ∷ []) (0x02 ∷ []) ∷ [])
differ x s =
    let first = equation-at s (over_places (0 ∷ 1 ∷ []) (0x01 ∷ [])) (here refl) 0 (omega arith) in
    let second = equation-at s (over_places (0 ∷ 1 ∷ []) (0x02 ∷ [])) (further (here refl)) 0 (omega arith) in
    let e = sym first ∙ second in
    omega arith

pub cases : Cases
cases =
    record {
      three-together = three-together;
      two-values = two-values;
      known-stays = known-stays;
      empty-message = empty-message;
      misfit = misfit;
      cut_short = cut_short;
      differ = differ;
    }
