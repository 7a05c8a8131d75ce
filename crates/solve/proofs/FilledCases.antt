-- The cases in which some octets satisfy all equations: they are given. Messages that together leave a number alone fix it, and two
-- solutions that differ leave it. Assumes nothing.
use Prim.Native.Nat.{ℕ, zero, suc, ◌<◌}
use mathlib.Core.Path.{◌≡◌, refl, sym}
use mathlib.Core.Logic.{inl, inr}
use mathlib.Core.Bool.{false≢true}
use mathlib.Core.List.Memᴰ.{head as here}
use mathlib.Core.List.Memᴰ.{tail as further}
use mathlib.Core.List.{List, [], ◌∷◌, Memᴰ as Among}
use lib.ListN.{get_or}
use native.Mathlib.Omega.{arith}
use Rattle.octets.specs.Place.{tab}
use Rattle.octets.specs.ExclusiveOr.{xor_at, exclusive_or}
use Rattle.solve_algebra.specs.Masks.{mask_places, mask_of}
use Rattle.session.specs.Cells.{Cell, unknown_cell, cell_at}
use Rattle.session.specs.Repair.{Message, passing}
use Rattle.session.specs.Reached.{Known, Unknown}
use Rattle.solve.specs.Equations.{padded, Solution, OneValue}
use Rattle.solve.specs.Solved.{Solved}
use Rattle.solve.specs.Claims.{unknown_in, Together}
use Rattle.solve.specs.Cases.{over_places, came_with, fixed}
use Rattle.solve.proofs.Padded.{length-padded}
use Rattle.solve.proofs.Together.{together-one}
use Rattle.solve.proofs.CaseParts.{given, none_of, each, Satisfied, Within, Small, Told, solved-by, two-differ}

-- ---- three messages together
abbrev three : List Cell
three = unknown_cell ∷ unknown_cell ∷ unknown_cell ∷ []

abbrev a-b : Message
a-b = over_places (0 ∷ 1 ∷ []) (0x03 ∷ [])

abbrev b-c : Message
b-c = over_places (1 ∷ 2 ∷ []) (0x06 ∷ [])

abbrev a-b-c : Message
a-b-c = over_places (0 ∷ 1 ∷ 2 ∷ []) (0x07 ∷ [])

abbrev three_messages : List Message
three_messages = a-b ∷ b-c ∷ a-b-c ∷ []

abbrev three_given : List (List ℕ)
three_given = (0x01 ∷ []) ∷ (0x02 ∷ []) ∷ (0x04 ∷ []) ∷ []

three-solution : Solution three three_messages (given three_given)
unfolding padded exclusive_or xor_at tab
three-solution =
    record {
      long = λ p. length-padded (get_or three_given p []);
      known = known;
      equation =
          each (Satisfied three_given) a-b (b-c ∷ a-b-c ∷ []) refl
          (each (Satisfied three_given) b-c (a-b-c ∷ []) refl
          (each (Satisfied three_given) a-b-c [] refl (none_of (Satisfied three_given))));
    }
  where
    known : (p : ℕ) → Known three p → given three_given p ≡ padded (cell_at three p).octets
    known zero k = absurd (false≢true (sym k))
    known (suc zero) k = absurd (false≢true (sym k))
    known (suc (suc zero)) k = absurd (false≢true (sym k))
    known (suc (suc (suc p))) k = refl

three-within : (message : Message) (q : ℕ) → Among message three_messages → Among q message.members → q < mask_places
three-within message q m =
    each Within a-b (b-c ∷ a-b-c ∷ []) (each Small 0 (1 ∷ []) (omega arith) (each Small 1 [] (omega arith) (none_of Small)))
    (each Within b-c (a-b-c ∷ []) (each Small 1 (2 ∷ []) (omega arith) (each Small 2 [] (omega arith) (none_of Small)))
    (each Within a-b-c []
    (each Small 0 (1 ∷ 2 ∷ []) (omega arith) (each Small 1 (2 ∷ []) (omega arith) (each Small 2 [] (omega arith) (none_of Small))))
    (none_of Within)))
    message
    m
    q

pub three-together : Solved three three_messages (fixed (0x01 ∷ []) ∷ fixed (0x02 ∷ []) ∷ fixed (0x04 ∷ []) ∷ [])
unfolding unknown_in passing mask_of
three-together =
    solved-by three three_messages _ (given three_given) three-solution refl kept told
  where
    kept : (p : ℕ) → Known three p
        → cell_at (fixed (0x01 ∷ []) ∷ fixed (0x02 ∷ []) ∷ fixed (0x04 ∷ []) ∷ []) p ≡ cell_at three p
    kept zero k = absurd (false≢true (sym k))
    kept (suc zero) k = absurd (false≢true (sym k))
    kept (suc (suc zero)) k = absurd (false≢true (sym k))
    kept (suc (suc (suc p))) k = refl

    one : (p : ℕ) → p < mask_places → Together three three_messages p → OneValue three three_messages p
    one p small = together-one three three_messages p small three-within

    first : Among a-b three_messages
    first = here refl

    second : Among b-c three_messages
    second = further (here refl)

    third : Among a-b-c three_messages
    third = further (further (here refl))

    Held : Message → Type 0
    Held message = Among message three_messages

    told : (p : ℕ) → Unknown three p
        → Told three three_messages (fixed (0x01 ∷ []) ∷ fixed (0x02 ∷ []) ∷ fixed (0x04 ∷ []) ∷ []) (given three_given) p
    told zero u =
        inl (
          refl,
          one 0 (omega arith)
              (record {
                chosen = b-c ∷ a-b-c ∷ [];
                held = each Held b-c (a-b-c ∷ []) second (each Held a-b-c [] third (none_of Held));
                alone = refl;
              }),
        )
    told (suc zero) u =
        inl (
          refl,
          one 1 (omega arith)
              (record {
                chosen = a-b ∷ b-c ∷ a-b-c ∷ [];
                held = λ message m. m;
                alone = refl;
              }),
        )
    told (suc (suc zero)) u =
        inl (
          refl,
          one 2 (omega arith)
              (record {
                chosen = a-b ∷ a-b-c ∷ [];
                held = each Held a-b (a-b-c ∷ []) first (each Held a-b-c [] third (none_of Held));
                alone = refl;
              }),
        )
    told (suc (suc (suc p))) u = absurd (false≢true u)

-- ---- two values
abbrev pair : List Cell
pair = unknown_cell ∷ unknown_cell ∷ []

pair-solution : (a b : ℕ) → Satisfied ((a ∷ []) ∷ (b ∷ []) ∷ []) a-b → Solution pair (a-b ∷ []) (given ((a ∷ []) ∷ (b ∷ []) ∷ []))
pair-solution a b fits =
    record {
      long = λ p. length-padded (get_or ((a ∷ []) ∷ (b ∷ []) ∷ []) p []);
      known = known;
      equation = each (Satisfied ((a ∷ []) ∷ (b ∷ []) ∷ [])) a-b [] fits (none_of (Satisfied ((a ∷ []) ∷ (b ∷ []) ∷ [])));
    }
  where
    known : (p : ℕ) → Known pair p → given ((a ∷ []) ∷ (b ∷ []) ∷ []) p ≡ padded (cell_at pair p).octets
    known zero k = absurd (false≢true (sym k))
    known (suc zero) k = absurd (false≢true (sym k))
    known (suc (suc p)) k = refl

one-two : Solution pair (a-b ∷ []) (given ((0x01 ∷ []) ∷ (0x02 ∷ []) ∷ []))
unfolding padded exclusive_or xor_at tab
one-two = pair-solution 0x01 0x02 refl

two-one : Solution pair (a-b ∷ []) (given ((0x02 ∷ []) ∷ (0x01 ∷ []) ∷ []))
unfolding padded exclusive_or xor_at tab
two-one = pair-solution 0x02 0x01 refl

pub two-values : Solved pair (a-b ∷ []) pair
unfolding padded tab
two-values =
    solved-by pair (a-b ∷ []) pair (given ((0x01 ∷ []) ∷ (0x02 ∷ []) ∷ [])) one-two refl (λ p k. refl) told
  where
    not-one : (p : ℕ)
        → (get_or (given ((0x01 ∷ []) ∷ (0x02 ∷ []) ∷ []) p) 0 0 ≡ get_or (given ((0x02 ∷ []) ∷ (0x01 ∷ []) ∷ []) p) 0 0 → ⊥)
        → OneValue pair (a-b ∷ []) p → ⊥
    not-one p differ = two-differ pair (a-b ∷ []) _ _ p one-two two-one differ

    told : (p : ℕ) → Unknown pair p → Told pair (a-b ∷ []) pair (given ((0x01 ∷ []) ∷ (0x02 ∷ []) ∷ [])) p
    told zero u = inr (refl, not-one 0 (λ e. omega arith))
    told (suc zero) u = inr (refl, not-one 1 (λ e. omega arith))
    told (suc (suc p)) u = absurd (false≢true u)

-- ---- a known number stays
abbrev one_known : List Cell
one_known = came_with (0x01 ∷ []) ∷ unknown_cell ∷ []

abbrev one_given : List (List ℕ)
one_given = (0x01 ∷ []) ∷ (0x02 ∷ []) ∷ []

known-solution : Solution one_known (a-b ∷ []) (given one_given)
unfolding padded exclusive_or xor_at tab
known-solution =
    record {
      long = λ p. length-padded (get_or one_given p []);
      known = known;
      equation = each (Satisfied one_given) a-b [] refl (none_of (Satisfied one_given));
    }
  where
    known : (p : ℕ) → Known one_known p → given one_given p ≡ padded (cell_at one_known p).octets
    known zero k = refl
    known (suc zero) k = absurd (false≢true (sym k))
    known (suc (suc p)) k = refl

pub known-stays : Solved one_known (a-b ∷ []) (came_with (0x01 ∷ []) ∷ fixed (0x02 ∷ []) ∷ [])
unfolding unknown_in passing mask_of
known-stays = solved-by one_known (a-b ∷ []) _ (given one_given) known-solution refl kept told
  where
    kept : (p : ℕ) → Known one_known p → cell_at (came_with (0x01 ∷ []) ∷ fixed (0x02 ∷ []) ∷ []) p ≡ cell_at one_known p
    kept zero k = refl
    kept (suc zero) k = absurd (false≢true (sym k))
    kept (suc (suc p)) k = refl

    within : (message : Message) (q : ℕ) → Among message (a-b ∷ []) → Among q message.members → q < mask_places
    within message q m =
        each Within a-b [] (each Small 0 (1 ∷ []) (omega arith) (each Small 1 [] (omega arith) (none_of Small))) (none_of Within) message
        m
        q

    told : (p : ℕ) → Unknown one_known p
        → Told one_known (a-b ∷ []) (came_with (0x01 ∷ []) ∷ fixed (0x02 ∷ []) ∷ []) (given one_given) p
    told zero u = absurd (false≢true u)
    told (suc zero) u =
        inl (
          refl,
          together-one one_known (a-b ∷ []) 1 (omega arith) within
              (record { chosen = a-b ∷ []; held = λ message m. m; alone = refl }),
        )
    told (suc (suc p)) u = absurd (false≢true u)
