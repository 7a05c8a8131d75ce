-- Bits that wait for the rest of their octet (rule 5.6): what they fill when more bits follow, and what they become at an octet edge. Code
-- that writes uses these definitions; they are proved to be what `Spelling` packs. Definitions only.
use Rattle.std.specs.Prelude.{ℕ, ◌+◌, ◌-◌, ◌*◌, ◌/◌, ◌%◌, ◌^◌, ◌<◌, cond, List, [], ◌∷◌, ltb}

-- how many they are, and the number that they make
pub record Waiting : Type 0 where
  pub width : ℕ
  pub value : ℕ

abbrev pub waiting : ℕ → ℕ → Waiting
waiting width value = record { width = width; value = value }

abbrev pub none_wait : Waiting
none_wait = waiting 0 0

-- less than an octet waits
pub record Waits (w : Waiting) : Type 0 where
  pub few : w.width < 8
  pub small : w.value < 2 ^ w.width

-- n bits that make a number, after those that wait: the number that they make together
abbrev pub joined : Waiting → ℕ → ℕ → Waiting
joined w n bits = record { width = w.width + n; value = w.value * 2 ^ n + bits }

-- the octets that they fill, one or none, and what waits then
unfoldable pub full_octets : Waiting → List ℕ
full_octets w = cond (ltb w.width 8) [] ((w.value / 2 ^ (w.width - 8)) ∷ [])

unfoldable pub left : Waiting → Waiting
left w = cond (ltb w.width 8) w (record { width = w.width - 8; value = w.value % 2 ^ (w.width - 8) })

-- zero bits to an octet edge: the octet that they fill, if any bits wait (rule 5.3)
unfoldable pub closed : Waiting → List ℕ
closed w = cond (ltb 0 w.width) ((w.value * 2 ^ (8 - w.width)) ∷ []) []
