-- A place in bits, computed from octets: the number in some bits from a place on, and the octet edge at a place or after it (rules 5.1 to
-- 5.3). Code uses these definitions; they are proved to be what the readers of `Reading` find. Definitions only.
use Rattle.std.specs.Prelude.{ℕ, ◌+◌, ◌-◌, ◌*◌, ◌/◌, ◌%◌, ◌^◌, cond, List, get_or, ltb}
use Rattle.length.specs.Refusals.{spare_bit}
use Rattle.length.specs.Answers.{Answer, done, refuse_at}
use Rattle.format.specs.Spelling.{gap}

-- a number of bits from the start
abbrev pub Place : Type 0
Place = ℕ

-- the number in n bits from a place on, from the two octets there: they have at least nine bits from the place on
abbrev pub bits_at : ℕ → List ℕ → Place → ℕ
bits_at n s p = (get_or s (p / 8) 0 * 256 + get_or s (p / 8 + 1) 0 % 256) / 2 ^ (16 - (p % 8 + n)) % 2 ^ n

-- how many octets there are up to the octet edge at a place, or after it
abbrev pub edge : Place → ℕ
edge p = (p + 7) / 8

-- to an octet edge, by zero bits: how many octets there are up to it, or 5 for a bit set, at the octet of the padding (rules 5.3 to 5.5)
unfoldable pub edge_at : List ℕ → Place → Answer ℕ
edge_at s p = cond (ltb 0 (get_or s (p / 8) 0 % 2 ^ gap p)) (refuse_at (p / 8) spare_bit) (done (edge p))
