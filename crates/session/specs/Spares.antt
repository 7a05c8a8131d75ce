-- What the spares of an accepted datagram fill, place by place: the k spares of the datagram at place p fill the unknown ones of p − 1 to p
-- − k, and no others (rules 4.5 and 10.7). Statements only.
use Rattle.std.specs.Prelude.{ℕ, suc, ◌+◌, ◌-◌, ◌≤◌, ◌<◌, ◌≡◌, List, [], length, get_or}
use Rattle.session.specs.Cells.{Cell, spare, filled_cell, cell_at}
use Rattle.session.specs.Reached.{Known, Unknown}
use Rattle.session.specs.Offer.{keep_spares}

-- the cells before and after the spares of datagram S, at place p, are kept
pub record SparesFill (S p : ℕ) (copies : List (List ℕ)) (cells after : List Cell) : Type 0 where
  -- the j-th spare, from 0, fills the place j + 1 before p, if that is unknown
  pub filled : (j : ℕ) → j < length copies → Unknown cells (p - suc j) → cell_at after (p - suc j) ≡ filled_cell S spare (get_or copies j [])
  -- what is known is unchanged (rule 9.9)
  pub known : (i : ℕ) → Known cells i → cell_at after i ≡ cell_at cells i
  -- so is every place from p on, and every place further back than there are spares
  pub from_here : (i : ℕ) → p ≤ i → cell_at after i ≡ cell_at cells i
  pub further : (i : ℕ) → i + length copies < p → cell_at after i ≡ cell_at cells i

abbrev pub SparesExact : Type 0
SparesExact = (S p : ℕ) (copies : List (List ℕ)) (cells : List Cell) → length copies ≤ p
    → SparesFill S p copies cells (keep_spares S p copies cells)
