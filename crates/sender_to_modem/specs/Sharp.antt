-- The conditions on the line are sharp: with k + 1 lost in a row something stays waiting (rule 23.8), and so it does if the last one is
-- lost (rule 23.1). Statements only.
use Rattle.std.specs.Prelude.{ℕ, ◌+◌, ◌%◌, ◌≤◌, ◌<◌, ◌≡◌, ◌⊎◌, List, [], ◌∷◌, ◌++◌, map, length, take, replicate}
use Rattle.session.specs.Cells.{kept_before}
use Rattle.session.specs.Reached.{Known, Unknown}
use Rattle.session.specs.View.{numbers}
use Rattle.session_held.specs.Table.{view_of}
use Rattle.sender_to_modem.specs.Marks.{Mark, arrives, lost, NeverMoreInARow, LastArrives}
use Rattle.sender_to_modem.specs.Transfer.{Delivered, Transfer, Ran}

-- one more than there are spares
abbrev pub one_more : ℕ → ℕ
one_more k = k + 1

-- after a line as it is sold, or at the start, k + 1 are lost in a row and the next one arrives
abbrev pub one_too_many : ℕ → List Mark → List Mark
one_too_many k before = before ++ (replicate (one_more k) lost ++ (arrives ∷ []))

-- the modem has the packets that it had before these, and no more
pub record StaysWaiting (k before : ℕ) (x : Transfer) : Type 0 where
  pub released : map (λ (d : Delivered). d.octets) x.modem ≡ take before x.packets
  -- the base is the first that was lost, which no spare brings back
  pub base : (view_of x.receiver).base ≡ before % numbers
  pub unknown : Unknown (view_of x.receiver).cells kept_before
  -- the k behind it came as spares, and the last one as received: they wait
  pub waiting : (d : ℕ) → 1 ≤ d → d ≤ k + 1 → Known (view_of x.receiver).cells (kept_before + d)

abbrev pub Sharp : Type 0
Sharp = (k : ℕ) (x : Transfer) → Ran k x → (before : List Mark) → x.line ≡ one_too_many k before → NeverMoreInARow k before
    → (before ≡ []) ⊎ LastArrives before
    → StaysWaiting k (length before) x

-- if the last datagram is lost, the modem does not have all packets, however few were lost in a row
abbrev pub LastMatters : Type 0
LastMatters = (k : ℕ) (x : Transfer) → Ran k x → NeverMoreInARow k x.line → (before : List Mark) → x.line ≡ before ++ (lost ∷ [])
    → length x.modem < length x.packets
