-- What a joiner keeps, and what a field or a lost number does to it (rules 16.1 to 16.10 and 16.13). Definitions only.
use Rattle.std.specs.Prelude.{ℕ, ◌+◌, Bool, true, false, cond, ◌&&◌, ◌||◌, List, [], ◌++◌, length, leb, ltb, eqb}
use Rattle.std.proofs.Math.Option.{Option, none, some}
use Rattle.packet.specs.Edition.{Edition, edition02}

-- the most octets that a frame may have (rule 1.12)
abbrev pub frame_limit : ℕ
frame_limit = 300

-- the edition whose field types the joiner takes: the new one, which has all types of the old one with the same rules on data (rule 16.11)
abbrev pub joiner_edition : Edition
joiner_edition = edition02

-- what a joiner keeps: the octets of the open frame (rule 16.1); or nothing, while tainted (rule 16.9)
pub data Joining : Type 0 where
  tainted : Joining
  opened : List ℕ → Joining

-- a fresh joiner has an open frame of no octets (rule 16.1)
abbrev pub fresh_joining : Joining
fresh_joining = opened []

-- a frame as it is returned
pub data Frame : Type 0 where
  good : List ℕ → Frame
  bad : List ℕ → Frame

-- ---- the types
-- type 0 adds, types 2 and 4 return a good frame, types 3 and 5 a bad one, and every other type drops what is open (rules 16.2 to 16.5)
abbrev pub adds : ℕ → Bool
adds type = eqb type 0

abbrev pub hands_good : ℕ → Bool
hands_good type = eqb type 2 || eqb type 4

abbrev pub hands_bad : ℕ → Bool
hands_bad type = eqb type 3 || eqb type 5

-- types 1 to 5, the only ones that end a taint (rules 16.8 and 16.10)
abbrev pub ends_frame : ℕ → Bool
ends_frame type = leb 1 type && leb type 5

-- ---- a field
-- what a field does: the frame that is returned, if any, and what is kept after it
pub record Step : Type 0 where
  pub handed : Option Frame
  pub after : Joining

-- the frame would pass 300 octets (rule 16.13)
abbrev pub passes : List ℕ → List ℕ → Bool
passes frame octets = ltb frame_limit (length frame + length octets)

-- the open frame with octets added; the joiner is tainted if the frame would pass 300 octets (rules 16.2 and 16.13)
unfoldable pub with_added : List ℕ → List ℕ → Joining
with_added frame octets = cond (passes frame octets) tainted (opened (frame ++ octets))

-- a good frame of no octets is dropped (rule 16.6)
unfoldable pub good_frame : List ℕ → Option Frame
good_frame frame = cond (ltb 0 (length frame)) (some (good frame)) none

-- a field of this type with this data, while the joiner is not tainted (rules 16.2 to 16.7)
unfoldable pub on_open : ℕ → List ℕ → List ℕ → Step
on_open type octets frame =
    cond (adds type) (record { handed = none; after = with_added frame octets })
    (cond (hands_bad type) (record { handed = some (bad frame); after = opened [] })
    (cond (hands_good type) (record { handed = good_frame frame; after = opened [] })
    (record { handed = none; after = opened [] })))

-- a field while tainted: nothing is returned, and a field of types 1 to 5 ends the taint (rules 16.8 and 16.9)
abbrev pub while_tainted : ℕ → Step
while_tainted type = record { handed = none; after = cond (ends_frame type) (opened []) tainted }

unfoldable pub field_step : ℕ → List ℕ → Joining → Step
field_step type octets tainted = while_tainted type
field_step type octets (opened frame) = on_open type octets frame

-- whether a field is refused with 18 (rule 16.13), which is not given while tainted (rule 16.9)
unfoldable pub would_pass : ℕ → List ℕ → Joining → Bool
would_pass type octets tainted = false
would_pass type octets (opened frame) = adds type && passes frame octets
