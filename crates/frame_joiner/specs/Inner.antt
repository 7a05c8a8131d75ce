-- What the functions inside this crate promise each other. The last two records are what `feed` and `taint` promise, whose callers lend
-- the storage. It adds nothing to the meaning. Definitions only.
use Rattle.std.specs.Prelude.{ℕ, ◌+◌, ◌-◌, ◌≤◌, ◌≡◌, Bool, true, false, not, cond, List, [], ◌++◌, Result, Ok, Err, length, take, drop, ltb}
use Rattle.length.specs.Refusals.{refusal, no_room, frame_too_long}
use Rattle.length.specs.declared.Refusal.{Refusal}
use Rattle.length.specs.declared.Reason.{Reason}
use Rattle.packet.specs.Packet.{types_limit, right_data}
use Rattle.frame.specs.Frame.{joiner_edition, frame_limit, ends_frame}
use Rattle.frame.specs.Joiner.{in_storage, ranges_of}
use Rattle.frame.specs.Promise.{FieldOwes, LossOwes}
use Rattle.frame.specs.declared.Joiner.{Joiner}
use Rattle.frame.specs.declared.Joined.{Joined}
use Rattle.frame.specs.declared.Handed.{Handed}
use Rattle.frame.specs.declared.Handed.TheVariants as handed
use Rattle.frame_joiner.specs.declared.inside.Kept.{Kept}

-- the storage holds a frame of this size, and zeros past it (rule 16.16)
pub record LaidOut (size : ℕ) (storage : List ℕ) : Type 0 where
  pub few : size ≤ frame_limit
  pub long : length storage ≡ frame_limit
  pub clean : storage ≡ in_storage (take size storage)

-- a joiner made of its parts
abbrev pub joiner_of : Bool → ℕ → List ℕ → Joiner
joiner_of taint size storage = record { tainted = taint; size = size; frame = storage }

abbrev pub joined_of : Kept → List ℕ → Joined
joined_of k storage = record { joiner = joiner_of k.tainted k.size storage; answer = k.answer }

abbrev pub kept_as : Bool → ℕ → Result Handed Refusal → Kept
kept_as taint size answer = record { tainted = taint; size = size; answer = answer }

-- a refusal that changes nothing
abbrev pub unchanged : Bool → ℕ → Reason → Kept
unchanged taint size why = kept_as taint size (Err (refusal why))

-- a field while tainted (rules 16.8 and 16.9)
abbrev pub waited : ℕ → Kept
waited type = kept_as (not (ends_frame type)) 0 (Ok handed.Nothing)

-- what a function leaves: its answer, the storage and the caller's buffer
pub record Remains : Type 0 where
  pub kept : Kept
  pub storage : List ℕ
  pub lent : List ℕ

abbrev pub leaves : Kept → List ℕ → List ℕ → Remains
leaves kept storage lent = record { kept = kept; storage = storage; lent = lent }

-- octets are added to the open frame (rule 16.2), or they are too many: 18 (rule 16.13)
abbrev pub adds_to : ℕ → List ℕ → List ℕ → List ℕ → Remains
adds_to size octets storage old =
    cond (ltb (frame_limit - size) (length octets)) (leaves (unchanged true 0 frame_too_long) (in_storage []) old)
    (leaves (kept_as false (size + length octets) (Ok handed.Nothing)) (in_storage (take size storage ++ octets)) old)

pub record Adds (size : ℕ) (octets storage new : List ℕ) (r : Kept) : Type 0 where
  pub whole : (old : List ℕ) → leaves r new old ≡ adds_to size octets storage old

-- the open frame is returned (rules 16.3 and 16.4), or there is no room: 13 (rule 16.15)
abbrev pub gives_to : ℕ → Handed → List ℕ → List ℕ → Remains
gives_to size answer storage old =
    cond (ltb (length old) size) (leaves (unchanged false size no_room) storage old)
    (leaves (kept_as false 0 (Ok answer)) (in_storage []) (take size storage ++ drop size old))

pub record Gives (size : ℕ) (answer : Handed) (storage new_storage old new : List ℕ) (r : Kept) : Type 0 where
  pub whole : leaves r new_storage new ≡ gives_to size answer storage old

pub record Drops (taint : Bool) (new : List ℕ) (r : Kept) : Type 0 where
  pub kept : r ≡ kept_as taint 0 (Ok handed.Nothing)
  pub storage : new ≡ in_storage []

-- a field that is not refused with 17, 12 or 14, while a frame of this size is open
pub record Admitted (size type : ℕ) (octets storage : List ℕ) : Type 0 where
  pub frame : LaidOut size storage
  pub inside : ranges_of false size storage ≡ true
  pub assigned : type ≤ types_limit joiner_edition
  pub right : right_data joiner_edition type (ltb 0 (length octets)) ≡ true

-- the two calls, with the storage lent by the caller
pub record FieldFed (taint : Bool) (size type : ℕ) (octets storage new_storage old new : List ℕ) (r : Kept) : Type 0 where
  pub owes : FieldOwes (joiner_of taint size storage) type octets old new (joined_of r new_storage)

pub record Taints (taint : Bool) (size : ℕ) (storage new : List ℕ) (r : Kept) : Type 0 where
  pub owes : LossOwes (joiner_of taint size storage) (joined_of r new)
