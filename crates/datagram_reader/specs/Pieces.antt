-- What the inner functions of the datagram reader promise: each reads one piece of a datagram at its place (rules 4.1 to 4.8).
-- Definitions only.
use Rattle.std.specs.Prelude.{ℕ, ◌≤◌, ◌≡◌, List, length, Result, Ok, Err}
use Rattle.length.specs.Answers.{Answer, done, refused, length_outcome}
use Rattle.length.specs.declared.Refusal.{Refusal}
use Rattle.length.specs.declared.Length.{Length}
use Rattle.datagram.specs.Sizes.{spares_limit}
use Rattle.datagram.specs.Read.{ExtraHead, length_from, octet_at, item_at, spares_at, parity_at, extra_at, whole_of}
use Rattle.datagram.specs.declared.reader.Part.{Part}
use Rattle.datagram.specs.declared.reader.DatagramRead.{DatagramRead}
use Rattle.datagram_reader.specs.declared.reader.Extra.{Extra}
use Rattle.datagram.specs.declared.kind.Kind.{Kind}
use Rattle.datagram.specs.Promise.{datagram_read}

-- a plain octet at its place (rule 4.8)
pub record OctetRead (least most : ℕ) (octets : List ℕ) (at : ℕ) (r : Result Length Refusal) : Type 0 where
  pub answer : length_outcome r ≡ octet_at least most octets at

-- a length or count at its place (rule 3.9)
pub record LengthTold (least most : ℕ) (octets : List ℕ) (at : ℕ) (r : Result Length Refusal) : Type 0 where
  pub answer : length_outcome r ≡ length_from least most octets at

abbrev pub item_outcome : Result Part Refusal → Answer Part
item_outcome (Ok p) = done p
item_outcome (Err r) = refused r

pub record ItemRead (least most : ℕ) (octets : List ℕ) (at : ℕ) (r : Result Part Refusal) : Type 0 where
  pub answer : item_outcome r ≡ item_at least most octets at

abbrev pub extra_outcome : Result Extra Refusal → Answer ExtraHead
extra_outcome (Ok e) = done (record { kind = e.kind; count = e.count; first = e.first })
extra_outcome (Err r) = refused r

pub record SparesRead (octets : List ℕ) (at : ℕ) (r : Result Extra Refusal) : Type 0 where
  pub answer : extra_outcome r ≡ spares_at octets at

pub record ParityRead (octets : List ℕ) (at : ℕ) (r : Result Extra Refusal) : Type 0 where
  pub answer : extra_outcome r ≡ parity_at octets at

pub record ExtraRead (octets : List ℕ) (at : ℕ) (r : Result Extra Refusal) : Type 0 where
  pub answer : extra_outcome r ≡ extra_at octets at

-- the items begin within the octets, and the array of parts can hold them
pub record ItemsBegin (octets : List ℕ) (count first : ℕ) : Type 0 where
  pub inside : first ≤ length octets
  pub few : count ≤ spares_limit

pub record WholeRead (octets : List ℕ) (number : ℕ) (packet : Part) (k : Kind) (count first : ℕ) (r : Result DatagramRead Refusal) : Type 0 where
  pub whole : r ≡ datagram_read (whole_of octets number packet (record { kind = k; count = count; first = first }))
