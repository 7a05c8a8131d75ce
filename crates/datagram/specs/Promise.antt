-- What the datagram reader promises, as the record that its contract cites (rule 4.23), and the number and values of each case of its
-- answer (rule 30.10). What the datagram writer promises is `Puts` of `length`, over `datagram_to_write`. Definitions only.
use Rattle.std.specs.Prelude.{ℕ, ◌-◌, ◌≡◌, List, [], ◌++◌, length, take, replicate, Result, Ok, Err}
use Rattle.length.specs.Answers.{Answer, done, refused}
use Rattle.length.specs.declared.Refusal.{Refusal}
use Rattle.datagram.specs.Sizes.{spares_limit}
use Rattle.datagram.specs.Read.{DatagramParts, read_datagram}
use Rattle.datagram.specs.declared.reader.Part.{Part}
use Rattle.datagram.specs.declared.reader.DatagramRead.{DatagramRead}

-- each case of the datagram reader's answer, as the rules' number and values (rule 30.10)
abbrev pub read_outcome : Result DatagramRead Refusal → Answer DatagramParts
read_outcome (Ok d) = done (record { number = d.number; packet = d.packet; kind = d.kind; items = take d.count d.items })
read_outcome (Err r) = refused r

-- the empty part, which fills the array past the count (rule 4.23)
abbrev pub nowhere : Part
nowhere = record { start = 0; size = 0 }

unfoldable pub padded_parts : List Part → List Part
padded_parts ps = ps ++ replicate (spares_limit - length ps) nowhere

-- the whole answer, with the unused elements of the array
unfoldable pub datagram_read : Answer DatagramParts → Result DatagramRead Refusal
datagram_read (done d) =
    Ok (record {
      number = d.number;
      packet = d.packet;
      kind = d.kind;
      count = length d.items;
      items = padded_parts d.items;
    })
datagram_read (refused r) = Err r

-- what `datagram_reader::read` promises for `octets`: its answer, and the whole value that it returns
pub record DatagramReads (octets : List ℕ) (r : Result DatagramRead Refusal) : Type 0 where
  pub answer : read_outcome r ≡ read_datagram octets
  pub whole : r ≡ datagram_read (read_datagram octets)
