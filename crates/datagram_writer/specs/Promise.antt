-- What the datagram writer promises (rule 4.17), which its contract cites. Definitions only.
use Rattle.std.specs.Prelude.{ℕ, List, Result}
use Rattle.length.specs.declared.Refusal.{Refusal}
use Rattle.length.specs.Promise.{Puts}
use Rattle.datagram.specs.Write.{datagram_to_write}
use Rattle.datagram.specs.declared.kind.Kind.{Kind}

-- what `datagram_writer::write` promises for number, packet, kind, and the lengths of the spares or messages with their run of data: its
-- answer, and the whole buffer before and after (rules 2.25 and 2.26)
abbrev pub DatagramWritten : ℕ → List ℕ → Kind → List ℕ → List ℕ → List ℕ → List ℕ → Result ℕ Refusal → Type 0
DatagramWritten number packet kind lengths run old new r = Puts (datagram_to_write number packet kind lengths run) old new r
