-- Eight spares at the packet limit fit in a datagram, with a newest packet at the limit (rule 1.17), and whatever is written is within
-- the datagram limit (rule 1.2). Statements only.
use Rattle.std.specs.Prelude.{ℕ, ◌+◌, ◌*◌, ◌≤◌, ◌≡◌, List, length, replicate, Result, Ok}
use Rattle.length.specs.declared.Refusal.{Refusal}
use Rattle.length.specs.Answers.{done}
use Rattle.datagram.specs.Sizes.{packet_limit, datagram_limit, spares_limit}
use Rattle.datagram.specs.Write.{datagram_to_write}
use Rattle.datagram.specs.Inner.Heads.{item_size}
use Rattle.datagram.specs.declared.kind.Kind.{Kind}
use Rattle.datagram.specs.declared.kind.Kind.TheVariants as kind
use Rattle.datagram_writer.specs.Promise.{DatagramWritten}
use Rattle.sender.specs.Inner.Held.{Arrays}
use Rattle.sender.specs.Promise.{Sends}
use Rattle.sender.specs.declared.Sender.{Sender}
use Rattle.sender.specs.declared.Sent.{Sent}
use Rattle.sender.specs.declared.Settings.{Settings}

-- the size of a datagram with all spares, each at the limit: its number, the packet, octet `00`, the count, the spares
abbrev pub full_size : ℕ
full_size = 2 + item_size packet_limit + 1 + 1 + spares_limit * item_size packet_limit

pub record Fits : Type 0 where
  -- with a buffer of the datagram limit they are written, whatever the octets are (rule 1.17)
  pub all_spares : (number : ℕ) (packet run : List ℕ) {old new : List ℕ} {w : Result ℕ Refusal} → length packet ≡ packet_limit
      → length run ≡ spares_limit * packet_limit → datagram_limit ≤ length old
      → DatagramWritten number packet kind.Spares (replicate spares_limit packet_limit) run old new w → w ≡ Ok full_size
  -- and so is everything else that the datagram writer does not refuse
  pub room : (number : ℕ) (packet : List ℕ) (kind : Kind) (lengths run : List ℕ) {octets old new : List ℕ} {w : Result ℕ Refusal}
      → datagram_to_write number packet kind lengths run ≡ done octets → datagram_limit ≤ length old
      → DatagramWritten number packet kind lengths run old new w → w ≡ Ok (length octets)
  -- no datagram that was written is over the limit, neither the datagram writer's nor a send's (rule 1.2)
  pub limited : (number : ℕ) (packet : List ℕ) (kind : Kind) (lengths run : List ℕ) {old new : List ℕ} {w : Result ℕ Refusal} {n : ℕ}
      → DatagramWritten number packet kind lengths run old new w → w ≡ Ok n → n ≤ datagram_limit
  pub sent : {s : Sender} {settings : Settings} {packet old new : List ℕ} {r : Sent} {n : ℕ} → Arrays s.sizes s.octets
      → Sends s settings packet old new r → r.answer ≡ Ok n → n ≤ datagram_limit
