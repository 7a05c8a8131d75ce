-- What fits a datagram: whatever is written reads back, and what is over the datagram limit does not read. Assumes nothing.
use Rattle.std.proofs.Common.{Result, Ok}
use Prim.Native.Nat.{ℕ, ◌*◌, ◌≤◌}
use mathlib.Core.Path.{◌≡◌, refl, sym, ap, ◌∙◌}
use mathlib.Core.List.{List}
use lib.ListN.{length, take, replicate}
use lib.Dec.{ltb}
use native.Mathlib.Omega.{arith}
use borrow.Author.Tests.{ltb-false}
use Rattle.length.specs.declared.Refusal.{Refusal}
use Rattle.length.specs.Refusals.{too_long}
use Rattle.length.specs.Answers.{done}
use Rattle.length.specs.Length.{length_octets}
use Rattle.length.specs.Promise.{Puts}
use Rattle.length.proofs.Laws.{cond-done}
use Rattle.datagram.specs.Sizes.{packet_limit, datagram_limit, spares_limit}
use Rattle.datagram.specs.Read.{DatagramParts, read_datagram}
use Rattle.datagram.specs.Write.{number_octets, datagram_octets, carried_of, sum_of, items_inside, datagram_to_write}
use Rattle.datagram.specs.Inner.Heads.{items_size}
use Rattle.datagram.specs.declared.kind.Kind.{Kind}
use Rattle.datagram.specs.declared.kind.Kind.TheVariants as kind
use Rattle.datagram.proofs.Laws.{Allowed, datagram-length, allowed-written}
use Rattle.datagram.proofs.Claims as datagrams
use Rattle.sender.specs.Promise.{to_send}
use Rattle.sender.proofs.Claims as sending
use Rattle.demands.specs.Requests.Fits.{full_size, Fits}
use Rattle.demands.proofs.RoundTrips.{puts-octets, puts_back}

-- what reads is within the limit
read_short : (s : List ℕ) (d : DatagramParts) → read_datagram s ≡ done d → length s ≤ datagram_limit
unfolding read_datagram
read_short s d e = ltb-false datagram_limit (length s) (cond-done (ltb datagram_limit (length s)) too_long _ d e).0

module _ (number : ℕ) (packet : List ℕ) (kind : Kind) (lengths run : List ℕ) where
  written-short : (s : List ℕ) → datagram_to_write number packet kind lengths run ≡ done s → length s ≤ datagram_limit
  written-short s e =
      let back = (datagrams.claims).written_reads number packet kind lengths run s e in
      read_short s back.parts back.read

  room : {s old new : List ℕ} {w : Result ℕ Refusal} → datagram_to_write number packet kind lengths run ≡ done s
      → datagram_limit ≤ length old
      → Puts (datagram_to_write number packet kind lengths run) old new w → w ≡ Ok (length s)
  room {s} e enough puts = (puts_back puts e refl (omega (arith, written-short s e))).answer

-- a packet with all spares, each at the limit
abbrev all_long : List ℕ
all_long = replicate spares_limit packet_limit

module _ (number : ℕ) (packet run : List ℕ) (newest : length packet ≡ packet_limit) (all : length run ≡ spares_limit * packet_limit) where
  long-allowed : Allowed packet kind.Spares all_long run
  unfolding sum_of items_inside
  long-allowed = record { counted = refl; summed = sym all; newest = rw newest refl; items = refl }

  long-size : length (datagram_octets (carried_of number packet kind.Spares all_long run)) ≡ full_size
  unfolding sum_of number_octets length_octets items_size
  long-size = datagram-length number packet kind.Spares all_long run (omega (arith, all)) ∙ rw newest refl

pub fits : Fits
fits =
    record {
      all_spares = λ number packet run newest all enough puts.
          room number packet kind.Spares all_long run (allowed-written number (long-allowed number packet run newest all)) enough puts
          ∙ ap Ok (long-size number packet run newest all);
      room = room;
      limited = λ number packet kind lengths run {new = new} {n = n} puts e.
          let t = puts-octets puts e in
          let short = written-short number packet kind lengths run (take n new) t.0 in
          omega (arith, t.1, short);
      sent = λ {s} {settings} {packet} {old} {new} {r} {n} arrays sends e.
          let put : Puts (to_send s settings packet) old new r.answer = record { answer = sends.answer; lent = sends.lent } in
          let t = puts-octets put e in
          let back = (sending.claims).written_right.reads arrays sends e in
          let short = read_short (take n new) back.parts back.read in
          omega (arith, t.1, short);
    }
