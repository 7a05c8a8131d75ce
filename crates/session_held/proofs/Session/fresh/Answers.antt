-- `session_held::Session::fresh` meets its contract: both stores are zeros throughout, and a call makes the table. Assumes nothing.
use Prim.Native.Nat.{ℕ}
use mathlib.Core.Path.{refl}
use lib.ListN.{length-replicate}
use Rattle.session_held.specs.Slots.{kept_octets, message_octets}
use Rattle.session_held.proofs.FreshSession.{fresh-made, replicate-at}
use Rattle.session_held.proofs.Session.fresh.Goals as goal

pub returns : goal.returns
returns c =
    fresh-made
    (record {
      base = refl;
      counts = refl;
      table = c.fresh_table.ensures;
      octets = λ k. replicate-at kept_octets 0 k;
      messages = λ k. replicate-at message_octets 0 k;
      packets_long = length-replicate {A = ℕ} kept_octets 0;
      messages_long = length-replicate {A = ℕ} message_octets 0;
    })
