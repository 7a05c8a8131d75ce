-- What the sender of a transfer writes: the datagram of each packet carries the k packets before it, or as many as there are. Assumes
-- nothing.
use Rattle.std.proofs.Common.{Ok}
use Prim.Native.Nat.{ℕ, suc, ◌+◌, ◌-◌, ◌≤◌, ◌<◌, min}
use mathlib.Core.Path.{◌≡◌, sym, ap, subst, ◌∙◌}
use mathlib.Core.List.{List, [], ◌∷◌, ◌++◌}
use lib.ListN.{length, get_or, take, replicate}
use lib.Seq.{get_or-append-add}
use native.Mathlib.Omega.{arith}
use borrow.Author.Tests.{leb-true}
use Rattle.octets.proofs.Laws.{length-tab, tab-at}
use Rattle.datagram.specs.Sizes.{spares_limit}
use Rattle.datagram.specs.Claims.{ReadsAs}
use Rattle.session.specs.View.{session_limit}
use Rattle.sender.specs.Sending.{Sending, history_kept}
use Rattle.sender.specs.Carries.{spares_from}
use Rattle.sender.specs.Send.{packet_of, carried_next}
use Rattle.sender.specs.Honest.{packet_at}
use Rattle.sender.specs.Promise.{Sends}
use Rattle.sender.specs.Run.{Run, fresh, sent, refused}
use Rattle.sender.specs.declared.Sender.{Sender}
use Rattle.sender.specs.declared.Sent.{Sent}
use Rattle.sender.specs.declared.Settings.TheVariants as settings
use Rattle.sender.proofs.Laws.{before-length, sending_after, RunHolds, sent-says}
use Rattle.sender.proofs.Claims as sending
use Rattle.sender_to_modem.specs.Transfer.{Transfer, Ran, begins, refuses, loses, brings}
use Rattle.sender_to_modem.proofs.Offered.{spares_at}

-- a transfer's sends are a chain of sends
pub sender-run : {k : ℕ} {x : Transfer} → Ran k x → (datagrams : List (List ℕ)) × Run x.sender x.packets datagrams
sender-run (begins made at-start) = ([], fresh made)
sender-run (refuses ran sends e) = let before = sender-run ran in (before.0, refused before.1 sends e)
sender-run (loses {new = new} {n = n} ran sends e) =
    let before = sender-run ran in
    (before.0 ++ (take n new ∷ []), sent before.1 sends e)
sender-run (brings {new = new} {n = n} ran sends e owes drained) =
    let before = sender-run ran in
    (before.0 ++ (take n new ∷ []), sent before.1 sends e)

-- the spares of the datagram after a row of packets
abbrev pub copies_of : ℕ → List (List ℕ) → List (List ℕ)
copies_of k row = spares_from (min k (length row)) (packet_of (sending_after row).history) history_kept

pub copies-long : (k : ℕ) (row : List (List ℕ)) → length (copies_of k row) ≡ min k (length row)
unfolding spares_from
copies-long k row = length-tab (min k (length row)) (λ j. packet_of (sending_after row).history (history_kept - suc j))

-- number i of the row stands history_kept places on
packet-at : (row : List (List ℕ)) (i : ℕ) → packet_at row (history_kept + i) ≡ get_or row i []
unfolding packet_at
packet-at row i =
    ap (λ (n : ℕ). get_or (replicate history_kept [] ++ row) (n + i) []) (sym before-length)
    ∙ get_or-append-add (replicate history_kept []) row i []

-- the j-th spare, from 0, is the packet j + 1 before
pub copies_at : (k : ℕ) (row : List (List ℕ)) → k ≤ spares_limit → (j : ℕ) → j < min k (length row)
    → get_or (copies_of k row) j [] ≡ get_or row (length row - suc j) []
unfolding spares_from
copies_at k row few j low =
    let place : length row + (history_kept - suc j) ≡ history_kept + (length row - suc j) = omega arith in
    tab-at (min k (length row)) (λ i. packet_of (sending_after row).history (history_kept - suc i)) j [] low
    ∙ tab-at history_kept (λ p. packet_at row (length row + p)) (history_kept - suc j) [] (omega arith)
    ∙ ap (packet_at row) place
    ∙ packet-at row (length row - suc j)

-- what an accepted send of the chain wrote
pub record SentAs (k : ℕ) (row : List (List ℕ)) (packet octets : List ℕ) : Type 0 where
  pub few : k ≤ spares_limit
  pub free : length row < session_limit
  pub reads : ReadsAs octets (spares_at (length row) packet (copies_of k row))

pub sent-as : {k : ℕ} {s : Sender} {row datagrams : List (List ℕ)} {packet old new : List ℕ} {r : Sent} {n : ℕ} → RunHolds s row datagrams
    → Sends s (settings.Spares k) packet old new r → r.answer ≡ Ok n → SentAs k row packet (take n new)
sent-as {k} {s} {row} {datagrams} {packet} {old} {new} {r} {n} holds sends e =
    let allowed = (sent-says sends e).allowed in
    let count = ap (λ (z : Sending). z.sent) holds.state in
    record {
      few = leb-true k spares_limit allowed.inside;
      free = omega (arith, count, allowed.free);
      reads =
          subst (λ (z : Sending). ReadsAs (take n new) (carried_next (settings.Spares k) packet z)) holds.state
          ((sending.claims).written_right.reads holds.proper.arrays sends e);
    }
