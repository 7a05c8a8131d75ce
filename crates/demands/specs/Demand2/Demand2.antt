-- Demand 2. Reading and writing follow T.38 Annex A of the named edition in the aligned packed encoding (rule 28.3): this is what the
-- readers and writers promise (LengthRead, DatagramReads, ReadBy, Puts), since their answers are those of the definitions `length_at`,
-- `read_datagram` and `read_packet`, `length_to_write`, `datagram_to_write` and `packet_to_write`. What is written reads back to the same
-- fields, and what is read as received writes back to the same octets (rule 28.4). In a session fresh at its start the known numbers are
-- exactly those reached from arrived, spare and parity octets, and those that solving fixed (rule 28.5). Numbers leave in order, each place
-- once, released or lost, and the counts match the history (rule 28.6). A session saved within its ranges goes on from what it holds, each
-- call as the rules say (rule 28.7). Statements only.
use Rattle.std.specs.Prelude.{ℕ, ◌+◌, ◌-◌, ◌%◌, ◌≤◌, ◌<◌, ◌≡◌, ◌↔◌, true, ◌||◌, length, get_or}
use mathlib.Core.List.{List, [], map, Memᴰ as Among}
use Rattle.std.proofs.Math.Option.{some}
use Rattle.octets.specs.Place.{tab}
use Rattle.length.specs.Refusals.{outside_ranges}
use Rattle.length.specs.Answers.{written_outcome}
use Rattle.length.specs.Tables.{refusal_in}
use Rattle.session.specs.Cells.{unknown, cell_at, kept_before, kept_numbers}
use Rattle.session.specs.Reached.{Known}
use Rattle.session.specs.View.{View, Counts, sum, numbers, fresh_view}
use Rattle.session_held.specs.Table.{view_of}
use Rattle.session_held.specs.Laid.{session_in_ranges}
use Rattle.session_held.specs.Promise.{Sized, Fresh}
use Rattle.session_held.specs.declared.Session.{Session}
use Rattle.sender.specs.Promise.{Sends}
use Rattle.sender.specs.declared.Sender.{Sender}
use Rattle.sender.specs.declared.Sent.{Sent}
use Rattle.sender.specs.declared.Settings.{Settings}
use Rattle.demands.specs.Common.History.{Left, left_as, is_received, is_spare, is_repaired, is_lost, history_counts}
use Rattle.demands.specs.Common.Calls.{Call, Calls, ◌then◌, Called, call_refusal, left_by}
use Rattle.demands.specs.Demand2.GoesOn.{GoesOn}
use Rattle.demands.specs.Demand2.ReachedBy.{gone, ReachedBy}
use Rattle.demands.specs.Demand2.NotedBy.{NotedBy, LeftNoted}
use Rattle.demands.specs.Demand2.SendChain.{SenderBegins, SentFrom}
use Rattle.demands.specs.Demand2.RoundTrips.{RoundTrips}

-- ---- where a chain of calls begins
-- a session saved within its ranges; every value of the struct's type has arrays of the right lengths (`Sized`)
pub record Saved (s : Session) : Type 0 where
  pub sized : Sized s
  pub in_ranges : session_in_ranges s ≡ true

-- a session fresh at its start, or a saved one
pub data Begins (s : Session) : Type 0 where
  fresh : Fresh s → Begins s
  saved : Saved s → Begins s

-- ---- numbers leave in order, each place once, released or lost, and the counts match the history (rule 28.6)

-- released as received, spare or repaired, or lost
abbrev pub OneKind : Left → Type 0
OneKind x = (is_received x.kind || (is_spare x.kind || (is_repaired x.kind || is_lost x.kind))) ≡ true

-- the counts grown by others
abbrev pub grown : Counts → Counts → Counts
grown c more =
    record {
      received = c.received + more.received;
      spare = c.spare + more.spare;
      repaired = c.repaired + more.repaired;
      lost = c.lost + more.lost;
    }

-- what left a session, and how that moved its base and its counts
pub record SavedLeaves (before : View) (left : List Left) (after : View) : Type 0 where
  -- in order, each place once: the j-th number to leave, from 0, is the base plus j, modulo 65,536
  pub in_order : map (λ (x : Left). x.number) left ≡ tab (length left) (λ j. (before.base + j) % numbers)
  pub kinds : (x : Left) → Among x left → OneKind x
  -- each count grew by how many numbers left so (rule 9.11)
  pub counts : after.counts ≡ grown before.counts (history_counts left)
  -- their sum grew by how many numbers left, and the base advanced by as many (rules 9.11 and 12.5)
  pub advance : sum after.counts ≡ sum before.counts + length left
  pub base : after.base ≡ (before.base + length left) % numbers

-- the same for a session fresh at its start: from base 0 and counts of zero (rule 9.1)
abbrev pub FreshLeaves : List Left → View → Type 0
FreshLeaves left after = SavedLeaves fresh_view left after

-- ---- what is known is never written over (rule 9.9)

-- a number that is known at place p of the view, and what became of it by calls that made these numbers leave
pub record StaysKnown (before : View) (left : List Left) (after : View) (p : ℕ) : Type 0 where
  -- as long as it is in view it keeps its kind, its octets and its note
  pub stays : length left ≤ p → cell_at after.cells (p - length left) ≡ cell_at before.cells p
  -- from the base on it leaves in its turn, released with that kind, that note and those octets
  pub leaves : kept_before ≤ p → p < kept_before + length left
      → get_or left (p - kept_before) (left_as unknown 0 0 [])
      ≡ left_as (cell_at before.cells p).state ((before.base + (p - kept_before)) % numbers) (cell_at before.cells p).note
      (cell_at before.cells p).octets

-- ---- the demand: of every chain of public calls, whatever they returned, refusals included
pub record Demand2 : Type 0 where
  -- what is written reads back to the same fields, and what is read as received writes back to the same octets (rule 28.4)
  pub round_trips : RoundTrips
  -- in a session fresh at its start the known numbers are exactly those that the calls reached: by arrived packets and spares, by repair,
  -- and by solving (rule 28.5). Place p of the view is the session's place `gone calls + p`
  pub known_numbers : {s t : Session} {calls : Calls} → Fresh s → Called s calls t → (p : ℕ) → p < kept_numbers
      → Known (view_of t).cells p ↔ ReachedBy calls (gone calls + p)
  -- each known number keeps the number of the datagram whose offer reached it first, and each release returns it (rules 9.5, 9.8 and
  -- 12.2); the note is 0 if solving filled the number (rule 14.3). The calls determine one note for each place
  pub notes : {s t : Session} {calls : Calls} → Fresh s → Called s calls t → (p : ℕ) → p < kept_numbers → Known (view_of t).cells p
      → NotedBy calls (gone calls + p) (cell_at (view_of t).cells p).note
  pub left_notes : {s t : Session} {calls : Calls} → Fresh s → Called s calls t → LeftNoted calls (left_by calls)
  pub one_note : {calls : Calls} {P n m : ℕ} → NotedBy calls P n → NotedBy calls P m → n ≡ m
  -- numbers leave in order, each place once, released or lost, and the counts match the history (rule 28.6)
  pub leaves : {s t : Session} {calls : Calls} → Fresh s → Called s calls t → FreshLeaves (left_by calls) (view_of t)
  pub saved_leaves : {s t : Session} {calls : Calls} → Saved s → Called s calls t
      → SavedLeaves (view_of s) (left_by calls) (view_of t)
  -- what is known is never written over, whatever calls come after (rule 9.9)
  pub keeps : {s t u : Session} {calls more : Calls} → Begins s → Called s calls t → Called t more u
      → (p : ℕ) → p < kept_numbers → Known (view_of t).cells p
      → StaysKnown (view_of t) (left_by more) (view_of u) p
  -- a session saved within its ranges goes on from what it holds, each call as the rules say (rule 28.7); so does one fresh at its start,
  -- which determines kind and octets of all that it releases
  pub goes_on : {s t : Session} {calls : Calls} → Begins s → Called s calls t → GoesOn (view_of s) calls (view_of t)
  -- no session in such a chain is ever refused with 17, the first included: the receiving session's (rules 9.12 and 13.13), and the
  -- sending session's (rule 15.17)
  pub never17 : {s t : Session} {calls : Calls} {call : Call} → Begins s → Called s (calls then call) t
      → call_refusal call ≡ some outside_ranges
      → ⊥
  pub send_never17 : {s t : Sender} {settings : Settings} {packet old new : List ℕ} {r : Sent} → SenderBegins s → SentFrom s t
      → Sends t settings packet old new r
      → refusal_in (written_outcome r.answer) ≡ some outside_ranges
      → ⊥
