-- One outcome of the calls for callers inside this repository, all but `clear_run` with a `requires` (rule 28.14): a record for each
-- crate, with a field for each call, under its name and with its promise. A further hypothesis of a field is what the call requires. The
-- calls of the second packet reader are in OnePencil. Statements only.
use Rattle.std.specs.Prelude.{ℕ, ◌/◌, ◌≡◌, Bool, not, List, ◌++◌, length, set, drop, eqb, Result}
use Rattle.length.specs.Answers.{done}
use Rattle.length.specs.Length.{length_octets}
use Rattle.length.specs.Promise.{Puts, Put}
use Rattle.length.specs.declared.Refusal.{Refusal}
use Rattle.datagram.specs.Sizes.{packet_limit}
use Rattle.datagram.specs.Write.{item_octets, items_octets, cut, datagram_octets}
use Rattle.datagram.specs.Inner.Heads as sizes
use Rattle.datagram.specs.Inner.Heads.{front_octets}
use Rattle.datagram.specs.declared.kind.Kind.{Kind}
use Rattle.datagram.specs.declared.reader.Part.{Part}
use Rattle.octets.specs.Words as words
use Rattle.session_slots.specs.Store as store
use Rattle.session.specs.Cells.{is_unknown}
use Rattle.session_held.specs.Table as table
use Rattle.session_held.specs.Table.{Lent, lent, state_numbered, kept_set, heard_set, heard_dropped, message_place, view_in}
use Rattle.session_held.specs.Laid.{lent_in_ranges}
use Rattle.session_held.specs.declared.Counts.{Counts}
use Rattle.session_offer.specs.KeepPromise.{MayKeep, Keeps, KeepsSpares, MayHold, Holds}
use Rattle.session_repair.specs.Promise.{MayMend, Mends}
use Rattle.session_release.specs.Promise.{Leaves, Releases}
use Rattle.session_release.specs.declared.Released.{Released}
use Rattle.session_offer.specs.Promise.{Offers}
use Rattle.sender.specs.Sender as sender
use Rattle.sender.specs.Ranges as sending
use Rattle.sender.specs.Inner.Held as sent
use Rattle.sender.specs.Inner.Held.{Sizes}
use Rattle.sender.specs.Inner.Items.{items_in, ItemsSize}
use Rattle.sender.specs.Inner.Next.{carried_in}
use Rattle.sender_calls.specs.Inner.{SendsHeld}
use Rattle.sender.specs.declared.Settings.{Settings}
use Rattle.line.specs.Hex.{hex_of, octets_in}
use Rattle.line.specs.Lines.{result_line, refusal_line}
use Rattle.line.specs.Promise.{Appends, Does}
use Rattle.line.specs.FeedPromise.{LineIn, LineKept}
use Rattle.line.specs.Claims.{Same}
use Rattle.line.specs.declared.steps.Stepped.{Stepped}
use Rattle.trace_replay.specs.Replay.{replay_step}
use Rattle.demands.specs.OneOutcome.OneTold.{One, OneLent}
use Rattle.demands.specs.OneOutcome.OnePencil.{InPencilReader}

-- `octets`: `add`
pub record InWords : Type 0 where
  pub add : (src old : List ℕ) → One (λ (new : List ℕ). new ≡ words.both src old)

-- `session_slots`: `put`, `clear_run`, `clear`, `zeros_in_run`, `zeros_past`, `all_zero`, `copy_out`, `add`
pub record InStores : Type 0 where
  pub put : (old : List ℕ) (slot : ℕ) (src : List ℕ) → One (λ (new : List ℕ). new ≡ store.pasted old slot src)
  pub clear_run : (old : List ℕ) → One (λ (new : List ℕ). new ≡ store.zeros (length old))
  pub clear : (old : List ℕ) (slot : ℕ) → One (λ (new : List ℕ). new ≡ store.pasted old slot (store.zeros packet_limit))
  pub zeros_in_run : (run : List ℕ) (n : ℕ) → One (λ (r : Bool). r ≡ store.zeros_from run n)
  pub zeros_past : (o : List ℕ) (slot n : ℕ) → One (λ (r : Bool). r ≡ store.zeros_past o slot n)
  pub all_zero : (o : List ℕ) (slot : ℕ) → One (λ (r : Bool). r ≡ store.zeros_past o slot 0)
  pub copy_out : (o : List ℕ) (slot n : ℕ) (old : List ℕ) → One (λ (new : List ℕ). new ≡ store.part o slot n ++ drop n old)
  pub add : (o : List ℕ) (slot : ℕ) (old : List ℕ) → One (λ (new : List ℕ). new ≡ store.added old o slot)

-- `datagram_writer`: the item writers, and the sizes of items
pub record InDatagrams : Type 0 where
  pub put_octets : (octets old : List ℕ) → OneLent (Put octets old)
  pub put_length : (n : ℕ) (old : List ℕ) → OneLent (Put (length_octets n) old)
  pub put_item : (item old : List ℕ) → OneLent (Put (item_octets item) old)
  pub put_front : (number : ℕ) (packet : List ℕ) (kind : Kind) (count : ℕ) (old : List ℕ)
      → OneLent (Put (front_octets number packet kind count) old)
  pub put_items : (lengths run old : List ℕ) → OneLent (Put (items_octets (cut lengths run)) old)
  pub item_size : (n : ℕ) → One (λ (r : ℕ). r ≡ sizes.item_size n)
  pub items_size : (lengths : List ℕ) → One (λ (r : ℕ). r ≡ sizes.items_size lengths)

-- `session_held`: a slot of the table is read, and written
pub record InHeld : Type 0 where
  pub state_at : (t : List ℕ) (slot : ℕ) → One (λ (r : ℕ). r ≡ table.state_in t slot)
  pub size_at : (t : List ℕ) (slot : ℕ) → One (λ (r : ℕ). r ≡ table.size_in t slot)
  pub note_at : (t : List ℕ) (slot : ℕ) → One (λ (r : ℕ). r ≡ table.note_in t slot)
  pub is_known : (t : List ℕ) (slot : ℕ) → One (λ (r : Bool). r ≡ not (is_unknown (state_numbered (table.state_in t slot))))
  pub mark_at : (t : List ℕ) (slot : ℕ) → One (λ (r : ℕ). r ≡ table.mark_in t slot)
  pub accepted_at : (t : List ℕ) (slot : ℕ) → One (λ (r : Bool). r ≡ eqb (table.mark_in t slot) 1)
  pub n_at : (t : List ℕ) (slot : ℕ) → One (λ (r : ℕ). r ≡ table.n_in t slot)
  pub m_at : (t : List ℕ) (slot : ℕ) → One (λ (r : ℕ). r ≡ table.m_in t slot)
  pub message_size_at : (t : List ℕ) (slot : ℕ) → One (λ (r : ℕ). r ≡ table.message_size_in t slot)
  pub set_kept : (t : List ℕ) (slot state size note : ℕ) → One (λ (new : List ℕ). new ≡ kept_set t slot state size note)
  pub set_heard : (t : List ℕ) (slot n m : ℕ) → One (λ (new : List ℕ). new ≡ heard_set t slot 1 n m)
  pub set_message_size : (t : List ℕ) (slot size : ℕ) → One (λ (new : List ℕ). new ≡ set t (message_place slot) size)
  pub drop_heard : (t : List ℕ) (slot : ℕ) → One (λ (new : List ℕ). new ≡ heard_dropped t slot)

-- the receiving session: `session_check::in_ranges`; `keep`, `keep_spares`, `hold` and `offer_core` of `session_offer`;
-- `session_repair::mend`; `leave_core` and `release_core` of `session_release`. All memory after a call is equal, base and counts too
pub record InReceiving : Type 0 where
  pub in_ranges : (base : ℕ) (counts : Counts) (t o g : List ℕ) → One (λ (r : Bool). r ≡ lent_in_ranges (lent base counts t o g))
  pub keep : (note state number : ℕ) (b t o : List ℕ) → MayKeep number 0 t o
      → OneLent (λ (new_o new_t : List ℕ). Keeps note state number b t o new_t new_o)
  pub keep_spares : (number : ℕ) (octets : List ℕ) (items : List Part) (count : ℕ) (t o : List ℕ) → MayKeep number count t o
      → OneLent (λ (new_o new_t : List ℕ). KeepsSpares number octets items count t o new_t new_o)
  pub hold : (base d : ℕ) (octets : List ℕ) (n : ℕ) (items : List Part) (count : ℕ) (t g : List ℕ) → MayHold base t g d
      → OneLent (λ (new_g new_t : List ℕ). Holds base d octets n items count t g new_t new_g)
  pub mend : (note base : ℕ) (t o g : List ℕ) → MayMend base t o g
      → OneLent (λ (new_o new_t : List ℕ). Mends note base t o g new_t new_o)
  pub leave_core : {leave : Bool} {room : ℕ} {before after other : Lent} {r q : Result Released Refusal} → Leaves leave room before after r
      → Leaves leave room before other q
      → (r ≡ q) × (after ≡ other)
  pub release_core : {leave : Bool} {before after other : Lent} {old new newer : List ℕ} {r q : Result Released Refusal}
      → Releases leave before after old new r → Releases leave before other old newer q
      → (r ≡ q) × (after ≡ other) × (new ≡ newer)
  pub offer_core : {octets : List ℕ} {before after other : Lent} {r q : Result (Unit {0}) Refusal} → Offers octets before after r
      → Offers octets before other q
      → (r ≡ q) × (after ≡ other)

-- the same answer, and the same history as it is held: lengths and octets
pub record SameHistory {A : Type 0} (r q : A) (s l o p : List ℕ) : Type 0 where
  pub answer : r ≡ q
  pub lengths : s ≡ l
  pub octets : o ≡ p

-- the sending session: `size_in`, `in_ranges`, `keep`, `items_size`, `put_items` and `write_next` of `sender_history`; `send_held` of
-- `sender_calls`
pub record InSending : Type 0 where
  pub size_in : (lengths : List ℕ) (slot : ℕ) → One (λ (r : ℕ). r ≡ sender.length_in lengths slot)
  pub in_ranges : (sent : ℕ) (lengths o : List ℕ) → One (λ (r : Bool). r ≡ sending.history_in_ranges sent lengths o)
  pub keep : (number : ℕ) (packet lengths o : List ℕ) → OneLent (sent.Joins number packet lengths o)
  pub items_size : (kind : Kind) (count number : ℕ) (lengths : List ℕ) → Sizes lengths → One (ItemsSize kind count number lengths)
  pub put_items : (kind : Kind) (count number : ℕ) (lengths o old : List ℕ)
      → OneLent (Put (items_octets (items_in kind count number lengths o)) old)
  pub write_next : (number : ℕ) (lengths o packet : List ℕ) (kind : Kind) (count : ℕ) (old : List ℕ)
      → OneLent (Puts (done (datagram_octets (carried_in number lengths o packet kind count))) old)
  pub send_held : {sent : ℕ} {settings : Settings} {packet lengths o old : List ℕ} {r q : Result ℕ Refusal}
      {new_s new_o new other_s other_o other : List ℕ}
      → SendsHeld sent settings packet lengths o old new_s new_o new r
      → SendsHeld sent settings packet lengths o old other_s other_o other q
      → (SameHistory r q new_s other_s new_o other_o) × (new ≡ other)

-- the program: `put_digits` and `pair_up` of `line_hex`; `put_kept` (a result line, of any octets), `put_refusal`, `keep_line` and
-- `clear_line` of `line_code`; `replay_line` of `trace_replay_code`
pub record InLines : Type 0 where
  pub put_digits : (octets old : List ℕ) (at : ℕ) → OneLent (Appends (hex_of octets) old at)
  pub pair_up : (line old : List ℕ) → One (λ (new : List ℕ). new ≡ octets_in line ++ drop (length line / 2) old)
  pub put_kept : (kind number : ℕ) (octets old : List ℕ) (at : ℕ) → OneLent (Appends (result_line kind number octets) old at)
  pub put_refusal : (why : Refusal) (old : List ℕ) (at : ℕ) → OneLent (Appends (refusal_line why) old at)
  pub keep_line : (old : List ℕ) (begun : ℕ) (more : List ℕ) → OneLent (LineKept old begun more)
  pub clear_line : One (λ (new : List ℕ). LineIn new 0)
  pub replay_line : (numbers line : List ℕ) (before : Lent) {old : List ℕ} {at : ℕ} {r q : Stepped} {t u o p g k new written : List ℕ}
      → Does (replay_step numbers line (view_in before)) old at (lent r.base r.counts t o g) r.end new
      → Does (replay_step numbers line (view_in before)) old at (lent q.base q.counts u p k) q.end written
      → Same r q (lent r.base r.counts t o g) (lent q.base q.counts u p k) new written

pub record OneInside : Type 0 where
  pub in_words : InWords
  pub in_stores : InStores
  pub in_datagrams : InDatagrams
  pub in_held : InHeld
  pub in_receiving : InReceiving
  pub in_sending : InSending
  pub in_lines : InLines
  pub in_pencil_reader : InPencilReader
