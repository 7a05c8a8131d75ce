-- Two outcomes of a call that serves callers inside this repository are one. Most promises are equations. Assumes
-- nothing.
use Rattle.std.proofs.Common.{Result, Ok, Err}
use Prim.Native.Nat.{ℕ, ◌%◌, ◌<◌}
use mathlib.Core.Path.{◌≡◌, refl, sym, ap, subst, ◌∙◌}
use mathlib.Core.Logic.{⊎_elim}
use mathlib.Core.List.{List}
use lib.ListN.{length, get_or, take}
use lib.Seq.{ext_get_or, get_or-take}
use native.Mathlib.Omega.{arith}
use Rattle.octets.proofs.Laws.{below_or_not}
use Rattle.length.specs.declared.Refusal.{Refusal}
use Rattle.length.specs.Answers.{Answer}
use Rattle.length.specs.Promise.{Puts, Put}
use Rattle.length.proofs.Claims as lengths
use Rattle.datagram.specs.declared.kind.Kind.{Kind}
use Rattle.session_slots.specs.Store.{zeros}
use Rattle.session_slots.proofs.Laws.{length-zeros, zeros-at, zeros_past-zeros}
use Rattle.session.specs.View.{numbers}
use Rattle.sender.specs.Sender.{history_octets}
use Rattle.sender.specs.Inner.Held.{Sizes, Stored}
use Rattle.sender.specs.Inner.Items.{ItemsSize}
use Rattle.sender_calls.specs.Inner.{HistoryAfter, SendsHeld}
use Rattle.sender.specs.declared.Settings.{Settings}
use Rattle.line.specs.Promise.{Appends}
use Rattle.line.specs.FeedPromise.{LineIn, LineKept}
use Rattle.line.proofs.Laws.{begun-length}
use Rattle.line.proofs.Claims as lines
use Rattle.demands.specs.OneOutcome.OneTold.{OneLent}
use Rattle.demands.specs.OneOutcome.OneInside.{SameHistory, InWords, InStores, InDatagrams, InSending, InLines, OneInside}
use Rattle.demands.proofs.OneTold.{told-one}
use Rattle.demands.proofs.OneReceiving.{in_held, in-receiving}
use Rattle.demands.proofs.OnePencil.{in-pencil-reader}

in-words : InWords
in-words = record { add = λ src old. told-one }

in-stores : InStores
in-stores =
    record {
      put = λ old slot src. told-one;
      clear_run = λ old. told-one;
      clear = λ old slot. told-one;
      zeros_in_run = λ run n. told-one;
      zeros_past = λ o slot n. told-one;
      all_zero = λ o slot. told-one;
      copy_out = λ o slot n old. told-one;
      add = λ o slot old. told-one;
    }

-- ---- writers
put_one : {octets old : List ℕ} → OneLent (Put octets old)
put_one new other r q a b = (a.answer ∙ sym b.answer, a.lent ∙ sym b.lent)

puts_one : {w : Answer (List ℕ)} {old : List ℕ} → OneLent (Puts w old)
puts_one new other r q a b = (lengths.one-outcome).written a b

appends-one : {text old : List ℕ} {at : ℕ} → OneLent (Appends text old at)
appends-one new other r q a b = (a.after ∙ sym b.after, a.lent ∙ sym b.lent)

in-datagrams : InDatagrams
in-datagrams =
    record {
      put_octets = λ octets old. put_one;
      put_length = λ n old. put_one;
      put_item = λ item old. put_one;
      put_front = λ number packet kind count old. put_one;
      put_items = λ lengths run old. put_one;
      item_size = λ n. told-one;
      items_size = λ lengths. told-one;
    }

-- ---- the program
-- the lent line is told by the line that has begun
module _ {l m : List ℕ} {begun kept : ℕ} (a : LineIn l begun) (b : LineIn m kept) (front : take begun l ≡ take kept m) where
  begun-one : begun ≡ kept
  begun-one = sym (begun-length a) ∙ ap length front ∙ begun-length b

  line-one : l ≡ m
  line-one =
      ext_get_or 0 l m (sym a.size ∙ b.size)
      (λ i inside.
      ⊎_elim
      (λ low.
      let also : i < kept = omega (arith, begun-one) in
      sym (get_or-take begun l i 0 low) ∙ ap (λ (x : List ℕ). get_or x i 0) front ∙ get_or-take kept m i 0 also)
      (λ past. a.zeros i past ∙ sym (b.zeros i (omega (arith, begun-one))))
      (below_or_not i begun))

keep-line-one : {old : List ℕ} {begun : ℕ} {more : List ℕ} → OneLent (LineKept old begun more)
keep-line-one new other r q a b =
    let front = a.line ∙ sym b.line in
    (begun-one a.holds b.holds front, line-one a.holds b.holds front)

in_lines : InLines
in_lines =
    record {
      put_digits = λ octets old at. appends-one;
      pair_up = λ line old. told-one;
      put_kept = λ kind number octets old at. appends-one;
      put_refusal = λ why old at. appends-one;
      keep_line = λ old begun more. keep-line-one;
      clear_line = λ r q a b. line-one a b refl;
      replay_line = λ numbers line before a b. (lines.claims).one_outcome.step a b;
    }

-- ---- the sending session
-- an empty store goes with any sizes
empty-stored : (lengths : List ℕ) → Sizes lengths → Stored lengths (zeros history_octets)
empty-stored lengths sizes =
    record {
      lengths = sizes;
      octets = length-zeros history_octets;
      clean = λ i small. zeros_past-zeros (zeros history_octets) i _ (zeros-at history_octets);
    }

items-size-one : (kind : Kind) (count number : ℕ) (lengths : List ℕ) → Sizes lengths → (r q : ℕ) → ItemsSize kind count number lengths r
    → ItemsSize kind count number lengths q → r ≡ q
items-size-one kind count number lengths sizes r q a b =
    let stored = empty-stored lengths sizes in
    a.answer (zeros history_octets) stored ∙ sym (b.answer (zeros history_octets) stored)

history-one : (w : Result ℕ Refusal) (number : ℕ) (packet lengths o new_s new_o other_s other_o : List ℕ)
    → HistoryAfter w number packet lengths o new_s new_o → HistoryAfter w number packet lengths o other_s other_o
    → (new_s ≡ other_s) × (new_o ≡ other_o)
history-one (Ok n) number packet lengths o new_s new_o other_s other_o a b =
    (a.size ∙ sym b.size, a.octets ∙ sym b.octets)
history-one (Err why) number packet lengths o new_s new_o other_s other_o a b = (a.0 ∙ sym b.0, a.1 ∙ sym b.1)

module _ {sent : ℕ} {settings : Settings} {packet lengths o old : List ℕ} {r q : Result ℕ Refusal} {new_s new_o new other_s other_o other : List ℕ}
    (a : SendsHeld sent settings packet lengths o old new_s new_o new r)
    (b : SendsHeld sent settings packet lengths o old other_s other_o other q) where
  send-one : (SameHistory r q new_s other_s new_o other_o) × (new ≡ other)
  send-one =
      let puts = puts_one new other r q a.puts b.puts in
      let after = subst (λ (w : Result ℕ Refusal). HistoryAfter w (sent % numbers) packet lengths o other_s other_o) (sym puts.0) b.history in
      let kept = history-one r (sent % numbers) packet lengths o new_s new_o other_s other_o a.history after in
      (record { answer = puts.0; lengths = kept.0; octets = kept.1 }, puts.1)

in-sending : InSending
in-sending =
    record {
      size_in = λ lengths slot. told-one;
      in_ranges = λ sent lengths o. told-one;
      keep = λ number packet lengths o new other r q a b. (a.octets ∙ sym b.octets, a.size ∙ sym b.size);
      items_size = items-size-one;
      put_items = λ kind count number lengths o old. put_one;
      write_next = λ number lengths o packet kind count old. puts_one;
      send_held = λ a b. send-one a b;
    }

pub one_inside : OneInside
one_inside =
    record {
      in_words = in-words;
      in_stores = in-stores;
      in_datagrams = in-datagrams;
      in_held = in_held;
      in_receiving = in-receiving;
      in_sending = in-sending;
      in_lines = in_lines;
      in_pencil_reader = in-pencil-reader;
    }
