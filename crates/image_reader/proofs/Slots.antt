-- What stands in a slot after a number was laid in it, and that every other slot is as it was. Assumes nothing.
use Rattle.std.proofs.Common.{◌≡◌, ℕ, ◌<◌, ◌≤◌, Bool, true, false, ltb, List, length, get_or, set, refl, ap, ◌∙◌, arith, length-set, get_or-set_other, get_or-set_same, ltb-false, ltb-true}
use Rattle.datagram.specs.Sizes.{packet_limit, messages_limit}
use Rattle.format.specs.Format.{flag_bit}
use Rattle.session_slots.specs.Store.{HasSlot, pasted, zeros_past}
use Rattle.session_slots.proofs.Laws.{part-pasted, part-pasted-other, zeros_past-pasted, zeros_past-other}
use Rattle.session.specs.Cells.{Cell}
use Rattle.session.specs.Held.{Held}
use Rattle.session_held.specs.Slots.{slots_kept, slots_heard, message_slot}
use Rattle.session_held.specs.Table.{places, last_state, state_place, size_place, note_place, mark_place, n_place, m_place, message_place}
use Rattle.session_held.specs.Table.{state_numbered}
use Rattle.session_held.specs.Table.{state_in, kept_set, heard_set}
use Rattle.session_held.proofs.Laws.{kept-elsewhere}
use Rattle.image_reader.specs.Laying.{KeptIs, MessagesAre, HeldIs}

-- ---- where the table is written
heard-elsewhere : (t : List ℕ) (j mark n m k : ℕ) → (k ≡ mark_place j → ⊥) → (k ≡ n_place j → ⊥) → (k ≡ m_place j → ⊥)
    → get_or (heard_set t j mark n m) k 0 ≡ get_or t k 0
heard-elsewhere t j mark n m k no-mark no-n no-m =
    get_or-set_other (set (set t (mark_place j) mark) (n_place j) n) (m_place j) k m 0 no-m
    ∙ get_or-set_other (set t (mark_place j) mark) (n_place j) k n 0 no-n
    ∙ get_or-set_other t (mark_place j) k mark 0 no-mark

-- ---- kept numbers
module _ (t o : List ℕ) (i state note : ℕ) (b : List ℕ) (long : length t ≡ places) (small : i < slots_kept) (has : HasSlot i o)
    (fits : length b ≤ packet_limit) where
  -- in a slot that held no octets
  pub kept_here : state ≤ last_state → zeros_past o i 0 ≡ true → KeptIs (kept_set t i state (length b) note) (pasted o i b) i
      (record { state = state_numbered state; octets = b; note = note })
  kept_here last clean =
      let one = set t (state_place i) state in
      let two = set one (size_place i) (length b) in
      let state-is : state_in (kept_set t i state (length b) note) i ≡ state
      = get_or-set_other two (note_place i) (state_place i) note 0 (λ e. omega arith)
      ∙ get_or-set_other one (size_place i) (state_place i) (length b) 0 (λ e. omega arith)
      ∙ get_or-set_same t (state_place i) state 0 (omega arith) in
      record {
        last = rw state-is last;
        state = ap state_numbered state-is;
        size =
            get_or-set_other two (note_place i) (size_place i) note 0 (λ e. omega arith)
            ∙ get_or-set_same one (size_place i) (length b) 0 (omega (arith, length-set t (state_place i) state));
        note =
            get_or-set_same two (note_place i) note 0
            (omega (arith, length-set t (state_place i) state, length-set one (size_place i) (length b)));
        fits = fits;
        octets = part-pasted o i b has fits;
        past = zeros_past-pasted o i b has fits clean;
      }

  pub kept-other : {k : ℕ} {c : Cell} → k < slots_kept → (k ≡ i → ⊥) → HasSlot k o → KeptIs t o k c
      → KeptIs (kept_set t i state (length b) note) (pasted o i b) k c
  kept-other {k} {c} low other there is =
      let size = length b in
      let state-is = kept-elsewhere t i state size note (state_place k) other (λ e. omega arith) (λ e. omega arith) in
      record {
        last = rw state-is is.last;
        state = ap state_numbered state-is ∙ is.state;
        size =
            kept-elsewhere t i state size note (size_place k) (λ e. omega arith) (λ e. other (omega arith)) (λ e. omega arith)
            ∙ is.size;
        note =
            kept-elsewhere t i state size note (note_place k) (λ e. omega arith) (λ e. omega arith) (λ e. other (omega arith))
            ∙ is.note;
        fits = is.fits;
        octets = part-pasted-other o i b has fits k (length c.octets) there is.fits other ∙ is.octets;
        past = zeros_past-other o i b has fits k (length c.octets) other ∙ is.past;
      }

-- what stands in the table before the marks is all that they need of it
pub kept_same : {t new o : List ℕ} {i : ℕ} {c : Cell} → i < slots_kept → ((k : ℕ) → k < mark_place 0 → get_or new k 0 ≡ get_or t k 0)
    → KeptIs t o i c → KeptIs new o i c
kept_same {t} {new} {o} {i} {c} small same is =
    let state-is = same (state_place i) (omega arith) in
    record {
      last = rw state-is is.last;
      state = ap state_numbered state-is ∙ is.state;
      size = same (size_place i) (omega arith) ∙ is.size;
      note = same (note_place i) (omega arith) ∙ is.note;
      fits = is.fits;
      octets = is.octets;
      past = is.past;
    }

-- ---- messages: what stands in the table from their sizes on
pub messages-same : {t new g : List ℕ} (j : ℕ) (x : List (List ℕ)) → ((k : ℕ) → message_place 0 ≤ k → get_or new k 0 ≡ get_or t k 0)
    → MessagesAre t g j x → MessagesAre new g j x
messages-same {t} {new} {g} j x same are i low =
    record {
      size = same (message_place (message_slot j i)) (omega arith) ∙ (are i low).size;
      fits = (are i low).fits;
      octets = (are i low).octets;
      past = (are i low).past;
    }

-- ---- what is held
-- another mark, n and m in the slot
flag-back : (mark : ℕ) → mark ≤ 1 → mark ≡ flag_bit (ltb 0 mark)
flag-back mark few = by (ltb 0 mark) refl where
  by : (b : Bool) → ltb 0 mark ≡ b → mark ≡ flag_bit b
  by true e = omega (arith, ltb-true 0 mark e)
  by false e = omega (arith, ltb-false 0 mark e)

pub held-here : (t g : List ℕ) (j mark n m : ℕ) (x : List (List ℕ)) → length t ≡ places → j < slots_heard → mark ≤ 1 → m ≡ length x
    → m ≤ messages_limit → MessagesAre t g j x
    → HeldIs (heard_set t j mark n m) g j (record { accepted = ltb 0 mark; n = n; messages = x })
held-here t g j mark n m x long small few counted most are =
    let one = set t (mark_place j) mark in
    let two = set one (n_place j) n in
    record {
      mark =
          get_or-set_other two (m_place j) (mark_place j) m 0 (λ e. omega arith)
          ∙ get_or-set_other one (n_place j) (mark_place j) n 0 (λ e. omega arith)
          ∙ get_or-set_same t (mark_place j) mark 0 (omega arith)
          ∙ flag-back mark few;
      n =
          get_or-set_other two (m_place j) (n_place j) m 0 (λ e. omega arith)
          ∙ get_or-set_same one (n_place j) n 0 (omega (arith, length-set t (mark_place j) mark));
      m =
          get_or-set_same two (m_place j) m 0 (omega (arith, length-set t (mark_place j) mark, length-set one (n_place j) n))
          ∙ counted;
      few = omega arith;
      messages =
          messages-same j x
          (λ k past. heard-elsewhere t j mark n m k (λ e. omega arith) (λ e. omega arith) (λ e. omega arith)) are;
    }

pub held-other : (t g new_t new_g : List ℕ) (j mark n m e : ℕ) (h : Held) → e < slots_heard → (e ≡ j → ⊥) → j < slots_heard
    → ((k : ℕ) → k < message_place 0 → get_or new_t k 0 ≡ get_or t k 0)
    → (MessagesAre t g e h.messages → MessagesAre new_t new_g e h.messages)
    → HeldIs t g e h → HeldIs (heard_set new_t j mark n m) new_g e h
held-other t g new_t new_g j mark n m e h low other small same are is =
    let away = heard-elsewhere new_t j mark n m in
    record {
      mark =
          away (mark_place e) (λ x. other (omega arith)) (λ x. omega arith) (λ x. omega arith)
          ∙ same (mark_place e) (omega arith)
          ∙ is.mark;
      n = away (n_place e) (λ x. omega arith) (λ x. other (omega arith)) (λ x. omega arith) ∙ same (n_place e) (omega arith) ∙ is.n;
      m = away (m_place e) (λ x. omega arith) (λ x. omega arith) (λ x. other (omega arith)) ∙ same (m_place e) (omega arith) ∙ is.m;
      few = is.few;
      messages =
          messages-same e h.messages
          (λ k past. away k (λ x. omega arith) (λ x. omega arith) (λ x. omega arith)) (are is.messages);
    }

-- a kept number is written: what stands from the marks on is as it was
pub held_same : {t new g : List ℕ} {j : ℕ} {h : Held} → ((k : ℕ) → mark_place 0 ≤ k → get_or new k 0 ≡ get_or t k 0)
    → HeldIs t g j h → HeldIs new g j h
held_same {t} {new} {g} {j} {h} same is =
    record {
      mark = same (mark_place j) (omega arith) ∙ is.mark;
      n = same (n_place j) (omega arith) ∙ is.n;
      m = same (m_place j) (omega arith) ∙ is.m;
      few = is.few;
      messages = messages-same j h.messages (λ k past. same k (omega arith)) is.messages;
    }

-- marks, n and m are written: what stands before them is as it was
pub marks-past : (t : List ℕ) (j mark n m k : ℕ) → k < mark_place 0 → get_or (heard_set t j mark n m) k 0 ≡ get_or t k 0
marks-past t j mark n m k low = heard-elsewhere t j mark n m k (λ e. omega arith) (λ e. omega arith) (λ e. omega arith)
