-- The claims of this crate, of members, spares, repair and bursts (rules 4.12, 9.9, 10.7, 11.4, 28.5 and 28.8 to 28.10). Statements only.
use Rattle.std.specs.Prelude.{ℕ, ◌+◌, ◌-◌, ◌*◌, ◌%◌, ◌≤◌, ◌<◌, ◌≡◌, ◌↔◌, length}
use mathlib.Core.List.{List, Memᴰ as Among}
use Rattle.std.proofs.Math.Option.{none}
use Rattle.session.specs.Members.{members_of, InReach}
use Rattle.session.specs.Cells.{Cell, Makes, cell_at, kept_before}
use Rattle.session.specs.Repair.{Message, first_usable, repair}
use Rattle.session.specs.Held.{Held, held_at, messages_of, held_messages}
use Rattle.session.specs.Reached.{Known, Unknown, Closed, Reached, Distinct, DistinctMembers}
use Rattle.session.specs.Honest.{HonestMessages, HonestHeld, TrueCells}
use Rattle.session.specs.Spares.{SparesExact}

-- ---- members
-- where the reach n·m does not go below place 0, no number is in a message twice, and message i covers exactly the numbers of the reach
-- whose distance to S − 1 is m − 1 − i modulo m. So each number of the reach is in exactly one message, and S is in none (rule 4.12)
pub record MembersExact : Type 0 where
  pub distinct : (S n m i : ℕ) → n * m ≤ S → i < m → Distinct (members_of S n m i)
  pub exact : (S n m i : ℕ) → n * m ≤ S → i < m → (p : ℕ)
      → Among p (members_of S n m i) ↔ (InReach S n m p × (((S - 1) - p) % m ≡ (m - 1) - i))

-- no message that a session holds has a member twice, since no reach goes further back than the view (rules 1.6 and 1.13)
abbrev pub HeldDistinct : Type 0
HeldDistinct = (held : List Held)
    → ((d : ℕ) → d < length held → (held_at held d).n * length (held_at held d).messages ≤ kept_before)
    → DistinctMembers (held_messages held)

-- ---- repair, for every way to make a fill
-- what is known is never written over (rule 9.9)
abbrev pub KnownKept : Type 0
KnownKept = (made : List ℕ → Cell) (cells : List Cell) (messages : List Message) (p : ℕ) → Known cells p
    → cell_at (repair made cells messages) p ≡ cell_at cells p

-- repair does not change the length of the view
abbrev pub LengthKept : Type 0
LengthKept = (made : List ℕ → Cell) (cells : List Cell) (messages : List Message) → length (repair made cells messages) ≡ length cells

-- afterwards no message is usable (rule 11.4)
abbrev pub NoneLeft : Type 0
NoneLeft = (made : List ℕ → Cell) → Makes made → (cells : List Cell) (messages : List Message)
    → first_usable (repair made cells messages) messages ≡ none

-- repair fills no more than it must: every set of places that holds the known ones, and to which no message adds another, holds all places
-- known afterwards (rule 28.5)
abbrev pub NothingMore : Type 1
NothingMore = (made : List ℕ → Cell) (K : ℕ → Type 0) (cells : List Cell) (messages : List Message) → ((p : ℕ) → Known cells p → K p)
    → Closed messages K → (p : ℕ) → Known (repair made cells messages) p → K p

-- the places known afterwards are exactly those that the messages reach (rule 28.5)
abbrev pub KnownReached : Type 0
KnownReached = (made : List ℕ → Cell) → Makes made → (cells : List Cell) (messages : List Message) → DistinctMembers messages
    → (p : ℕ) → Known (repair made cells messages) p ↔ Reached cells messages p

-- which numbers are known afterwards does not depend on the order of the messages (rule 28.8)
abbrev pub AnyOrder : Type 0
AnyOrder = (made : List ℕ → Cell) → Makes made → (cells : List Cell) (messages others : List Message) → DistinctMembers messages
    → ((message : Message) → Among message messages ↔ Among message others)
    → (p : ℕ) → Known (repair made cells messages) p ↔ Known (repair made cells others) p

-- with more known before and more messages, no less is known afterwards (rule 28.8)
abbrev pub NoLess : Type 0
NoLess = (made : List ℕ → Cell) → Makes made → (cells wider : List Cell) (messages more : List Message) → DistinctMembers more
    → ((p : ℕ) → Known cells p → Known wider p) → ((message : Message) → Among message messages → Among message more)
    → (p : ℕ) → Known (repair made cells messages) p → Known (repair made wider more) p

-- ---- an honest sender
-- if all known numbers equal the sender's packets, except for zeros at the end, so do those that repair fills (rule 28.9)
abbrev pub StaysTrue : Type 0
StaysTrue = (made : List ℕ → Cell) → Makes made → (row : ℕ → List ℕ) (cells : List Cell) (messages : List Message)
    → HonestMessages row (length cells) messages → TrueCells row cells → TrueCells row (repair made cells messages)

-- in the reach of S at most m numbers in a row are unknown, those from a on
abbrev pub BurstAt : List Cell → ℕ → ℕ → ℕ → ℕ → Type 0
BurstAt cells S n m a = (p : ℕ) → InReach S n m p → Unknown cells p → (a ≤ p) × (p < a + m)

-- an unknown number before S has a packet of one octet or more, since numbers before the first are blank and so known (rule 9.3)
abbrev pub SentBefore : (ℕ → List ℕ) → List Cell → ℕ → Type 0
SentBefore row cells S = (p : ℕ) → p < S → Unknown cells p → 1 ≤ length (row p)

-- a burst is mended: if no message is usable, an honest datagram is held at S, and at most m numbers in a row of its reach are unknown,
-- then all of its reach is known (rule 28.10)
abbrev pub BurstMended : Type 0
BurstMended = (row : ℕ → List ℕ) (cells : List Cell) (messages : List Message) (S : ℕ) (held : Held) (a : ℕ)
    → HonestHeld row S held
    → first_usable cells messages ≡ none
    → ((message : Message) → Among message (messages_of S held) → Among message messages)
    → SentBefore row cells S
    → BurstAt cells S held.n (length held.messages) a
    → (p : ℕ) → InReach S held.n (length held.messages) p → Known cells p

-- the same of what a session holds, before and after repair: if an honest datagram is held at distance d from the base, and at most m
-- numbers in a row of its reach are unknown, then all of its reach is known after repair (rule 28.10)
abbrev pub BurstRepaired : Type 0
BurstRepaired = (made : List ℕ → Cell) → Makes made → (row : ℕ → List ℕ) (cells : List Cell) (held : List Held) (d a : ℕ)
    → d < length held
    → HonestHeld row (kept_before + d) (held_at held d)
    → SentBefore row cells (kept_before + d)
    → BurstAt cells (kept_before + d) (held_at held d).n (length (held_at held d).messages) a
    → (p : ℕ) → InReach (kept_before + d) (held_at held d).n (length (held_at held d).messages) p
    → Known (repair made cells (held_messages held)) p

pub record Claims : Type 1 where
  pub members_exact : MembersExact
  pub held_distinct : HeldDistinct
  pub known_kept : KnownKept
  pub length_kept : LengthKept
  pub none_left : NoneLeft
  pub nothing_more : NothingMore
  pub known_reached : KnownReached
  pub any_order : AnyOrder
  pub no_less : NoLess
  pub stays_true : StaysTrue
  pub burst_mended : BurstMended
  pub burst_repaired : BurstRepaired
  -- what spares fill (rules 4.5 and 10.7)
  pub spares_exact : SparesExact
