-- The claims about solving as `Solved` defines it (rules 14.2 to 14.9). Statements alone.
use Rattle.std.specs.Prelude.{ℕ, ◌≤◌, ◌<◌, ◌≡◌, ◌↔◌, length}
use mathlib.Core.List.{List, [], ◌∷◌, ◌++◌, Memᴰ as Among}
use Rattle.std.proofs.Math.Option.{none}
use Rattle.length.specs.Answers.{Answer, done}
use Rattle.datagram.specs.Sizes.{packet_limit}
use Rattle.solve_algebra.specs.Masks.{mask_places, mask_of}
use Rattle.session.specs.Cells.{Cell, cell_at, filled_cell, repaired}
use Rattle.session.specs.Repair.{Message, unknown_members, first_usable}
use Rattle.session.specs.Held.{held_messages}
use Rattle.session.specs.Reached.{Known, Unknown, Reached, DistinctMembers}
use Rattle.session.specs.Honest.{HonestMessages, TrueCells, UpToZeros}
use Rattle.session.specs.View.{View}
use Rattle.session.specs.Ranges.{Sound}
use Rattle.solve.specs.Equations.{padded, Solvable, OneValue}
use Rattle.solve.specs.Solved.{Solved, SolvedTo, Solves}

-- ---- the result of the call
-- two answers that the definition allows are equal (rule 28.14)
abbrev pub OneOutcome : Type 0
OneOutcome = (view : View) (one two : Answer View) → Solves view one → Solves view two → one ≡ two

-- a session within its ranges stays within them (rule 13.13)
abbrev pub StaysSound : Type 0
StaysSound = (view after : View) → Sound view → SolvedTo view after → Sound after

-- a second call right after the first fills nothing more and is not refused (rule 14.2)
abbrev pub SolvedNothingMore : Type 0
SolvedNothingMore = (view after : View) (answer : Answer View) → SolvedTo view after → Solves after answer → answer ≡ done after

-- ---- the numbers afterwards
-- a number is known exactly if the equations and the known octets allow only one value for it (rule 14.2); a known number has one, its
-- own octets
abbrev pub KnownExactly : Type 0
KnownExactly = (cells : List Cell) (messages : List Message) (after : List Cell) → Solved cells messages after
    → (p : ℕ) → Known after p ↔ OneValue cells messages p

-- no message is usable afterwards: repair finds nothing more to fill (rule 11.4)
abbrev pub NoneUsable : Type 0
NoneUsable = (cells : List Cell) (messages : List Message) (after : List Cell) → Solved cells messages after
    → first_usable after messages ≡ none

-- every number that repair would reach is known (rules 11.4 and 14.2)
abbrev pub HoldsReached : Type 0
HoldsReached = (cells : List Cell) (messages : List Message) (after : List Cell) → DistinctMembers messages → Solved cells messages after
    → (p : ℕ) → Reached cells messages p → Known after p

-- what is known in `cells` is known in `wider` too, with the same octets except for zeros at the end
pub record Wider (cells wider : List Cell) : Type 0 where
  pub known : (p : ℕ) → Known cells p → Known wider p
  pub same : (p : ℕ) → Known cells p → padded (cell_at wider p).octets ≡ padded (cell_at cells p).octets

-- with more numbers known before and more messages, no fewer numbers are known afterwards (rule 28.11)
abbrev pub SolvedNoLess : Type 0
SolvedNoLess = (cells wider : List Cell) (messages more : List Message) (after second : List Cell) → Wider cells wider
    → ((message : Message) → Among message messages → Among message more) → Solved cells messages after → Solved wider more second
    → (p : ℕ) → Known after p → Known second p

-- ---- which numbers have one value
-- the unknown members of some messages, message by message
unfoldable pub unknown_in : List Cell → List Message → List ℕ
unknown_in cells [] = []
unknown_in cells (message ∷ more) = unknown_members cells message ++ unknown_in cells more

-- the exclusive or of some of the messages has p as its only unknown number: a number that occurs twice cancels
pub record Together (cells : List Cell) (messages : List Message) (p : ℕ) : Type 0 where
  pub chosen : List Message
  pub held : (message : Message) → Among message chosen → Among message messages
  pub alone : mask_of (unknown_in cells chosen) ≡ mask_of (p ∷ [])

-- then p has one value, whatever the octets are (rule 14.2)
abbrev pub TogetherOne : Type 0
TogetherOne = (cells : List Cell) (messages : List Message) (p : ℕ) → p < mask_places
    → ((message : Message) (q : ℕ) → Among message messages → Among q message.members → q < mask_places)
    → Together cells messages p → OneValue cells messages p

-- ---- an honest sender, whose packets are within the limit (rules 14.9 and 15.14)
pub record HonestView (row : ℕ → List ℕ) (cells : List Cell) (messages : List Message) : Type 0 where
  pub messages_honest : HonestMessages row (length cells) messages
  pub cells_true : TrueCells row cells
  pub short : (p : ℕ) → p < length cells → length (row p) ≤ packet_limit

-- some octets satisfy all equations, so 23 never comes (rule 14.9)
abbrev pub NeverRefused : Type 0
NeverRefused = (row : ℕ → List ℕ) (cells : List Cell) (messages : List Message) → HonestView row cells messages → Solvable cells messages

-- a fill is the sender's packet with zeros at its end (rule 14.9)
pub record FillsTrue : Type 0 where
  pub fill : (row : ℕ → List ℕ) (cells : List Cell) (messages : List Message) (after : List Cell) → HonestView row cells messages
      → Solved cells messages after → (p : ℕ) → Unknown cells p → Known after p → cell_at after p ≡ filled_cell 0 repaired (padded (row p))
  pub zeros : (octets : List ℕ) → length octets ≤ packet_limit → UpToZeros (padded octets) octets
  pub stays : (row : ℕ → List ℕ) (cells : List Cell) (messages : List Message) (after : List Cell) → HonestView row cells messages
      → Solved cells messages after → TrueCells row after

pub record Claims : Type 0 where
  pub one_outcome : OneOutcome
  pub stays_sound : StaysSound
  pub nothing_more : SolvedNothingMore
  pub known_exactly : KnownExactly
  pub none_usable : NoneUsable
  pub holds_reached : HoldsReached
  pub no_less : SolvedNoLess
  pub together_one : TogetherOne
  pub never_refused : NeverRefused
  pub fills_true : FillsTrue
