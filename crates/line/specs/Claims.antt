-- The claims of this crate. Statements alone.
use Rattle.std.specs.Prelude.{ℕ, ◌+◌, ◌*◌, ◌≤◌, ◌<◌, ◌≡◌, false, List, [], ◌∷◌, ◌++◌, ◌⊎◌, length, get_or, take, drop, Result as Answered}
use Rattle.length.specs.declared.Refusal.{Refusal}
use Rattle.length.specs.Refusals.{base_unknown, all_passed}
use Rattle.length.specs.Answers.{done, refuse, mapped}
use Rattle.length.specs.Promise.{Puts}
use Rattle.length.specs.Claims.{Octets}
use Rattle.datagram.specs.Sizes.{packet_limit, datagram_limit}
use Rattle.session.specs.Release.{release}
use Rattle.session_held.specs.Table.{Lent, lent, lent_by, view_in}
use Rattle.session_held.specs.Laid.{InRanges}
use Rattle.session_held.specs.Promise.{Fresh}
use Rattle.session_held.specs.declared.Session.{Session}
use Rattle.line.specs.Hex.{line_octets, hex_of}
use Rattle.line.specs.Lines.{Made, result_line, lines_from, program, releases}
use Rattle.line.specs.Feed.{Going, at_start, fed, at_end, going_in, PartWay}
use Rattle.line.specs.Promise.{Does, step_limit}
use Rattle.line.specs.FeedPromise.{Feedable, Feeds, Ends}
pub use Rattle.line.specs.Cases.{WholeCase, Cases}
use Rattle.line.specs.declared.steps.Stepped.{Stepped}
use Rattle.line.specs.declared.feed.Fed.{Fed}

-- rules 18.1 and 18.3: after the releases the next one is refused with 10 or 16, so the limit on their number cuts nothing off
abbrev pub ReleasesAll : Type 0
ReleasesAll = (session : Lent) → InRanges session
    → (release false packet_limit (releases (view_in session)).after ≡ refuse base_unknown)
    ⊎ (release false packet_limit (releases (view_in session)).after ≡ refuse all_passed)

-- a line that was written reads back to the same octets (rule 18.16)
abbrev pub WrittenReads : Type 0
WrittenReads = (octets : List ℕ) → Octets octets → length octets ≤ datagram_limit → line_octets (hex_of octets) ≡ done octets

-- what a result line says
pub record Result : Type 0 where
  pub kind : ℕ
  pub number : ℕ
  pub octets : List ℕ

-- by the octets of the line: the kind, the number in two octets, high first, the packet's octets (rule 18.5)
abbrev pub result_in : List ℕ → Result
result_in octets = record { kind = get_or octets 0 0; number = get_or octets 1 0 * 256 + get_or octets 2 0; octets = drop 3 octets }

-- a result line is one line, which reads back to kind, number and octets (rules 18.5, 18.9 and 18.16)
pub record ResultReads (kind number : ℕ) (octets : List ℕ) : Type 0 where
  pub line : List ℕ
  pub one : lines_from [] (result_line kind number octets) ≡ line ∷ []
  pub reads : mapped result_in (line_octets line) ≡ done (record { kind = kind; number = number; octets = octets })

abbrev pub ResultsRead : Type 0
ResultsRead = (kind number : ℕ) (octets : List ℕ) → kind < 256 → number < 65536 → Octets octets → length octets ≤ packet_limit
    → ResultReads kind number octets

-- rule 18.12: the input taken character by character writes what the program writes, however it is cut
pub record CutAnyhow : Type 0 where
  pub whole : (input : List ℕ) → program input ≡ (at_end (fed input at_start)).text
  pub cut : (a b : List ℕ) (now : Going) → fed (a ++ b) now ≡ fed b (fed a now)

-- rule 18.12: the calls in turn. Whatever blocks they take, the texts that they and the end of the input leave in the buffer, one after the
-- other, are what the program writes for all the input taken
pub record InTurn : Type 0 where
  pub start : {r : Session} (line : List ℕ) → Fresh r → PartWay [] [] (lent_by r) line 0
  pub block : {input text : List ℕ} {session after : Lent} {l : List ℕ} {begun : ℕ} {octets out : List ℕ} {m : List ℕ} {kept taken : ℕ}
      {new : List ℕ} {end : ℕ} → PartWay input text session l begun
      → Feeds (going_in session l begun out 0) octets out after m kept taken new end
      → PartWay (input ++ take taken octets) (text ++ take end new) after m kept
  -- with room for a line, some of a block that is not empty is taken
  pub goes_on : {session after : Lent} {l : List ℕ} {begun : ℕ} {octets out : List ℕ} {m : List ℕ} {kept taken : ℕ} {new : List ℕ} {end : ℕ}
      → Feedable step_limit session l begun out 0 → Feeds (going_in session l begun out 0) octets out after m kept taken new end
      → 1 ≤ length octets
      → 0 < taken
  pub finish : {input text : List ℕ} {session after : Lent} {l : List ℕ} {begun : ℕ} {out new : List ℕ} {end : ℕ}
      → PartWay input text session l begun → Ends (going_in session l begun out 0) out after new end → program input ≡ text ++ take end new

-- the same answer, the same session and the same buffer
pub record Same {A : Type 0} (r q : A) (session other : Lent) (new written : List ℕ) : Type 0 where
  pub answer : r ≡ q
  pub held : session ≡ other
  pub lent : new ≡ written

-- rule 28.14: two outcomes that a promise allows are equal
pub record OneOutcome : Type 0 where
  pub hex_to_octets : (line : List ℕ) {old new other : List ℕ} {r q : Answered ℕ Refusal} → Puts (line_octets line) old new r
      → Puts (line_octets line) old other q
      → (r ≡ q) × (new ≡ other)
  pub step : {m : Made} {old : List ℕ} {at : ℕ} {r q : Stepped} {t u o p g k new written : List ℕ}
      → Does m old at (lent r.base r.counts t o g) r.end new → Does m old at (lent q.base q.counts u p k) q.end written
      → Same r q (lent r.base r.counts t o g) (lent q.base q.counts u p k) new written
  pub take_block : {before : Going} {octets out : List ℕ} {r q : Fed} {t u o p g k l m new written : List ℕ}
      → Feeds before octets out (lent r.base r.counts t o g) l r.begun r.taken new r.end
      → Feeds before octets out (lent q.base q.counts u p k) m q.begun q.taken written q.end
      → (Same r q (lent r.base r.counts t o g) (lent q.base q.counts u p k) new written) × (l ≡ m)
  pub finish : {before : Going} {out : List ℕ} {r q : Stepped} {t u o p g k new written : List ℕ}
      → Ends before out (lent r.base r.counts t o g) new r.end
      → Ends before out (lent q.base q.counts u p k) written q.end
      → Same r q (lent r.base r.counts t o g) (lent q.base q.counts u p k) new written

pub record Claims : Type 0 where
  pub whole_case : WholeCase
  pub cases : Cases
  pub releases_all : ReleasesAll
  pub written_reads : WrittenReads
  pub results_read : ResultsRead
  pub cut_anyhow : CutAnyhow
  pub in_turn : InTurn
  pub one_outcome : OneOutcome
