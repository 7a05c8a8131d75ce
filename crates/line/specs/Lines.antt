-- What the program writes for its input (rules 18.1 to 18.9): it offers the datagram of each line and then releases all it can. An empty
-- line is one release with leave to skip. Each number that leaves is a line, and so is each refusal, except 10 and 16 of the releases
-- without leave. Definitions only.
use Rattle.std.specs.Prelude.{ℕ, zero, suc, ◌/◌, ◌%◌, Bool, true, false, cond, List, [], ◌∷◌, ◌++◌, eqb}
use Rattle.length.specs.Answers.{Answer, done, refused, ◌>>=◌}
use Rattle.length.specs.declared.Refusal.{Refusal}
use Rattle.length.specs.Refusals.{number_of}
use Rattle.datagram.specs.Sizes.{packet_limit}
use Rattle.session.specs.Cells.{State, unknown, received, spare, repaired, blank, kept_ahead}
use Rattle.session.specs.View.{View, fresh_view}
use Rattle.session.specs.Offer.{offer}
use Rattle.session.specs.Release.{Release, release}
use Rattle.line.specs.Hex.{hex_of, line_octets}

-- ---- result lines

abbrev pub line_feed : ℕ
line_feed = 0x0A

-- rule 18.5: the kind of a lost number
abbrev pub lost_kind : ℕ
lost_kind = 0x03

-- rules 9.3 and 18.5: the kind of a number that left; an unknown one is lost, and a blank one never leaves
abbrev pub kind_octet : State → ℕ
kind_octet received = 0x00
kind_octet spare = 0x01
kind_octet repaired = 0x02
kind_octet unknown = lost_kind
kind_octet blank = lost_kind

-- rule 18.7: octets as a line, ended by a line feed
abbrev pub line_of : List ℕ → List ℕ
line_of octets = hex_of octets ++ (line_feed ∷ [])

-- rule 18.5: kind, number, octets
unfoldable pub result_line : ℕ → ℕ → List ℕ → List ℕ
result_line kind number octets = line_of (kind ∷ number / 256 ∷ number % 256 ∷ octets)

-- rule 18.6: `FF`, the number, the place in four digits, which hold every place (`placed` in `DatagramRefusals` of `demands`)
unfoldable pub refusal_line : Refusal → List ℕ
refusal_line r = line_of (0xFF ∷ number_of r.reason ∷ r.place / 256 % 256 ∷ r.place % 256 ∷ [])

-- ---- steps of the program

-- what is written, and the session after
pub record Made : Type 0 where
  pub text : List ℕ
  pub after : View

-- nothing written, nothing changed
abbrev pub silent : View → Made
silent view = record { text = []; after = view }

-- one after the other
infixl 10 ◌then◌
abbrev pub ◌then◌ : Made → (View → Made) → Made
first then second =
    record { text = first.text ++ (second first.after).text; after = (second first.after).after }

-- a number that leaves is a line without its note (rule 18.14). A refusal is a line only with leave, at an empty line (rules 18.3 and 18.4)
abbrev pub release_made : Bool → Answer Release → View → Made
release_made leave (done r) view = record { text = result_line (kind_octet r.kind) r.number r.octets; after = r.after }
release_made leave (refused x) view = record { text = cond leave (refusal_line x) []; after = view }

-- a release without leave, and what comes after it
abbrev pub onward : Answer Release → (View → Made) → View → Made
onward (done r) more view = release_made false (done r) view then more
onward (refused x) more view = release_made false (refused x) view

-- at most that many releases, with room for any packet
unfoldable pub releases_f : ℕ → View → Made
releases_f zero view = silent view
releases_f (suc left) view = onward (release false packet_limit view) (releases_f left) view

-- rule 18.1: all that can be released; after kept_ahead releases the base is a number that came into view unknown
abbrev pub releases : View → Made
releases view = releases_f kept_ahead view

-- an offer: only a refusal is a line
abbrev pub offer_made : Answer View → View → Made
offer_made (done after) view = silent after
offer_made (refused r) view = record { text = refusal_line r; after = view }

-- rule 18.1: one datagram a line
unfoldable pub line_offered : List ℕ → View → Answer View
line_offered line view = do
  octets ← line_octets line
  offer octets view

unfoldable pub offer_line : List ℕ → View → Made
offer_line line view = offer_made (line_offered line view) view

-- rule 18.2: an empty line is one release with leave to skip. Its base is not known, since all that can be was released before
unfoldable pub answer_line : List ℕ → View → Made
answer_line [] view = release_made true (release true packet_limit view) view
answer_line (c ∷ line) view = offer_line (c ∷ line) view

-- one line
unfoldable pub step : List ℕ → View → Made
step line view = answer_line line view then releases

-- ---- the whole

-- rule 18.8: a last line without a line feed counts unless it is empty
abbrev pub last_line : List ℕ → List (List ℕ)
last_line [] = []
last_line (c ∷ line) = (c ∷ line) ∷ []

-- the lines of some input, of which the first has begun
unfoldable pub lines_from : List ℕ → List ℕ → List (List ℕ)
lines_from begun [] = last_line begun
lines_from begun (c ∷ input) = cond (eqb c line_feed) (begun ∷ lines_from [] input) (lines_from (begun ++ (c ∷ [])) input)

-- line after line
unfoldable pub steps : List (List ℕ) → View → Made
steps [] view = silent view
steps (line ∷ lines) view = step line view then steps lines

-- all that the program writes, from a session on
abbrev pub program_from : View → List ℕ → List ℕ
program_from view input = (steps (lines_from [] input) view).text

-- rule 18.1: the program begins with a fresh session
unfoldable pub program : List ℕ → List ℕ
program input = program_from fresh_view input
