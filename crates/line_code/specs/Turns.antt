-- One line as the code does it: the line's own answer, then turns of releasing (rules 18.1 to 18.3). An empty line has one turn more, the
-- first, with leave to skip. Definitions only.
use Rattle.std.specs.Prelude.{ℕ, suc, true, cond, List, [], ◌∷◌, ltb}
use Rattle.datagram.specs.Sizes.{packet_limit}
use Rattle.session.specs.Cells.{kept_ahead}
use Rattle.session.specs.View.{View}
use Rattle.session.specs.Release.{release}
use Rattle.line.specs.Lines.{Made, silent, ◌then◌, release_made, releases_f, releases, offer_line}

-- nothing for an empty line: its first turn of releasing is its answer
unfoldable pub own_answer : List ℕ → View → Made
own_answer [] view = silent view
own_answer (c ∷ line) view = offer_line (c ∷ line) view

-- as many turns as there are numbers from the base on, and one more for an empty line
unfoldable pub turns_after : List ℕ → ℕ
turns_after [] = suc kept_ahead
turns_after (c ∷ line) = kept_ahead

-- `left` turns: each is one release without leave, up to the first that is refused; if `left` is more than kept_ahead, the first turn has
-- leave
unfoldable pub turns : ℕ → View → Made
turns left view =
    cond (ltb kept_ahead left) (release_made true (release true packet_limit view) view then releases) (releases_f left view)
