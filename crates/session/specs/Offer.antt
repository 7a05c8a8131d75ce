-- What an offer does to a session (rules 10.1 to 10.14). Each number that an offer fills keeps the number of the offered datagram as its
-- note, in a run of repairs too (rules 9.5 and 9.8). The order of refusals is reading order, then 8 or 9, then 7 (rule 10.5); 17 comes
-- before them, in `session_calls`. Definitions only.
use Rattle.std.specs.Prelude.{ℕ, suc, ◌+◌, ◌-◌, Bool, true, cond, List, [], ◌∷◌, get_or, set, ltb}
use Rattle.length.specs.Refusals.{repeated, too_far, late}
use Rattle.length.specs.Answers.{Answer, done, refuse, ◌>>=◌}
use Rattle.datagram.specs.Carried.{Carried, Extra, spares, parity}
use Rattle.datagram.specs.Read.{read_datagram, carried_by}
use Rattle.session.specs.Cells.{State, received, spare, repaired, Cell, filled_cell, unknown_at, kept_before, kept_ahead}
use Rattle.session.specs.Held.{Held, nothing_held, held_messages}
use Rattle.session.specs.Repair.{repair}
use Rattle.session.specs.View.{View, distance}

-- a number is late from this distance on (rule 10.3)
abbrev pub late_from : ℕ
late_from = 32768

-- a packet or spare fills a number only if it is still unknown (rule 10.7), while datagram S is offered
unfoldable pub keep : ℕ → State → ℕ → List ℕ → List Cell → List Cell
keep S state p octets cells = cond (unknown_at cells p) (set cells p (filled_cell S state octets)) cells

-- the j-th spare of datagram S is packet S − j (rule 4.5): the first of the given spares belongs to the place before p
unfoldable pub keep_spares : ℕ → ℕ → List (List ℕ) → List Cell → List Cell
keep_spares S p [] cells = cells
keep_spares S p (octets ∷ more) cells = keep_spares S (p - 1) more (keep S spare (p - 1) octets cells)

-- the spares of datagram S, at place p, are kept in order (rule 10.6)
abbrev pub keep_extra : ℕ → ℕ → Extra → List Cell → List Cell
keep_extra S p (spares copies) cells = keep_spares S p copies cells
keep_extra S p (parity n messages) cells = cells

-- what is held of an accepted datagram: its mark, n and its messages (rule 10.10)
abbrev pub held_by : Extra → Held
held_by (spares copies) = record { accepted = true; n = 0; messages = [] }
held_by (parity n messages) = record { accepted = true; n = n; messages = messages }

-- a datagram that is accepted at distance d: its packet, its spares and its messages are kept, then repair begins (rule 10.6)
unfoldable pub accept : ℕ → Carried → View → View
accept d datagram view =
    let S = datagram.number in
    let place = kept_before + d in
    let filled = keep_extra S place datagram.extra (keep S received place datagram.packet view.cells) in
    let held = set view.held d (held_by datagram.extra) in
    record {
      base = view.base;
      counts = view.counts;
      cells = repair (filled_cell S repaired) filled (held_messages held);
      held = held;
    }

-- whether the datagram at distance d was accepted before (rule 10.4)
abbrev pub accepted_at : View → ℕ → Bool
accepted_at view d = (get_or view.held d nothing_held).accepted

-- a datagram that was read, offered to the session (rules 10.1 to 10.4)
unfoldable pub offered : Carried → View → Answer View
offered datagram view =
    let d = distance view.base datagram.number in
    cond (ltb d kept_ahead)
    (cond (accepted_at view d) (refuse repeated) (done (accept d datagram view)))
    (cond (ltb d late_from) (refuse too_far) (refuse late))

-- any octets offered (rule 10.13): they are read first, so a refusal of the reader is one of the offer
unfoldable pub offer : List ℕ → View → Answer View
offer octets view = do
  parts ← read_datagram octets
  offered (carried_by octets parts) view
