-- The cases of two traces, each computed, except those at the limit of 512 lines. Assumes nothing.
use Prim.Native.Nat.{ℕ, zero, suc, ◌≤◌, ◌<◌}
use mathlib.Core.Path.{◌≡◌, refl, ap, ◌∙◌}
use mathlib.Core.List.{List, [], ◌∷◌}
use lib.ListN.{length, replicate, length-replicate}
use native.Mathlib.Omega.{arith}
use borrow.Author.Tests.{lt-ltb, le-ltb}
use Rattle.length.specs.Refusals.{refusal, too_many_lines}
use Rattle.length.specs.Tables.{unless}
use Rattle.octets.specs.Place.{tab, all_below}
use Rattle.length.specs.Length.{length_at, allowed, length_within}
use Rattle.datagram.specs.Read.{item_at, items_at, end_of, spares_at, parity_at, octet_at, extra_at, number_of, whole_of, read_datagram, carried_by}
use Rattle.line.specs.Hex.{digit_of, all_digits, octets_in, line_octets}
use Rattle.line.specs.Lines.{lines_from}
use Rattle.line.specs.Text.{characters}
use Rattle.trace_compare.specs.Pairing.{having}
use Rattle.trace_compare.specs.Entries.{numbers_of, same, same_each, given, line_by_line, entries}
use Rattle.trace_compare.specs.Told.{told, stopped, no_place}
use Rattle.trace_compare.specs.Traces.{lines_limit, first_trace, second_trace}
use Rattle.trace_compare.specs.Traces.{datagram_of, datagram_in, lines_read, trace_read, comparison}
use Rattle.trace_compare.specs.Cases.{empties, AnswerCases, Cases, LimitCases}

answer-cases : AnswerCases
unfolding unless characters lines_from line_octets octets_in all_digits digit_of read_datagram whole_of number_of extra_at spares_at parity_at octet_at
    end_of items_at item_at length_within allowed carried_by length_at tab all_below having numbers_of same same_each given line_by_line entries
    datagram_of datagram_in lines_read trace_read comparison
answer-cases =
    record {
      listed = record { answer = refl; lent = refl };
      fits = record { answer = refl; lent = refl };
      alike = record { answer = refl; lent = refl };
      full = record { answer = refl; lent = refl };
      unread = record { answer = refl; lent = refl };
      unread-first = record { answer = refl; lent = refl };
    }

pub cases : Cases
unfolding unless characters lines_from line_octets octets_in all_digits digit_of read_datagram whole_of number_of extra_at spares_at parity_at octet_at
    end_of items_at item_at length_within allowed carried_by length_at tab all_below having numbers_of same same_each given line_by_line entries
    datagram_of datagram_in lines_read trace_read comparison
cases =
    record {
      alike = refl;
      by_number = refl;
      in-turn = refl;
      both-differ = refl;
      third = refl;
      only = refl;
      all_three = refl;
      both-empty = refl;
      packet-end = refl;
      packet-longer = refl;
      packet-shorter = refl;
      other-spare = refl;
      more-spares = refl;
      less-spares = refl;
      other-message = refl;
      other-m = refl;
      other-n = refl;
      line-3 = refl;
      first-first = refl;
      answers = answer-cases;
    }

-- ---- at the limit of 512 lines (rules 1.15, 22.13 and 22.14), by laws of traces of empty lines: computed, these cases would take half of
-- the crate's time, in every edit

-- as many empty lines as there are line feeds
empty-lines : (n : ℕ) → lines_from [] (empties n) ≡ replicate n []
unfolding lines_from
empty-lines zero = refl
empty-lines (suc n) = ap (λ (lines : List (List ℕ)). [] ∷ lines) (empty-lines n)

many-lines : (n : ℕ) → length (lines_from [] (empties n)) ≡ n
many-lines n = ap length (empty-lines n) ∙ length-replicate n []

-- no datagram is read of them
nothing_read : (trace k n : ℕ) → lines_read trace k (replicate n []) ≡ told []
unfolding lines_read
nothing_read trace k zero = refl
nothing_read trace k (suc n) = nothing_read trace (suc k) n

no-datagrams : (trace n : ℕ) → trace_read trace (empties n) ≡ told []
unfolding trace_read
no-datagrams trace n = ap (lines_read trace 1) (empty-lines n) ∙ nothing_read trace 1 n

-- two such traces within the limit have no differences
few-empties : (n m : ℕ) → n ≤ lines_limit → m ≤ lines_limit → comparison (empties n) (empties m) ≡ told []
unfolding comparison unless entries line_by_line
few-empties n m p q =
    rw (many-lines n, many-lines m, le-ltb lines_limit n p, le-ltb lines_limit m q, no-datagrams first_trace n, no-datagrams second_trace m)

-- one over the limit is refused, as the first trace and as the second
many-first : (n : ℕ) (second : List ℕ) → lines_limit < n → comparison (empties n) second ≡ stopped (refusal too_many_lines) no_place
unfolding comparison unless
many-first n second p = rw (many-lines n, lt-ltb lines_limit n p)

many-second : (first : List ℕ) (n : ℕ) → length (lines_from [] first) ≤ lines_limit → lines_limit < n
    → comparison first (empties n) ≡ stopped (refusal too_many_lines) no_place
unfolding comparison unless
many-second first n p q = rw (le-ltb lines_limit (length (lines_from [] first)) p, many-lines n, lt-ltb lines_limit n q)

pub limit-cases : LimitCases
unfolding characters lines_from
limit-cases =
    record {
      too-many-first = many-first 513 (characters "0\n") (omega arith);
      too_many = many-second (characters "0\n") 513 (omega arith) (omega arith);
      most = few-empties 512 512 (omega arith) (omega arith);
    }
