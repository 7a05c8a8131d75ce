-- The claims of this crate, each proved by a law. Assumes nothing.
use Rattle.trace_compare.specs.Claims.{Claims, EmptyTraces, Itself, Exchange, ComparisonRefuses}
use Rattle.trace_compare.proofs.Having.{mates}
use Rattle.trace_compare.proofs.SideBySide.{by_number}
use Rattle.trace_compare.proofs.Listing.{empty-exactly, itself-none, number-exchanged, mirrored}
use Rattle.trace_compare.proofs.Spelling.{octet-for-octet}
use Rattle.trace_compare.proofs.Refusing.{too-many-exactly, first-unread, second-unread, both-listed}
use Rattle.trace_compare.proofs.Calls.{one-outcome, empty-call, itself-call, exchange-call, room, unchanged}
use Rattle.trace_compare.proofs.Cases.{cases}

empty : EmptyTraces
empty = record { entries = empty-exactly; call = empty-call }

itself : Itself
itself = record { entries = itself-none; call = itself-call }

exchange : Exchange
exchange = record { number = number-exchanged; entries = mirrored; call = exchange-call }

refuses : ComparisonRefuses
refuses =
    record {
      too_many = too-many-exactly;
      first_unread = first-unread;
      second_unread = second-unread;
      listed = both-listed;
      room = room;
      unchanged = unchanged;
    }

pub claims : Claims
claims =
    record {
      by_number = by_number;
      mates = mates;
      empty = empty;
      itself = itself;
      exchange = exchange;
      octet_for_octet = octet-for-octet;
      refuses = refuses;
      one_outcome = one-outcome;
      cases = cases;
    }
