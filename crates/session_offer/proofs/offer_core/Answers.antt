-- `session_offer::offer_core` meets its contract: what the reader says is the offer's. Assumes nothing.
use Rattle.std.proofs.lemmas.Result.{err_from_is_err_and}
use Rattle.session_offer.proofs.Offering.{offer-refused, offer-inside, offer-there, offer-taken}
use Rattle.session_offer.proofs.offer_core.Goals as goal

pub offer_read-requires : goal.offer_read-requires
offer_read-requires c =
    let is = c.in_ok-read.was in
    record { in_ranges = c.requires; inside = offer-inside c.read.ensures is; count_in_bounds = offer-there c.read.ensures is }

pub returns-in_err-read : goal.returns-in_err-read
returns-in_err-read c =
    let p = err_from_is_err_and c.from_residual.result c.from_residual.ensures.1 in
    rw (p.1, p.2) (offer-refused c.read.ensures c.requires c.in_err-read.was)

pub returns : goal.returns
returns c = offer-taken c.read.ensures c.in_ok-read.was c.offer_read.ensures
