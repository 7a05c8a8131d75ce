-- Demand 2, proved part by part. Assumes nothing.
use Rattle.demands.specs.Demand2.Demand2.{Demand2}
use Rattle.demands.proofs.Calling.{fresh-seen, saved_seen, begins-seen, seen-ranges, called_on}
use Rattle.demands.proofs.Leaving.{saved-leaves, fresh-leaves}
use Rattle.demands.proofs.Keeping.{called-keeps}
use Rattle.demands.proofs.KnownReached.{known-reached-by}
use Rattle.demands.proofs.OneNote.{one-note}
use Rattle.demands.proofs.Noting.{noted-by, left-noted}
use Rattle.demands.proofs.Never17.{never-17}
use Rattle.demands.proofs.SendNever17.{send-never-17}
use Rattle.demands.proofs.RoundTrips.{round-trips}

pub demand-2 : Demand2
demand-2 =
    record {
      round_trips = round-trips;
      known_numbers = λ {s} fresh called p small. known-reached-by (called_on (fresh-seen s fresh) called) p small;
      notes = λ {s} fresh called p small known. noted-by (called_on (fresh-seen s fresh) called) p small known;
      left_notes = λ {s} fresh called. left-noted (called_on (fresh-seen s fresh) called);
      one_note = one-note;
      leaves = λ {s} fresh called. fresh-leaves (called_on (fresh-seen s fresh) called);
      saved_leaves = λ {s} saved called.
          saved-leaves (seen-ranges _ s (saved_seen s saved)) (called_on (saved_seen s saved) called);
      keeps = λ {s} begins called more p small known. called-keeps (begins-seen s begins) called more p small known;
      goes_on = λ {s} begins called. called_on (begins-seen s begins) called;
      never17 = never-17;
      send_never17 = send-never-17;
    }
