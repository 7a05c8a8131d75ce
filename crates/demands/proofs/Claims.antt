-- The demands, each proved in its file. Assumes nothing.
use Rattle.packet.proofs.Claims as packets
use Rattle.sender.proofs.Claims as sending
use Rattle.frame.proofs.Claims as frames
use Rattle.frame_feed.proofs.Claims as frame_feed
use Rattle.trace_replay.proofs.Claims as replays
use Rattle.trace_compare.proofs.Claims as comparisons
use Rattle.sender_to_modem.proofs.Claims as sold_line
use Rattle.host.proofs.Claims as host
use Rattle.demands.specs.Claims.{Claims}
use Rattle.demands.proofs.Demand1.{demand-1}
use Rattle.demands.proofs.Demand2.{demand-2}
use Rattle.demands.proofs.Demand3.{demand-3}
use Rattle.demands.proofs.Example as example
use Rattle.demands.proofs.Burst as burst
use Rattle.demands.proofs.NotInside.{not-inside}
use Rattle.demands.proofs.OneOutcome.{one-outcome}
use Rattle.demands.proofs.Sheet.{twelve-cases, mended-example}
use Rattle.demands.proofs.Program.{program-claims}
use Rattle.demands.proofs.PromiseCases.{promise-cases}
use Rattle.demands.proofs.Contracts.{library-contracts, host-contracts}
use Rattle.demands.proofs.SecondReader.{second-reader}
use Rattle.demands.proofs.OneCall.{one-call}
use Rattle.demands.proofs.Handover as handover
use Rattle.demands.proofs.Editions as editions
use Rattle.demands.proofs.Fits as fits
use Rattle.demands.proofs.Losses.{losses}
use Rattle.demands.proofs.Sharp.{sharp}
use Rattle.demands.proofs.RunInstances.{run-instances}
use Rattle.demands.proofs.SolvedExample.{solved-example}
use Rattle.demands.proofs.CutShortExample.{cut-short-example}

pub claims : Claims
claims =
    record {
      contracts = library-contracts;
      host_contracts = host-contracts;
      demand1 = demand-1;
      cut_short_example = cut-short-example;
      demand2 = demand-2;
      demand3 = demand-3;
      sends_honest = (sending.claims).chains;
      example = example.example;
      burst = burst.burst;
      solved_example = solved-example;
      not_inside = not-inside;
      one_outcome = one-outcome;
      promise_cases = promise-cases;
      twelve_cases = twelve-cases;
      mended_example = mended-example;
      program = program-claims;
      whole_frames = frames.claims;
      frames_from_session = frame_feed.claims;
      second_reader = second-reader;
      replay = replays.claims;
      one_call = one-call;
      handover = handover.handover;
      sharp = sharp;
      run_instances = run-instances;
      editions = editions.editions;
      fits = fits.fits;
      both_editions = (packets.claims).plain_alike;
      comparison = comparisons.claims;
      losses = losses;
      line_sold = sold_line.claims;
      host_calls = host.claims;
    }
