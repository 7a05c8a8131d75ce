-- Two answers of a call that only tells something are one: its promise is an equation with a function of what was given. Assumes
-- nothing.
use Prim.Native.Nat.{ℕ, ◌≤◌}
use mathlib.Core.Path.{◌≡◌, sym, ◌∙◌}
use mathlib.Core.List.{List}
use mathlib.Core.Logic.{⊎_elim}
use native.Mathlib.Omega.{arith}
use Rattle.octets.proofs.Laws.{below_or_not}
use Rattle.line.specs.FeedPromise.{Found}
use Rattle.demands.specs.OneOutcome.OneTold.{ToldByLengths, ToldByDatagrams, ToldByPackets, ToldByPacketReader, ToldByStores}
use Rattle.demands.specs.OneOutcome.OneTold.{ToldByHeld}
use Rattle.demands.specs.OneOutcome.OneTold.{ToldBySending, ToldByLines, ToldByFrames, ToldByImages, OneTold}

-- both are what is told
pub told-one : {A : Type 0} {told : A} (r q : A) → r ≡ told → q ≡ told → r ≡ q
told-one r q a b = a ∙ sym b

by_lengths : ToldByLengths
by_lengths =
    record {
      reason_number = λ why. told-one;
      reason_numbered = λ number. told-one;
      refusal = λ number r q a b. a.answer ∙ sym b.answer;
      refusal_at = λ number place r q a b. a.answer ∙ sym b.answer;
      refusal_number = λ why. told-one;
      refusal_further = λ start why. told-one;
      length_two_from = told-one;
      length_limit = told-one;
      length_refusal = λ found r q a b. a.answer ∙ sym b.answer;
      octet_wide = λ octet r q a b. a.same ∙ sym b.same;
      within = λ least most n. told-one;
    }

by-datagrams : ToldByDatagrams
by-datagrams =
    record {
      packet_least = told-one;
      packet_limit = told-one;
      message_least = told-one;
      message_limit = told-one;
      datagram_limit = told-one;
      spares_least = told-one;
      spares_limit = told-one;
      packets_least = told-one;
      packets_limit = told-one;
      messages_least = told-one;
      messages_limit = told-one;
      reach_limit = told-one;
      count_inside = λ kind count. told-one;
      kind_size = λ kind count. told-one;
      length_size = λ n r q a b. a.answer ∙ sym b.answer;
    }

by-packets : ToldByPackets
by-packets =
    record {
      fields_least = told-one;
      fields_limit = told-one;
      types_limit = told-one;
      choice_of = λ octet. told-one;
      values = λ named kind. told-one;
      types = λ named. told-one;
      right_fields = λ kind present. told-one;
      right_data = λ kind present. told-one;
    }

by-packet-reader : ToldByPacketReader
by-packet-reader =
    record { may_follow = λ ending left. told-one; no_fields = told-one; refused = λ why. told-one }

by-stores : ToldByStores
by-stores = record { wide = λ n. told-one; passing = told-one }

by-held : ToldByHeld
by-held =
    record {
      session_limit = told-one;
      kept = told-one;
      heard = told-one;
      kept_octets = told-one;
      message_octets = told-one;
      places = told-one;
      kept_slot = λ number. told-one;
      heard_slot = λ number. told-one;
      total = λ c. told-one;
    }

by-sending : ToldBySending
by-sending = record { sender_limit = told-one; history_kept = told-one; history_octets = told-one; slot_of = λ number. told-one }

-- no line feed is found behind another
no-later : (s : List ℕ) {r q : ℕ} → Found s r → Found s q → r ≤ q
no-later s {r} {q} a b =
    ⊎_elim (λ before. absurd (a.begun.plain q before (b.feed (omega (arith, a.begun.inside))))) (λ so. so) (below_or_not q r)

by_lines : ToldByLines
by_lines =
    record {
      line_limit = told-one;
      kept_limit = told-one;
      step_limit = told-one;
      all_digits = λ line. told-one;
      kind_octet = λ kind. told-one;
      find_feed = λ s r q a b. let up = no-later s a b in let down = no-later s b a in omega arith;
    }

by_frames : ToldByFrames
by_frames = record { frame_limit = told-one }

by-images : ToldByImages
by-images = record { image_line = told-one; image_limit = told-one }

pub one_told : OneTold
one_told =
    record {
      by_lengths = by_lengths;
      by_datagrams = by-datagrams;
      by_packets = by-packets;
      by_packet_reader = by-packet-reader;
      by_stores = by-stores;
      by_held = by-held;
      by_sending = by-sending;
      by_lines = by_lines;
      by_frames = by_frames;
      by_images = by-images;
    }
