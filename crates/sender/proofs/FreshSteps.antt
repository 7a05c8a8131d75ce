-- A fresh session, in the words of the code. Assumes nothing.
use Prim.Native.Nat.{ℕ, ◌+◌, ◌<◌}
use mathlib.Core.Path.{◌≡◌, ap, ◌∙◌}
use mathlib.Core.Bool.{true}
use mathlib.Core.List.{List, []}
use lib.ListN.{get_or, replicate}
use native.Mathlib.Omega.{arith}
use borrow.Author.Tests.{lt-ltb}
use Rattle.octets.proofs.Laws.{tab-ext, tab-same, all_below-of}
use Rattle.session_slots.specs.Store.{zeros, part}
use Rattle.session_slots.proofs.Laws.{length-zeros, zeros-at, zeros_past-zeros}
use Rattle.sender.specs.Sending.{history_kept, fresh_sending}
use Rattle.sender.specs.Sender.{history_slot, packet_in, history_in, history_octets}
use Rattle.sender.specs.Ranges.{size_in_range, place_in_range, history_in_ranges}
use Rattle.sender.specs.Inner.Held.{Arrays}
use Rattle.sender.specs.Promise.{SenderMade}

module _ (sizes o : List ℕ) (arrays : Arrays sizes o) (none : (i : ℕ) → get_or sizes i 0 ≡ 0) (clean : (k : ℕ) → get_or o k 0 ≡ 0) where
  history-none : history_in 0 sizes o ≡ replicate history_kept []
  unfolding history_in part
  history-none =
      tab-ext history_kept (λ p. packet_in sizes o (history_slot 0 p)) (λ p. [])
      (λ p small. ap (λ (n : ℕ). part o (history_slot 0 p) n) (none (history_slot 0 p)))
      ∙ tab-same history_kept []

  place_none : (p : ℕ) → p < history_kept → place_in_range 0 sizes o p ≡ true
  unfolding place_in_range size_in_range
  place_none p small =
      rw (lt-ltb (0 + p) history_kept (omega arith), none (history_slot 0 p)) (zeros_past-zeros o (history_slot 0 p) 0 clean)

  ranges-none : history_in_ranges 0 sizes o ≡ true
  unfolding history_in_ranges
  ranges-none = all_below-of history_kept (place_in_range 0 sizes o) place_none

  fresh-of : SenderMade (record { sent = 0; sizes = sizes; octets = o })
  unfolding fresh_sending
  fresh-of =
      record {
        state = ap (λ (h : List (List ℕ)). record { sent = 0; history = h }) history-none;
        proper = record { arrays = arrays; ranges = ranges-none };
      }

pub fresh-made : SenderMade (record { sent = 0; sizes = replicate history_kept 0; octets = replicate history_octets 0 })
unfolding zeros
fresh-made =
    fresh-of (replicate history_kept 0) (replicate history_octets 0)
    (record { slots = length-zeros history_kept; octets = length-zeros history_octets })
    (zeros-at history_kept)
    (zeros-at history_octets)
