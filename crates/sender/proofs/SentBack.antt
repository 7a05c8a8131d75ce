-- What a send writes is what the datagram writer writes for the same fields, and reads back: the spares are packets, since
-- as many were sent, and no message is longer than a packet. Assumes nothing.
use Rattle.std.proofs.Common.{Ok}
use Prim.Native.Nat.{ℕ, suc, ◌+◌, ◌-◌, ◌%◌, ◌<◌, min}
use mathlib.Core.Path.{◌≡◌, refl, sym, ap, ◌∙◌}
use mathlib.Core.Bool.{true}
use mathlib.Core.List.{List, [], ◌∷◌, map, flatten}
use lib.ListN.{length, get_or, take, length-map, get_or-map}
use native.Mathlib.Omega.{arith}
use borrow.Author.Tests.{le-leb, le-ltb, leb-true}
use Rattle.octets.specs.ExclusiveOr.{longest}
use Rattle.octets.proofs.Laws.{and_both, length-exclusive_or}
use Rattle.length.specs.Answers.{done}
use Rattle.length.specs.Length.{within}
use Rattle.datagram.specs.Sizes.{packet_least, packet_limit, message_limit, spares_limit}
use Rattle.datagram.specs.Carried.{Extra}
use Rattle.datagram.specs.Write.{item_inside, items_inside, extra_of, datagram_octets, datagram_to_write}
use Rattle.datagram.specs.Claims.{ReadsAs}
use Rattle.datagram.specs.declared.kind.Kind.{Kind}
use Rattle.datagram.specs.declared.kind.Kind.TheVariants as kind
use Rattle.datagram.proofs.Laws.{allowed-written, Fit, fit-allowed, cut-flatten, datagram-back}
use Rattle.session.specs.View.{numbers}
use Rattle.sender.specs.Sending.{Sending, history_kept}
use Rattle.sender.specs.Carries.{settings_inside, extra_from}
use Rattle.sender.specs.Send.{packet_of, carried_next}
use Rattle.sender.specs.Sender.{history_slot, history_in, sending_in, sending_of}
use Rattle.sender.specs.Ranges.{size_in_range}
use Rattle.sender.specs.Inner.Held.{Arrays, Within}
use Rattle.sender.specs.Inner.Items.{members_in}
use Rattle.sender.specs.Inner.Next.{kind_asked, count_of, items_next}
use Rattle.sender.specs.Promise.{Sends}
use Rattle.sender.specs.declared.Sender.{Sender}
use Rattle.sender.specs.declared.Sent.{Sent}
use Rattle.sender.specs.declared.Settings.{Settings}
use Rattle.sender.specs.declared.Settings.TheVariants as settings
use Rattle.sender.proofs.Slots.{slot_small}
use Rattle.sender.proofs.History.{history-at, length-packet}
use Rattle.sender.proofs.Kept.{place-size, stored_of}
use Rattle.sender.proofs.SendAccepted.{Accepted}
use Rattle.sender.proofs.ItemLaws.{count-inside, item-spare, item-message, members-short, items-count}
use Rattle.sender.proofs.Outcome.{sent-says}

-- each length inside, all inside
inside-each : (k : Kind) (lengths : List ℕ) → ((j : ℕ) → j < length lengths → item_inside k (get_or lengths j 0) ≡ true)
    → items_inside k lengths ≡ true
unfolding items_inside
inside-each k [] each = refl
inside-each k (n ∷ lengths) each = and_both (each 0 (omega arith)) (inside-each k lengths (λ j below. each (suc j) (omega arith)))

module _ {sent : ℕ} {sizes o : List ℕ} (inside : Within sent sizes o) where
  -- a number that was sent has a packet
  spare-inside : (j : ℕ) → j < spares_limit → j < sent
      → within packet_least packet_limit (length (packet_of (history_in sent sizes o) (history_kept - suc j))) ≡ true
  unfolding size_in_range
  spare-inside j near before =
      let p = history_kept - suc j in
      let low : p < history_kept = omega arith in
      rw (history-at sent sizes o p low, length-packet (stored_of inside) (history_slot sent p) (slot_small sent p))
      (rw (le-ltb (sent + p) history_kept (omega arith)) at (place-size inside p low))

  item-inside : (s : Settings) → settings_inside s ≡ true → (j : ℕ) → j < count_of s sent
      → item_inside (kind_asked s) (length (get_or (items_next s (sending_in sent sizes o)) j [])) ≡ true
  item-inside (settings.Spares k) right j below =
      let few = leb-true k spares_limit right in
      rw (item-spare kind.Spares (min k sent) sent sizes o j refl below) (spare-inside j (omega arith) (omega arith))
  item-inside (settings.Parity n m) right j below =
      let short = members-short (stored_of inside) sent n m j in
      rw (
        item-message (kind.Parity n) m sent sizes o j refl below,
        length-exclusive_or (longest (members_in sent sizes o n m j)) (members_in sent sizes o n m j),
      )
      (and_both (le-leb 0 (longest (members_in sent sizes o n m j)) (omega arith))
      (le-leb (longest (members_in sent sizes o n m j)) message_limit short))

  pub next-fit : (s : Settings) (packet octets : List ℕ) → Accepted s packet (sending_in sent sizes o) octets
      → Fit packet (kind_asked s) (items_next s (sending_in sent sizes o))
  next-fit s packet octets a =
      let items = items_next s (sending_in sent sizes o) in
      let count = items-count (kind_asked s) (count_of s sent) sent sizes o in
      record {
        newest = a.newest;
        counted = rw count (count-inside s sent a.inside);
        sized =
            inside-each (kind_asked s) (map length items)
            (λ j below.
            let one : j < count_of s sent = omega (arith, length-map items length) in
            ap (item_inside (kind_asked s)) (get_or-map length items j []) ∙ item-inside s a.inside j one);
      }

-- what is carried, as the writer and the reader have it
pub extra-next : (s : Settings) (session : Sending)
    → extra_from s session.sent (packet_of session.history) history_kept ≡ extra_of (kind_asked s) (items_next s session)
extra-next (settings.Spares k) session = refl
extra-next (settings.Parity n m) session = refl

module _ {s : Sender} {settings : Settings} {packet old new : List ℕ} {r : Sent} {n : ℕ} (arrays : Arrays s.sizes s.octets)
    (sends : Sends s settings packet old new r) (e : r.answer ≡ Ok n) where
  fit : Fit packet (kind_asked settings) (items_next settings (sending_of s))
  fit =
      let says = sent-says sends e in
      let inside : Within s.sent s.sizes s.octets = record { arrays = arrays; ranges = says.ranges } in
      next-fit inside settings packet (take n new) says.allowed

  front : take n new
      ≡ datagram_octets (record {
        number = s.sent % numbers;
        packet = packet;
        extra = extra_of (kind_asked settings) (items_next settings (sending_of s));
      })
  front =
      (sent-says sends e).allowed.same
      ∙ ap (λ (x : Extra). datagram_octets (record { number = s.sent % numbers; packet = packet; extra = x }))
      (extra-next settings (sending_of s))

  pub writer-writes : datagram_to_write (s.sent % numbers) packet (kind_asked settings) (map length (items_next settings (sending_of s)))
      (flatten (items_next settings (sending_of s)))
      ≡ done (take n new)
  writer-writes =
      allowed-written (s.sent % numbers) (fit-allowed packet (kind_asked settings) (items_next settings (sending_of s)) fit)
      ∙ ap (λ (xs : List (List ℕ)). done (datagram_octets
      (record { number = s.sent % numbers; packet = packet; extra = extra_of (kind_asked settings) xs })))
      (cut-flatten (items_next settings (sending_of s)))
      ∙ ap done (sym front)

  pub sent-reads : ReadsAs (take n new) (carried_next settings packet (sending_of s))
  sent-reads =
      rw (extra-next settings (sending_of s))
      (datagram-back (take n new) (s.sent % numbers) packet (kind_asked settings) (items_next settings (sending_of s)) fit front)
