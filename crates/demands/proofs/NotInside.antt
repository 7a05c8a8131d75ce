-- No call on a datagram reads inside a packet: the writers' tables and sizes know lengths alone, and an offer's answer the number
-- alone. Assumes nothing.
use Rattle.std.proofs.Common.{Result}
use Prim.Native.Nat.{ℕ, ◌+◌, ◌<◌}
use mathlib.Core.Path.{◌≡◌, refl, sym, ap, ap₂, subst, ◌∙◌}
use mathlib.Core.Bool.{Bool, true, false, cond}
use mathlib.Core.List.{List, [], ◌∷◌, ◌++◌}
use mathlib.Core.Option.{Option, none, some}
use lib.ListN.{length, length-append}
use lib.Dec.{leb, ltb}
use native.Mathlib.Omega.{arith}
use Rattle.length.specs.Refusals.{no_room, repeated, too_far, late, outside_ranges}
use Rattle.length.specs.Answers.{Answer, done, refused, refuse, fitted, size_of}
use Rattle.length.specs.Tables.{first, unless}
use Rattle.length.specs.declared.Refusal.{Refusal}
use Rattle.length.proofs.Claims.{written-told}
use Rattle.length.proofs.Laws.{unless-first, done_none}
use Rattle.length.specs.declared.Reason.{Reason}
use Rattle.datagram.specs.Carried.{Carried}
use Rattle.datagram.specs.Read.{DatagramParts, read_datagram, carried_by}
use Rattle.datagram.specs.Write.{number_octets, item_octets, extra_octets, carried_of, datagram_octets, datagram_writer_rows}
use Rattle.datagram.specs.Write.{datagram_to_write}
use Rattle.datagram.specs.Promise.{datagram_read}
use Rattle.datagram.specs.Inner.Heads.{item_size}
use Rattle.datagram.specs.declared.kind.Kind.{Kind}
use Rattle.datagram.proofs.Laws.{written-allowed, datagram-length, item-length}
use Rattle.session.specs.Cells.{kept_ahead, kept_numbers}
use Rattle.session.specs.Reached.{Known}
use Rattle.session.specs.View.{View, distance}
use Rattle.session.specs.Offer as offers
use Rattle.session.specs.Offer.{accepted_at, late_from, accept}
use Rattle.session_held.specs.Table.{view_of}
use Rattle.session_held.specs.Laid.{session_in_ranges}
use Rattle.session_held.specs.declared.Session.{Session}
use Rattle.session_offer.specs.Outcome.{accepted_of}
use Rattle.session_held.specs.Promise.{Fresh}
use Rattle.session_calls.specs.Receiver.{OfferOwes, offer_of}
use Rattle.session_calls.specs.declared.Returned.{Returned}
use Rattle.session_offer.proofs.Laws.{offered-told}
use Rattle.sender.specs.Send.{carried_next}
use Rattle.sender.specs.Sender.{sending_of}
use Rattle.sender.specs.Promise.{sender_rows, to_send}
use Rattle.sender.specs.declared.Sender.{Sender}
use Rattle.sender.specs.declared.Settings.{Settings}
use Rattle.demands.specs.Common.Calls.{Calls, offer, ◌then◌, Called, offered, left_by}
use Rattle.demands.specs.Demand2.ReachedBy.{gone, ReachedBy}
use Rattle.demands.specs.NotInside.{AlikeButOctets, NotInside}
use Rattle.demands.proofs.AlikeReads.{alike-reads, alike-long, alike-back, alike-written}
use Rattle.demands.proofs.AlikeReached.{reached-alike}
use Rattle.demands.proofs.Demand2.{demand-2}

-- ---- a writer with a table, of octets of one length
-- the answer, by the sizes alone
abbrev roomed : ℕ → ℕ → Answer ℕ
roomed n room = cond (leb n room) (done n) (refuse no_room)

fitted-size : (x old : List ℕ) → size_of (fitted (done x) old) ≡ roomed (length x) (length old)
fitted-size x old = pick (leb (length x) (length old)) where
  pick : (b : Bool) → size_of (cond b (done x) (refuse no_room)) ≡ cond b (done (length x)) (refuse no_room)
  pick true = refl
  pick false = refl

size_same : (rows : List (Option Reason)) (x y old other : List ℕ) → (first rows ≡ none → length x ≡ length y) → length old ≡ length other
    → size_of (fitted (unless rows x) old) ≡ size_of (fitted (unless rows y) other)
unfolding unless first
size_same [] x y old other same room = fitted-size x old ∙ ap₂ roomed (same refl) room ∙ sym (fitted-size y other)
size_same (some n ∷ rows) x y old other same room = refl
size_same (none ∷ rows) x y old other same room = size_same rows x y old other same room

-- ---- the datagram writer
module _ (number : ℕ) (kind : Kind) (lengths packet other_packet run other_run : List ℕ) (one : length packet ≡ length other_packet)
    (two : length run ≡ length other_run) where
  rows_same : datagram_writer_rows packet kind lengths run ≡ datagram_writer_rows other_packet kind lengths other_run
  rows_same = rw (one, two)

  long_same : first (datagram_writer_rows packet kind lengths run) ≡ none
      → length (datagram_octets (carried_of number packet kind lengths run))
      ≡ length (datagram_octets (carried_of number other_packet kind lengths other_run))
  unfolding datagram_to_write
  long_same e =
      let none-given = unless-first (datagram_writer_rows packet kind lengths run) _ ∙ e in
      let d = done_none (datagram_to_write number packet kind lengths run) none-given in
      let sum = (written-allowed number packet kind lengths run d.0 d.1).0.summed in
      datagram-length number packet kind lengths run (omega arith)
      ∙ rw one refl
      ∙ sym (datagram-length number other_packet kind lengths other_run (omega arith))

  pub write_same : (old other : List ℕ) → length old ≡ length other
      → size_of (fitted (datagram_to_write number packet kind lengths run) old)
      ≡ size_of (fitted (datagram_to_write number other_packet kind lengths other_run) other)
  unfolding datagram_to_write
  write_same old other room =
      rw (← rows_same) (size_same (datagram_writer_rows packet kind lengths run) _ _ old other long_same room)

-- ---- send
around : (front x y back : List ℕ) → length x ≡ length y → length (front ++ (x ++ back)) ≡ length (front ++ (y ++ back))
around front x y back same =
    omega (arith, length-append front (x ++ back), length-append front (y ++ back), length-append x back, length-append y back)

module _ (s : Sender) (settings : Settings) (packet other_packet : List ℕ) (one : length packet ≡ length other_packet) where
  send-rows-same : sender_rows s settings packet ≡ sender_rows s settings other_packet
  send-rows-same = rw one

  send-long : length (datagram_octets (carried_next settings packet (sending_of s)))
      ≡ length (datagram_octets (carried_next settings other_packet (sending_of s)))
  unfolding datagram_octets
  send-long =
      let c = carried_next settings packet (sending_of s) in
      around (number_octets c.number) (item_octets packet) (item_octets other_packet) (extra_octets c.extra)
      (item-length packet ∙ ap item_size one ∙ sym (item-length other_packet))

  pub send-same : (old other : List ℕ) → length old ≡ length other
      → size_of (fitted (to_send s settings packet) old) ≡ size_of (fitted (to_send s settings other_packet) other)
  unfolding to_send
  send-same old other room =
      rw (← send-rows-same) (size_same (sender_rows s settings packet) _ _ old other (λ e. send-long) room)

-- ---- offer
abbrev answered : ℕ → View → Answer (Unit {0})
answered number view =
    let d = distance view.base number in
    cond (ltb d kept_ahead) (cond (accepted_at view d) (refuse repeated) (done tt)) (cond (ltb d late_from) (refuse too_far) (refuse late))

offered-as : (c : Carried) (view : View) → accepted_of (offers.offered c view) ≡ answered c.number view
unfolding offers.offered
offered-as c view =
    let d = distance view.base c.number in
    pick (ltb d kept_ahead) (accepted_at view d) (ltb d late_from) (accept d c view)
  where
    pick : (near again far : Bool) (v : View)
        → accepted_of (cond near (cond again (refuse repeated) (done v)) (cond far (refuse too_far) (refuse late)))
        ≡ cond near (cond again (refuse repeated) (done tt)) (cond far (refuse too_far) (refuse late))
    pick true true far v = refl
    pick true false far v = refl
    pick false again true v = refl
    pick false again false v = refl

offer-as : (s : List ℕ) (parts : DatagramParts) → read_datagram s ≡ done parts → (view : View)
    → accepted_of (offers.offer s view) ≡ answered parts.number view
unfolding offers.offer carried_by
offer-as s parts e view = rw e (offered-as (carried_by s parts) view)

offer-not : (s : List ℕ) (why : Refusal) → read_datagram s ≡ refused why → (view : View)
    → accepted_of (offers.offer s view) ≡ refused why
unfolding offers.offer
offer-not s why e view = rw e

view-same : {s t : List ℕ} → AlikeButOctets s t → (view : View) → accepted_of (offers.offer s view) ≡ accepted_of (offers.offer t view)
view-same {s} {t} a view = by (read_datagram s) refl where
  by : (r : Answer DatagramParts) → read_datagram s ≡ r → accepted_of (offers.offer s view) ≡ accepted_of (offers.offer t view)
  by (done parts) e = offer-as s parts e view ∙ sym (offer-as t parts (sym (alike-reads a) ∙ e) view)
  by (refused why) e = offer-not s why e view ∙ sym (offer-not t why (sym (alike-reads a) ∙ e) view)

in-ranges-as : (inside : Bool) (a b : Answer View) → accepted_of a ≡ accepted_of b
    → accepted_of (cond inside a (refuse outside_ranges)) ≡ accepted_of (cond inside b (refuse outside_ranges))
in-ranges-as true a b same = same
in-ranges-as false a b same = refl

offer-same : (session : Session) {s t : List ℕ} → AlikeButOctets s t → accepted_of (offer_of s session) ≡ accepted_of (offer_of t session)
unfolding offer_of
offer-same session {s} {t} a = in-ranges-as (session_in_ranges session) _ _ (view-same a (view_of session))

answers-same : {session : Session} {s t : List ℕ} → AlikeButOctets s t → {r q : Returned (Unit {0})} → OfferOwes session s r
    → OfferOwes session t q → r.answer ≡ q.answer
answers-same {session} a {r} {q} p t = offered-told r.answer q.answer (p.answer ∙ offer-same session a ∙ sym t.answer)

-- ---- the numbers that are then known
known_as : {first session : Session} {calls : Calls} → Fresh first → Called first calls session → {s t : List ℕ} → AlikeButOctets s t
    → {r q : Returned (Unit {0})} → OfferOwes session s r → OfferOwes session t q → (p : ℕ) → p < kept_numbers
    → Known (view_of r.session).cells p → Known (view_of q.session).cells p
unfolding left_by
known_as {calls = calls} fresh called {s} {t} a {r} {q} owes other p small known =
    let reached = (demand-2.known_numbers fresh (offered called owes) p small).0 known in
    let answer = answers-same a owes other in
    (demand-2.known_numbers fresh (offered called other) p small).1
    (subst (λ (x : Result (Unit {0}) Refusal). ReachedBy (calls then offer t x) (gone (calls then offer t x) + p)) answer
    (reached-alike calls s t r.answer (alike-reads a) (alike-long a) reached))

pub not-inside : NotInside
not-inside =
    record {
      write = λ number kind lengths packet other_packet run other_run one two {old} {new} {other_old} {other_new} {r} {q} room p t.
          written-told r q
          (p.answer ∙ write_same number kind lengths packet other_packet run other_run one two old other_old room ∙ sym t.answer);
      alike = alike-written;
      read = λ a p t. p.whole ∙ ap datagram_read (alike-reads a) ∙ sym t.whole;
      offer = λ {session} a p t. answers-same a p t;
      offer_known = λ fresh called a owes other p small. (
        known_as fresh called a owes other p small,
        known_as fresh called (alike-back a) other owes p small,
      );
      send = λ {s} {settings} {packet} {other_packet} one {old} {new} {other_old} {other_new} {r} {q} room p t.
          written-told r.answer q.answer
          (p.answer ∙ send-same s settings packet other_packet one old other_old room ∙ sym t.answer);
    }
