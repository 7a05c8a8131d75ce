-- The four conditions are needed: what the calls return is computed. Assumes nothing.
use Prim.Native.Nat.{ℕ, ◌<◌}
use Rattle.session_release.specs.declared.Released.{Released}
use mathlib.Core.Path.{◌≡◌, refl, sym, ap, subst, ◌∙◌}
use mathlib.Core.Bool.{true}
use mathlib.Core.List.{List, [], ◌∷◌, append-nil}
use lib.ListN.{length, get_or, take}
use native.Mathlib.Omega.{arith}
use borrow.Author.Tests.{le-ltb}
use Rattle.octets.specs.Place.{tab}
use Rattle.length.specs.Answers.{done}
use Rattle.length.specs.Length.{length_at, allowed, length_within}
use Rattle.datagram.specs.Carried.{spares, Carried}
use Rattle.datagram.specs.Read.{item_at, items_at, end_of, spares_at, extra_at, number_of, whole_of, read_datagram, carried_by}
use Rattle.session.specs.Cells.{cell_at, kept_before}
use Rattle.session.specs.Held.{messages_of, messages_in_row, held_messages}
use Rattle.session.specs.Honest.{TrueCells}
use Rattle.session.specs.Reached.{Known}
use Rattle.session.specs.Repair.{first_usable, repair_f, repair}
use Rattle.session.specs.View.{View, sum, fresh_view, gone_on}
use Rattle.session.specs.Offer as offers
use Rattle.session.specs.Offer.{keep, keep_spares, accept, offered}
use Rattle.session.specs.Release.{release, moved_on}
use Rattle.session_held.specs.Table.{lent_by, view_of}
use Rattle.session_held.specs.declared.Session.{Session}
use Rattle.session_calls.specs.Receiver.{SeenAs}
use Rattle.session_calls.specs.declared.Returned.{Returned}
use Rattle.sender.specs.Honest.{packet_at}
use Rattle.line.specs.Hex.{digit_for, hex_of}
use Rattle.image.specs.Layout.{image_version02}
use Rattle.image.specs.Image.{image_text, read_text, LentOctets}
use Rattle.image.specs.Parts.{high_first_octets}
use Rattle.image.specs.Octets.{image_lines}
use Rattle.image.proofs.Claims as images
use Rattle.image.proofs.Laws.{lent-octets, reads02}
use Rattle.demands.specs.Common.History as moves
use Rattle.demands.specs.Common.History.{after_move}
use Rattle.demands.specs.Common.History.{Left}
use Rattle.demands.specs.Common.Calls as calls
use Rattle.demands.specs.Common.Calls.{start, ◌then◌, Called, at_start, released, left_by}
use Rattle.demands.specs.Demand2.Demand2.{FreshLeaves}
use Rattle.demands.specs.Demand3.Feeding.{Near, sent_at, fresh}
use Rattle.demands.specs.Demand3.Example.{example_row}
use Rattle.demands.specs.Requests.Handover.{Wrote, ReadAs}
use Rattle.demands.specs.Sharp.{GaveUp, strange, Misled, AlteredReads, CountedOn, AnotherImage, SecondDatagram, Sharp}
use Rattle.demands.proofs.Calling.{fresh-seen, released-seen}
use Rattle.demands.proofs.Demand2.{demand-2}
use Rattle.demands.proofs.ImageCalls.{wrote-image}
use Rattle.demands.proofs.OfferedTo.{then-seen}
use Rattle.demands.proofs.Example as example

-- ---- images
-- what was written reads as the session that wrote it
reads_as : {view : View} {t : Session} {text : List ℕ} → SeenAs view t → LentOctets (lent_by t) → Wrote t text → ReadAs text t
reads_as {t = t} {text} seen small w =
    let reads : read_text text ≡ done (view_of t) = rw (wrote-image w).is (reads02 (view_of t) seen.within.sound (lent-octets small)) in
    record { answer = sym reads; state = seen.within }

-- every image begins with `02`
names-02 : (view : View) → take 2 (image_text image_version02 view) ≡ 0x30 ∷ 0x32 ∷ []
unfolding image_lines high_first_octets hex_of digit_for
names-02 view = ap (take 2) ((images.claims).lines image_version02 view)

-- ---- number 0 given up
abbrev without0 : View
without0 = moved_on fresh_view

gives_up : (room : ℕ) → after_move (moves.release true room) fresh_view ≡ without0
unfolding after_move release fresh_view
gives_up room = rw (le-ltb room 0 (omega arith))

base-1 : without0.base ≡ 1
unfolding fresh_view gone_on
base-1 = refl

sum-1 : sum without0.counts ≡ 1
unfolding fresh_view gone_on
sum-1 = refl

base-0 : fresh_view.base ≡ 0
unfolding fresh_view
base-0 = refl

sum-0 : sum fresh_view.counts ≡ 0
unfolding fresh_view
sum-0 = refl

none_left : length (left_by start) ≡ 0
unfolding left_by
none_left = refl

module _ {s : Session} {r : Returned Released} {text later : List ℕ} (g : GaveUp s r text later) where
  seen-later : SeenAs without0 r.session
  seen-later =
      subst (λ (v : View). SeenAs v r.session) (gives_up (length g.old)) (released-seen (fresh-seen s g.begun) g.call)

  not_same : r.session ≡ s → ⊥
  not_same e =
      omega (
        arith,
        ap (λ (x : Session). (view_of x).base) e,
        ap (λ (v : View). v.base) seen-later.view,
        ap (λ (v : View). v.base) g.begun.view,
        base-1,
        base-0,
      )

  altered : AlteredReads s r.session text later
  altered =
      record {
        agrees =
            ap (take 2) (wrote-image g.second).is
            ∙ names-02 (view_of r.session)
            ∙ sym (ap (take 2) (wrote-image g.first).is ∙ names-02 (view_of s));
        reads = reads_as seen-later g.small g.second;
        another = not_same;
      }

  called : Called s (start then calls.release true g.old g.new r.answer) r.session
  called = released at_start g.call

  none-counted : FreshLeaves (left_by start) (view_of r.session) → ⊥
  none-counted l = omega (arith, l.advance, ap (λ (v : View). sum v.counts) seen-later.view, sum-1, sum-0, none_left)

  counted-on : CountedOn s r.session (start then calls.release true g.old g.new r.answer) later
  unfolding left_by
  counted-on =
      record {
        before = called;
        reads = reads_as seen-later g.small g.second;
        after = at_start;
        both =
            subst (λ (l : List Left). FreshLeaves l (view_of r.session))
            (sym (append-nil (left_by (start then calls.release true g.old g.new r.answer))))
            (demand-2.leaves g.begun called);
        after_only = none-counted;
      }

-- ---- a datagram that is not the sender's
abbrev carried : Carried
carried = record { number = 0; packet = 0x07 ∷ []; extra = spares [] }

abbrev misled : View
misled = accept 0 carried fresh_view

takes-strange : offers.offer strange fresh_view ≡ done misled
unfolding offers.offer offered fresh_view read_datagram carried_by number_of whole_of extra_at spares_at items_at item_at length_within
    allowed end_of
    length_at
takes-strange = refl

long : kept_before < length misled.cells
unfolding fresh_view accept keep keep_spares repair repair_f first_usable messages_of messages_in_row held_messages tab
long = omega arith

known-0 : Known misled.cells kept_before
unfolding fresh_view accept keep keep_spares repair repair_f first_usable messages_of messages_in_row held_messages tab
known-0 = refl

kept-07 : get_or (cell_at misled.cells kept_before).octets 0 0 ≡ 0x07
unfolding fresh_view accept keep keep_spares repair repair_f first_usable messages_of messages_in_row held_messages tab
kept-07 = refl

sent-06 : get_or (sent_at example_row misled kept_before) 0 0 ≡ 0x06
unfolding fresh_view accept packet_at
sent-06 = refl

not-true : TrueCells (sent_at example_row misled) misled.cells → ⊥
not-true true-cells = omega (arith, (true-cells kept_before long known-0).same 0, kept-07, sent-06)

near-0 : Near 0 fresh_view
unfolding fresh_view
near-0 = record { ahead = omega arith; behind = omega arith }

module _ {s : Session} {o : Returned (Unit {0})} {text : List ℕ} (m : Misled s o text) where
  seen-misled : SeenAs misled o.session
  seen-misled = then-seen (fresh-seen s m.begun) m.call (done misled) takes-strange

  known-wrong : TrueCells (sent_at example_row (view_of o.session)) (view_of o.session).cells → ⊥
  known-wrong cells = not-true (subst (λ (v : View). TrueCells (sent_at example_row v) v.cells) seen-misled.view cells)

  another-image : AnotherImage s o.session text
  another-image =
      record {
        honest = (example.example).honest;
        fed = fresh m.begun;
        reads = reads_as seen-misled m.small m.wrote;
        starts_not = λ starts. known-wrong starts.known_right;
      }

  second-datagram : SecondDatagram s o
  second-datagram =
      record {
        honest = (example.example).honest;
        fed = fresh m.begun;
        sent = omega arith;
        near = subst (Near 0) (sym m.begun.view) near-0;
        agrees = refl;
        wrong = known-wrong;
      }

pub sharp : Sharp
sharp =
    record {
      altered = λ s r text later g. altered g;
      counted_on = λ s r text later g. counted-on g;
      another_image = λ s o text m. another-image m;
      second_datagram = λ s o text m. second-datagram m;
    }
