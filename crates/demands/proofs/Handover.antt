-- A session that is handed over: what was read is the very session that was written, so that whatever held of the one holds of the other.
-- Assumes nothing.
use Prim.Native.Nat.{ℕ}
use mathlib.Core.Path.{◌≡◌, refl, sym, ap, subst, ◌∙◌}
use mathlib.Core.Logic.{inr}
use mathlib.Core.List.{List, ◌++◌, append_assoc, append-nil}
use Rattle.length.specs.Answers.{done}
use Rattle.length.specs.Claims.{Octets}
use Rattle.length.proofs.Laws.{done-same}
use Rattle.session.specs.View.{View}
use Rattle.session_held.specs.Table.{lent_by, view_of}
use Rattle.session_held.specs.Laid.{InRanges}
use Rattle.session_held.specs.declared.Session.{Session}
use Rattle.session_held.proofs.Laws.{session-in-ranges, in-ranges-true}
use Rattle.sender.specs.Honest.{HonestSender}
use Rattle.image.specs.Layout.{ImageVersion, image_version02}
use Rattle.image.specs.Image.{edition_named, read_text, read_image, LentOctets}
use Rattle.image.proofs.Claims as images
use Rattle.demands.specs.Common.History.{Left}
use Rattle.demands.specs.Common.Calls.{Calls, start, ◌then◌, Called, at_start, offered, released, solved, left_in, left_by}
use Rattle.demands.specs.Demand2.Demand2.{Saved, Begins, fresh, saved, FreshLeaves, SavedLeaves}
use Rattle.demands.specs.Demand3.Feeding.{Fed}
use Rattle.demands.specs.Demand2.GoesOn.{GoesOn}
use Rattle.demands.specs.Requests.Handover.{Wrote, ReadAs, IsRead, Names, followed_by, GoesOnFrom, StartsAt, Handover}
use Rattle.demands.proofs.Calling.{begins-seen, called-went}
use Rattle.demands.proofs.RoundTrips.{puts_back}
use Rattle.demands.proofs.Demand2.{demand-2}
use Rattle.demands.proofs.Demand3.{demand-3}
use Rattle.demands.proofs.ImageTexts.{reads-named, done-named}
use Rattle.demands.proofs.ImageCalls.{wrote-image, to_write, read_same, reads-back, every_one, refuses}

-- ---- demand 2 goes on
-- some calls and then others are one chain, and so is what left by them
chain-on : {first t u : Session} {before after : Calls} → Called first before t → Called t after u
    → Called first (followed_by before after) u
unfolding followed_by
chain-on c at_start = c
chain-on c (offered rest owes) = offered (chain-on c rest) owes
chain-on c (released rest owes) = released (chain-on c rest) owes
chain-on c (solved rest owes) = solved (chain-on c rest) owes

left-on : (before after : Calls) → left_by (followed_by before after) ≡ left_by before ++ left_by after
unfolding followed_by left_by
left-on before start = sym (append-nil (left_by before))
left-on before (after then call) =
    ap (λ (l : List Left). l ++ left_in call) (left-on before after) ∙ append_assoc (left_by before) (left_by after) (left_in call)

called-within : {first s : Session} {calls : Calls} → Begins first → Called first calls s → InRanges (lent_by s)
called-within {first} begins called = (called-went (begins-seen first begins) called).seen.within

one-history : {first s t u : Session} {before after : Calls} {text : List ℕ} → Begins first → Called first before s → LentOctets (lent_by s)
    → Wrote s text → ReadAs text t → Called t after u
    → Called first (followed_by before after) u
one-history {u = u} {after = after} begins called small w read more =
    let same = read_same (called-within begins called) small w read in
    chain-on called (subst (λ (x : Session). Called x after u) same more)

-- a restored session is a saved one, and holds what its text reads as
read-saved : {text : List ℕ} {t : Session} → ReadAs text t → Saved t
read-saved read =
    let laid = read.state.laid in
    record {
      sized = record { table = laid.long; octets = laid.octets; messages = laid.messages };
      in_ranges = in-ranges-true read.state;
    }

rewinds : {text : List ℕ} {image : View} {t : Session} → read_text text ≡ done image → ReadAs text t → GoesOnFrom image t
rewinds {text} {image} {t} e read =
    let holds : view_of t ≡ image = done-same (read.answer ∙ e) in
    let is = read-saved read in
    record {
      saved = is;
      holds = holds;
      goes_on = λ {u} {calls} called.
          subst (λ (view : View). GoesOn view calls (view_of u)) holds (demand-2.goes_on (saved is) called);
      leaves = λ {u} {calls} called.
          subst (λ (view : View). SavedLeaves view (left_by calls) (view_of u)) holds (demand-2.saved_leaves is called);
      keeps = λ called more. demand-2.keeps (saved is) called more;
      never17 = λ called. demand-2.never17 (saved is) called;
    }

-- ---- demand 3 starts there
starts-at : (row datagrams : List (List ℕ)) → HonestSender row datagrams → {s t : Session} {text : List ℕ} → Fed row datagrams s
    → LentOctets (lent_by s) → Wrote s text → ReadAs text t
    → StartsAt row datagrams t
starts-at row datagrams honest {s} {t} f small w read =
    let came = (demand-3.fed_calls row datagrams s f).1 in
    let same = read_same (called-within (fresh came.fresh) came.called) small w read in
    let fed : Fed row datagrams t = subst (Fed row datagrams) (sym same) f in
    record {
      fed = fed;
      no_less_known = demand-3.no_less_known row datagrams honest t fed;
      known_right = demand-3.known_right row datagrams honest t fed;
      burst_back = demand-3.burst_back row datagrams honest t fed;
    }

-- ---- one image
-- what was read of an edition is what that edition reads, and the session's image there
module _ (edition : ImageVersion) (is : IsRead edition) {text : List ℕ} {t : Session} (n : Names edition text) (read : ReadAs text t) where
  pub edition-reads : read_image edition text ≡ done (view_of t)
  edition-reads = sym (reads-named text edition is n) ∙ sym read.answer

one-read : {t : Session} {text other : List ℕ} → Octets text → Octets other → edition_named text ≡ edition_named other
    → ReadAs text t → ReadAs other t → text ≡ other
one-read {t} {text} {other} small few same read again =
    let mine = done-named text (view_of t) (sym read.answer) in
    let its = done-named other (view_of t) (sym again.answer) in
    let n : Names mine.0 other = record { reads = its.2.reads; octet = sym same ∙ mine.2.octet } in
    (images.claims).one_image.one mine.0 text other (view_of t) small few (edition-reads mine.0 mine.1 mine.2 read)
    (edition-reads mine.0 mine.1 n again)

pub handover : Handover
handover =
    record {
      reads_back = λ {s} {text} {r} sized small w read.
          reads-back (session-in-ranges s (wrote-image w).ranges sized) small w r.session r.answer read;
      every_one = every_one;
      one_written = λ w v. (wrote-image w).is ∙ sym (wrote-image v).is;
      writes_back = λ {t} {text} small n read put room.
          let reads = edition-reads image_version02 (inr refl) n read in
          puts_back put
          (to_write read.state ∙ ap done ((images.claims).one_image.written image_version02 text (view_of t) small reads))
          refl
          room;
      one_read = one-read;
      rewinds = rewinds;
      one_history = one-history;
      once_each = λ {u = u} {before} {after} f called small w read more.
          subst (λ (l : List Left). FreshLeaves l (view_of u)) (left-on before after)
          (demand-2.leaves f (one-history (fresh f) called small w read more));
      demand3 = λ row datagrams honest f small w read. starts-at row datagrams honest f small w read;
      refuses = refuses;
    }
