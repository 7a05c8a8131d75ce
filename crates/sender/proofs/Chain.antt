-- A chain of sends from a fresh session is an honest sender: after each send the session holds the last 32 places of the row
-- of all packets that were accepted, so that what it sends next is what the row gives. Assumes nothing.
use Rattle.std.proofs.Common.{Ok}
use Prim.Native.Nat.{ℕ, suc, ◌+◌, ◌-◌, ◌%◌, ◌≤◌, ◌<◌}
use mathlib.Core.Path.{◌≡◌, refl, sym, ap, ap₂, ◌∙◌}
use mathlib.Core.Logic.{⊎_elim}
use mathlib.Core.Bool.{true}
use mathlib.Core.List.{List, [], ◌∷◌, ◌++◌}
use lib.ListN.{length, get_or, take, drop, length-append, get_or-append}
use lib.Seq.{get_or_at}
use native.Mathlib.Nat.{not-suc-le-zero}
use native.Mathlib.Omega.{arith}
use Rattle.octets.specs.Place.{tab}
use Rattle.octets.proofs.Laws.{tab-at, tab-ext, tab-shift, tab-same, below_or_not}
use Rattle.datagram.specs.Carried.{Extra, Carried}
use Rattle.datagram.specs.Write.{datagram_octets}
use Rattle.session.specs.View.{numbers}
use Rattle.sender.specs.Sending.{Sending, history_kept, newest_place, fresh_sending, sent_on}
use Rattle.sender.specs.Carries.{settings_inside, carried_from}
use Rattle.sender.specs.Send.{packet_of, packet_inside, carried_next}
use Rattle.sender.specs.Sender.{sending_of}
use Rattle.sender.specs.Promise.{Proper, SenderMade, Sends}
use Rattle.sender.specs.Honest.{packet_at, carried_at, HonestAt, HonestSender}
use Rattle.sender.specs.Run.{Run, fresh, sent, refused}
use Rattle.sender.specs.declared.Sender.{Sender}
use Rattle.sender.specs.declared.Sent.{Sent}
use Rattle.sender.specs.declared.Settings.{Settings}
use Rattle.sender.proofs.HonestLaws.{extra-same, packet_at-none, packet_at-old, packet_at-new, row_old, row_new, carried_at-old}
use Rattle.sender.proofs.SendAccepted.{Accepted}
use Rattle.sender.proofs.Outcome.{sent-says, refused_says}

-- the session after a row: so many sent, and the last 32 places
abbrev pub sending_after : List (List ℕ) → Sending
sending_after row = record { sent = length row; history = tab history_kept (λ p. packet_at row (length row + p)) }

fresh-after : fresh_sending ≡ sending_after []
unfolding fresh_sending
fresh-after =
    ap (λ (h : List (List ℕ)). record { sent = 0; history = h })
    (sym (tab-ext history_kept (λ p. packet_at [] (0 + p)) (λ p. []) (λ p small. packet_at-none (0 + p)) ∙ tab-same history_kept []))

module _ (row : List (List ℕ)) (x : List ℕ) where
  longer : length (row ++ (x ∷ [])) ≡ length row + 1
  longer = length-append row (x ∷ [])

  history-after : drop 1 (tab history_kept (λ p. packet_at row (length row + p))) ++ (x ∷ [])
      ≡ tab history_kept (λ p. packet_at (row ++ (x ∷ [])) (length row + 1 + p))
  history-after =
      sym
      (tab-shift newest_place (λ p. packet_at (row ++ (x ∷ [])) (length row + 1 + p)) (λ p. packet_at row (length row + p)) x
      (λ p low.
      let same : length row + 1 + p ≡ length row + suc p = omega arith in
      ap (packet_at (row ++ (x ∷ []))) same ∙ packet_at-old row x (length row + suc p) (omega arith))
      (let last : length row + 1 + newest_place ≡ history_kept + length row = omega arith in
      ap (packet_at (row ++ (x ∷ []))) last ∙ packet_at-new row x))

  on-after : sent_on x (sending_after row) ≡ sending_after (row ++ (x ∷ []))
  unfolding sent_on
  on-after =
      ap (λ (h : List (List ℕ)). record { sent = length row + 1; history = h }) history-after
      ∙ ap (λ (n : ℕ). record { sent = n; history = tab history_kept (λ p. packet_at (row ++ (x ∷ [])) (n + p)) }) (sym longer)

  -- what is sent next is what the row gives
  next-after : (s : Settings) → settings_inside s ≡ true → carried_next s x (sending_after row) ≡ carried_at s (row ++ (x ∷ [])) (length row)
  next-after s inside =
      ap₂ (λ (p : List ℕ) (e : Extra). record { number = length row % numbers; packet = p; extra = e })
      (sym (row_new row x))
      (extra-same (packet_of (tab history_kept (λ p. packet_at row (length row + p)))) history_kept (packet_at (row ++ (x ∷ [])))
      (history_kept + length row) (omega arith) (omega arith)
      (λ d some far.
      let back : length row + (history_kept - d) ≡ (history_kept + length row) - d = omega arith in
      tab-at history_kept (λ p. packet_at row (length row + p)) (history_kept - d) [] (omega arith)
      ∙ ap (packet_at row) back
      ∙ sym (packet_at-old row x ((history_kept + length row) - d) (omega arith)))
      s
      (length row)
      inside)

-- ---- an honest sender, and one datagram more
honest-none : HonestSender [] []
honest-none =
    record {
      packets = λ S below. absurd (not-suc-le-zero below);
      places = refl;
      follow = λ S below. absurd (not-suc-le-zero below);
    }

module _ {row datagrams : List (List ℕ)} (h : HonestSender row datagrams) (x d : List ℕ) (inside : packet_inside x ≡ true)
    (last : HonestAt (row ++ (x ∷ [])) (length row) d) where
  packets-more : (S : ℕ) → S < length (row ++ (x ∷ [])) → packet_inside (get_or (row ++ (x ∷ [])) S []) ≡ true
  packets-more S below =
      ⊎_elim (λ before. ap packet_inside (row_old row x S before) ∙ h.packets S before)
      (λ end.
      let at : S ≡ length row = omega (arith, longer row x) in
      ap (λ (n : ℕ). packet_inside (get_or (row ++ (x ∷ [])) n [])) at ∙ ap packet_inside (row_new row x) ∙ inside)
      (below_or_not S (length row))

  follow-old : (S : ℕ) → S < length row → HonestAt (row ++ (x ∷ [])) S (get_or (datagrams ++ (d ∷ [])) S [])
  follow-old S before =
      let old = h.follow S before in
      let long = h.places in
      record {
        settings = old.settings;
        inside = old.inside;
        follows =
            get_or-append datagrams (d ∷ []) [] S (omega arith)
            ∙ old.follows
            ∙ sym (ap datagram_octets (carried_at-old row x old.settings S old.inside before));
      }

  follow-new : (S : ℕ) → S ≡ length row → HonestAt (row ++ (x ∷ [])) S (get_or (datagrams ++ (d ∷ [])) S [])
  follow-new S at =
      let here : get_or (datagrams ++ (d ∷ [])) (length row) [] ≡ d = get_or_at datagrams d [] [] (length row) h.places in
      rw (at, here) last

  honest-more : HonestSender (row ++ (x ∷ [])) (datagrams ++ (d ∷ []))
  honest-more =
      record {
        packets = packets-more;
        places = rw (length-append datagrams (d ∷ []), longer row x, h.places);
        follow = λ S below.
            ⊎_elim (λ before. follow-old S before) (λ end. follow-new S (omega (arith, longer row x))) (below_or_not S (length row));
      }

-- ---- the chain
pub record RunHolds (s : Sender) (row datagrams : List (List ℕ)) : Type 0 where
  pub state : sending_of s ≡ sending_after row
  pub proper : Proper s
  pub honest : HonestSender row datagrams

run-sent : {s : Sender} {row datagrams : List (List ℕ)} {settings : Settings} {packet old new : List ℕ} {r : Sent} {n : ℕ}
    → RunHolds s row datagrams → Sends s settings packet old new r → r.answer ≡ Ok n
    → RunHolds r.sender (row ++ (packet ∷ [])) (datagrams ++ (take n new ∷ []))
run-sent {s} {row} {datagrams} {settings} {packet} {old} {new} {r} {n} held sends e =
    let says = sent-says sends e in
    let a = says.allowed in
    record {
      state = says.on.state ∙ ap (sent_on packet) held.state ∙ on-after row packet;
      proper = says.on.proper;
      honest =
          honest-more held.honest packet (take n new) a.newest
          (record {
            settings = settings;
            inside = a.inside;
            follows =
                a.same
                ∙ ap (λ (session : Sending). datagram_octets (carried_next settings packet session)) held.state
                ∙ ap datagram_octets (next-after row packet settings a.inside);
          });
    }

pub run_holds : {s : Sender} {row datagrams : List (List ℕ)} → Run s row datagrams → RunHolds s row datagrams
run_holds (fresh made) = record { state = made.state ∙ fresh-after; proper = made.proper; honest = honest-none }
run_holds (sent run sends e) = run-sent (run_holds run) sends e
run_holds (refused run sends e) = rw (refused_says sends e).0 (run_holds run)
