-- What an honest sender's datagrams carry, by place: each reads back, and what it carries is told by the packets of its reach.
-- Assumes nothing.
use Prim.Native.Nat.{ℕ, zero, suc, ◌+◌, ◌-◌, ◌%◌, ◌≤◌, ◌<◌, min}
use mathlib.Core.Path.{◌≡◌, refl, sym, ap, subst, ◌∙◌}
use mathlib.Core.Logic.{⊎_elim}
use mathlib.Core.Bool.{true}
use mathlib.Core.List.{List, [], ◌∷◌, ◌++◌, map}
use lib.ListN.{length, get_or, replicate, get_or-replicate, get_or-append, get_or-eq_default}
use lib.Seq.{get_or-append-add}
use native.Mathlib.Omega.{arith}
use borrow.Author.Tests.{leb-true, le-leb}
use Rattle.octets.specs.Place.{tab}
use Rattle.octets.specs.ExclusiveOr.{longest}
use Rattle.octets.proofs.Laws.{length-tab, tab-at, below_or_not, and_left, and_right, and_both, length-exclusive_or}
use Rattle.datagram.specs.Sizes.{packet_least, packet_limit, message_limit, spares_limit, covered_limit, messages_limit, covered_least}
use Rattle.datagram.specs.Sizes.{messages_least}
use Rattle.datagram.specs.Carried.{Carried}
use Rattle.datagram.specs.Read.{carried_by}
use Rattle.length.specs.Length.{within}
use Rattle.length.proofs.Laws.{done-same, true-within, within-true}
use Rattle.datagram.specs.Write.{item_inside, items_inside, datagram_octets}
use Rattle.datagram.specs.Claims.{ReadsAs}
use Rattle.datagram.specs.declared.kind.Kind.{Kind}
use Rattle.datagram.specs.declared.kind.Kind.TheVariants as kind
use Rattle.datagram.proofs.Laws.{Fit, datagram-back}
use Rattle.session.specs.Cells.{kept_before}
use Rattle.session.specs.Members.{members_of}
use Rattle.session.specs.Honest.{message_over, HonestHeld}
use Rattle.session.specs.View.{numbers}
use Rattle.session.specs.Offer.{held_by}
use Rattle.session.proofs.Laws.{reach-kept}
use Rattle.sender.specs.Sending.{history_kept}
use Rattle.sender.specs.Carries.{settings_inside, spares_from, messages_from, extra_from}
use Rattle.sender.specs.Honest.{packet_at, carried_at, HonestSender}
use Rattle.sender.specs.declared.Settings.{Settings}
use Rattle.sender.specs.declared.Settings.TheVariants as settings
use Rattle.sender.proofs.Laws.{before-length, extra-same}
use Rattle.demands.specs.Demand3.Feeding.{OneOrigin, datagram_at}
use Rattle.demands.specs.Demand2.ReachedBy.{spares_in}

-- ---- the row by places
-- a row begins as many places before number 0 as the view has before the base: 32 (rules 1.13 and 1.14)
pub one-origin : OneOrigin
one-origin = refl

pub packet_at-before : (row : List (List ℕ)) (p : ℕ) → p < history_kept → packet_at row p ≡ []
unfolding packet_at
packet_at-before row p low =
    get_or-append (replicate history_kept []) row [] p (rw before-length low) ∙ get_or-replicate {A = List ℕ} history_kept p [] [] low

pub packet_at-sent : (row : List (List ℕ)) (S : ℕ) → packet_at row (history_kept + S) ≡ get_or row S []
unfolding packet_at
packet_at-sent row S =
    ap (λ (n : ℕ). get_or (replicate history_kept [] ++ row) (n + S) []) (sym before-length)
    ∙ get_or-append-add (replicate history_kept []) row S []

-- ---- what a datagram carries
pub record Follows (row datagrams : List (List ℕ)) (S : ℕ) (c : Carried) : Type 0 where
  pub settings : Settings
  pub inside : settings_inside settings ≡ true
  pub is : c ≡ carried_at settings row S
  pub reads : ReadsAs (datagram_at datagrams S) c

-- at most eight spares
few-spares : (st : Settings) (before : ℕ) (sent : ℕ → List ℕ) (S : ℕ) → settings_inside st ≡ true
    → spares_in (extra_from st before sent S) ≤ spares_limit
unfolding spares_from
few-spares (settings.Spares k) before sent S inside =
    let few = leb-true k spares_limit inside in
    rw (length-tab (min k before) (λ j. sent (S - suc j))) (omega arith)
few-spares (settings.Parity n m) before sent S inside = omega arith

pub follows-few : {row datagrams : List (List ℕ)} {S : ℕ} {c : Carried} → Follows row datagrams S c → spares_in c.extra ≤ spares_limit
follows-few {row} {datagrams} {S} f =
    subst (λ (x : Carried). spares_in x.extra ≤ spares_limit) (sym f.is)
    (few-spares f.settings S (packet_at row) (history_kept + S) f.inside)

-- one datagram for each place
pub follows_same : {row datagrams : List (List ℕ)} {S : ℕ} {c e : Carried} → Follows row datagrams S c → Follows row datagrams S e → c ≡ e
follows_same {row} {datagrams} {S} f g =
    let a = f.reads in
    let b = g.reads in
    let parts : a.parts ≡ b.parts = done-same (sym a.read ∙ b.read) in
    sym a.carried ∙ ap (carried_by (datagram_at datagrams S)) parts ∙ b.carried

-- items of a list given by place, each inside the sizes
inside-tab : (k : Kind) (n : ℕ) (f : ℕ → List ℕ) → ((j : ℕ) → j < n → item_inside k (length (f j)) ≡ true)
    → items_inside k (map length (tab n f)) ≡ true
unfolding items_inside tab
inside-tab k zero f each = refl
inside-tab k (suc n) f each =
    and_both (each zero (omega arith)) (inside-tab k n (λ j. f (suc j)) (λ j low. each (suc j) (omega arith)))

longest-map : (f : ℕ → List ℕ) (l : List ℕ) → ((p : ℕ) → length (f p) ≤ packet_limit) → longest (map f l) ≤ packet_limit
unfolding longest
longest-map f [] each = omega arith
longest-map f (x ∷ l) each = let rest = longest-map f l each in let one = each x in omega arith

module _ {row datagrams : List (List ℕ)} (honest : HonestSender row datagrams) where
  -- a packet of the row
  pub packet-sized : (S : ℕ) → S < length row → (packet_least ≤ length (get_or row S [])) × (length (get_or row S []) ≤ packet_limit)
  packet-sized S low = within-true packet_least packet_limit (length (get_or row S [])) (honest.packets S low)

  -- and at any place
  short-or-none : (S : ℕ) → length (get_or row S []) ≤ packet_limit
  short-or-none S =
      ⊎_elim (λ sent. (packet-sized S sent).1) (λ past. rw (get_or-eq_default row [] {n = S} past) (omega arith))
      (below_or_not S (length row))

  packet-short : (p : ℕ) → length (packet_at row p) ≤ packet_limit
  packet-short p = ⊎_elim low high (below_or_not p history_kept) where
    low : p < history_kept → length (packet_at row p) ≤ packet_limit
    low before = rw (packet_at-before row p before) (omega arith)

    high : history_kept ≤ p → length (packet_at row p) ≤ packet_limit
    high past =
        let place : p ≡ history_kept + (p - history_kept) = omega arith in
        rw (place, packet_at-sent row (p - history_kept)) (short-or-none (p - history_kept))

  message-short : (members : List ℕ) → length (message_over (map (packet_at row) members)) ≤ message_limit
  message-short members =
      rw (length-exclusive_or (longest (map (packet_at row) members)) (map (packet_at row) members))
      (longest-map (packet_at row) members packet-short)

  -- its datagrams read back
  module _ (S : ℕ) (low : S < length row) where
    spares-fit : (k : ℕ) → settings_inside (settings.Spares k) ≡ true
        → Fit (get_or row S []) kind.Spares (spares_from (min k S) (packet_at row) (history_kept + S))
    unfolding spares_from
    spares-fit k inside =
        let few = leb-true k spares_limit inside in
        record {
          newest = honest.packets S low;
          counted =
              rw (length-tab (min k S) (λ j. packet_at row ((history_kept + S) - suc j))) (le-leb (min k S) spares_limit (omega arith));
          sized =
              inside-tab kind.Spares (min k S) (λ j. packet_at row ((history_kept + S) - suc j))
              (λ j below.
              let place : (history_kept + S) - suc j ≡ history_kept + (S - suc j) = omega arith in
              rw (place, packet_at-sent row (S - suc j)) (honest.packets (S - suc j) (omega arith)));
        }

    parity-fit : (n m : ℕ) → settings_inside (settings.Parity n m) ≡ true
        → Fit (get_or row S []) (kind.Parity n) (messages_from n m (packet_at row) (history_kept + S))
    unfolding messages_from
    parity-fit n m inside =
        record {
          newest = honest.packets S low;
          counted = rw (length-tab m (λ i. message_over (map (packet_at row) (members_of (history_kept + S) n m i)))) inside;
          sized =
              inside-tab (kind.Parity n) m (λ i. message_over (map (packet_at row) (members_of (history_kept + S) n m i)))
              (λ i below. true-within 0 message_limit _ (omega arith) (message-short (members_of (history_kept + S) n m i)));
        }

    reads_of : (st : Settings) → settings_inside st ≡ true → (s : List ℕ) → s ≡ datagram_octets (carried_at st row S)
        → ReadsAs s (carried_at st row S)
    reads_of (settings.Spares k) inside s e = datagram-back s (S % numbers) (get_or row S []) kind.Spares _ (spares-fit k inside) e
    reads_of (settings.Parity n m) inside s e = datagram-back s (S % numbers) (get_or row S []) (kind.Parity n) _ (parity-fit n m inside) e

    pub follows_of : (c : Carried) × Follows row datagrams S c
    follows_of =
        let at = honest.follow S low in (
          carried_at at.settings row S,
          record {
            settings = at.settings;
            inside = at.inside;
            is = refl;
            reads = reads_of at.settings at.inside (datagram_at datagrams S) at.follows;
          },
        )

-- ---- in the places of a view: the sender's row from place B on, and a datagram at distance d
pub record InView (sent : ℕ → List ℕ) (d : ℕ) (c : Carried) : Type 0 where
  pub settings : Settings
  pub inside : settings_inside settings ≡ true
  pub before : ℕ
  pub extra : c.extra ≡ extra_from settings before sent (kept_before + d)
  pub packet : c.packet ≡ sent (kept_before + d)

pub in-view : {row datagrams : List (List ℕ)} (B d : ℕ) {c : Carried} → Follows row datagrams (B + d) c
    → InView (λ p. packet_at row (B + p)) d c
in-view {row} B d {c} f =
    record {
      settings = f.settings;
      inside = f.inside;
      before = B + d;
      extra =
          ap (λ (x : Carried). x.extra) f.is
          ∙ extra-same (packet_at row) (history_kept + (B + d)) (λ p. packet_at row (B + p)) (kept_before + d) (omega arith) (omega arith)
          (λ k some far.
          let place : (history_kept + (B + d)) - k ≡ B + ((kept_before + d) - k) = omega (arith, one-origin) in
          ap (packet_at row) place)
          f.settings
          (B + d)
          f.inside;
      packet =
          ap (λ (x : Carried). x.packet) f.is
          ∙ sym (packet_at-sent row (B + d))
          ∙ ap (packet_at row) (let place : history_kept + (B + d) ≡ B + (kept_before + d) = omega (arith, one-origin) in place);
    }

-- ---- what is held of it is honest
honest-from : (st : Settings) (before : ℕ) (sent : ℕ → List ℕ) (S : ℕ) → settings_inside st ≡ true → kept_before ≤ S
    → HonestHeld sent S (held_by (extra_from st before sent S))
unfolding messages_from
honest-from (settings.Spares k) before sent S inside far =
    record { reach = omega arith; sums = λ i none. absurd (omega arith) }
honest-from (settings.Parity n m) before sent S inside far =
    let few = within-true covered_least covered_limit n
    (and_left (within covered_least covered_limit n) (within messages_least messages_limit m) inside) in
    let less = within-true messages_least messages_limit m
    (and_right (within covered_least covered_limit n) (within messages_least messages_limit m) inside) in
    let long = length-tab m (λ i. message_over (map sent (members_of S n m i))) in
    record {
      reach = rw long (let reach = reach-kept few.1 less.1 in omega arith);
      sums = λ i low.
          rw long (tab-at m (λ i. message_over (map sent (members_of S n m i))) i [] (rw long at low));
    }

pub honest-held : (sent : ℕ → List ℕ) (d : ℕ) (c : Carried) → InView sent d c → HonestHeld sent (kept_before + d) (held_by c.extra)
honest-held sent d c v = rw v.extra (honest-from v.settings v.before sent (kept_before + d) v.inside (omega arith))
