-- A datagram with spares, offered to a receiver with nothing waiting after l were lost: it is accepted, its own number is received, and its
-- spares fill those before it, as far as they go. Assumes nothing.
use Prim.Native.Nat.{ℕ, suc, ◌+◌, ◌-◌, ◌%◌, ◌≤◌, ◌<◌}
use mathlib.Core.Path.{◌≡◌, sym, ap, ◌∙◌}
use mathlib.Core.Bool.{Bool, true, false, cond}
use mathlib.Core.Logic.{◌⊎◌, inl, inr, ⊎_elim}
use mathlib.Core.List.{List, []}
use lib.ListN.{length, get_or, set}
use lib.Seq.{get_or-set_same, get_or-set_other}
use lib.Dec.{ltb}
use native.Mathlib.Omega.{arith}
use borrow.Author.Tests.{lt-ltb}
use Rattle.octets.proofs.Laws.{same_or_not, below_or_not}
use Rattle.length.specs.Refusals.{repeated, too_far, late}
use Rattle.length.specs.Answers.{Answer, done, refuse, ◌>>=◌}
use Rattle.datagram.specs.Carried.{Carried, spares}
use Rattle.datagram.specs.Claims.{ReadsAs}
use Rattle.datagram.specs.Read.{DatagramParts, carried_by}
use Rattle.session.specs.Cells.{received, spare, repaired, Cell, filled_cell, is_unknown, cell_at, unknown_at, kept_before, kept_ahead}
use Rattle.session.specs.Cells.{kept_numbers}
use Rattle.session.specs.Held.{Held, nothing_held, held_at}
use Rattle.session.specs.Reached.{Known, Unknown}
use Rattle.session.specs.Ranges.{Sound}
use Rattle.session.specs.Spares.{SparesFill}
use Rattle.session.specs.View.{View, numbers, distance}
use Rattle.session.specs.Offer.{late_from, keep, keep_spares, held_by, accept, accepted_at, offered, offer}
use Rattle.session.proofs.Laws.{same-unknown, keep-unknown, keep-other, keep-stays, spares-exact, repair-no-parity}
use Rattle.sender_to_modem.proofs.Ready.{Ready}

-- the datagram of place q + l
abbrev pub spares_at : ℕ → List ℕ → List (List ℕ) → Carried
spares_at place packet copies = record { number = place % numbers; packet = packet; extra = spares copies }

-- the numbers kept after it, and the session
abbrev pub cells_with : ℕ → ℕ → List ℕ → List (List ℕ) → List Cell → List Cell
cells_with S l packet copies cells = keep_spares S (kept_before + l) copies (keep S received (kept_before + l) packet cells)

abbrev pub view_with : ℕ → ℕ → List ℕ → List (List ℕ) → View → View
view_with S l packet copies view =
    record {
      base = view.base;
      counts = view.counts;
      cells = cells_with S l packet copies view.cells;
      held = set view.held l (held_by (spares copies));
    }

-- a distance is a subtraction that wraps (rule 2.35)
wraps : (q l : ℕ) → l < kept_ahead → (((q + l) % numbers ≡ q % numbers + l) ⊎ ((q + l) % numbers + numbers ≡ q % numbers + l))
wraps q l near =
    ⊎_elim (λ (low : q % numbers + l < numbers). inl (omega arith)) (λ (high : numbers ≤ q % numbers + l). inr (omega arith))
    (below_or_not (q % numbers + l) numbers)

apart : (b S l : ℕ) → l < kept_ahead → b < numbers → ((S ≡ b + l) ⊎ (S + numbers ≡ b + l)) → distance b S ≡ l
apart b S l near small two = ⊎_elim (λ e. omega arith) (λ e. omega arith) two

module _ {q l : ℕ} {view : View} (sound : Sound view) (ready : Ready q 0 view) (near : l < kept_ahead) (packet : List ℕ)
    (copies : List (List ℕ)) (few : length copies ≤ kept_before) where
  number-apart : distance view.base ((q + l) % numbers) ≡ l
  number-apart =
      ap (λ (b : ℕ). distance b ((q + l) % numbers)) ready.base
      ∙ apart (q % numbers) ((q + l) % numbers) l near (omega arith) (wraps q l near)

  -- ---- it is accepted
  no-parity : (d : ℕ) → d < length (set view.held l (held_by (spares copies)))
      → (held_at (set view.held l (held_by (spares copies))) d).messages ≡ []
  no-parity d low =
      ⊎_elim
      (λ (e : d ≡ l).
      ap (λ (k : ℕ). (held_at (set view.held l (held_by (spares copies))) k).messages) e
      ∙ ap (λ (h : Held). h.messages)
      (get_or-set_same view.held l (held_by (spares copies)) nothing_held (omega (arith, sound.ahead))))
      (λ other.
      ap (λ (h : Held). h.messages)
      (get_or-set_other view.held l d (held_by (spares copies)) nothing_held other ∙ ready.none d (omega arith)))
      (same_or_not d l)

  accepted-is : (S : ℕ) → accept l (record { number = S; packet = packet; extra = spares copies }) view ≡ view_with S l packet copies view
  unfolding accept
  accepted-is S =
      ap
      (λ (cells : List Cell).
      record { base = view.base; counts = view.counts; cells = cells; held = set view.held l (held_by (spares copies)) })
      (repair-no-parity (filled_cell S repaired) (cells_with S l packet copies view.cells) (set view.held l (held_by (spares copies)))
      no-parity)

  free : accepted_at view l ≡ false
  free = ap (λ (h : Held). h.accepted) (ready.none l (omega arith))

  offered-is : offered (spares_at (q + l) packet copies) view ≡ done (view_with ((q + l) % numbers) l packet copies view)
  unfolding offered
  offered-is =
      ap
      (λ (d : ℕ).
      cond (ltb d kept_ahead)
      (cond (accepted_at view d) (refuse repeated) (done (accept d (spares_at (q + l) packet copies) view)))
      (cond (ltb d late_from) (refuse too_far) (refuse late)))
      number-apart
      ∙ tests (ltb l kept_ahead) (accepted_at view l) (accept l (spares_at (q + l) packet copies) view) _ (lt-ltb l kept_ahead near) free
      ∙ ap done (accepted-is ((q + l) % numbers))
    where
      tests : (b₁ b₂ : Bool) (v : View) (rest : Answer View) → b₁ ≡ true → b₂ ≡ false
          → cond b₁ (cond b₂ (refuse repeated) (done v)) rest ≡ done v
      tests b₁ b₂ v rest e₁ e₂ = rw (e₁, e₂)

  pub offer-is : {octets : List ℕ} → ReadsAs octets (spares_at (q + l) packet copies)
      → offer octets view ≡ done (view_with ((q + l) % numbers) l packet copies view)
  unfolding offer
  offer-is {octets} reads =
      ap (λ (a : Answer DatagramParts). ◌>>=◌ a (λ (parts : DatagramParts). offered (carried_by octets parts) view)) reads.read
      ∙ ap (λ (c : Carried). offered c view) reads.carried
      ∙ offered-is

  -- ---- what it fills
  module _ (S : ℕ) where
    abbrev first : List Cell
    first = keep S received (kept_before + l) packet view.cells

    fills : SparesFill S (kept_before + l) copies first (cells_with S l packet copies view.cells)
    fills = spares-exact S (kept_before + l) copies first (omega arith)

    own-unknown : Unknown view.cells (kept_before + l)
    own-unknown = ready.unknown (kept_before + l) (omega arith) (omega arith)

    -- its own number
    pub own-received : cell_at (cells_with S l packet copies view.cells) (kept_before + l) ≡ filled_cell S received packet
    own-received =
        fills.from_here (kept_before + l) (omega arith) ∙ keep-unknown S received (kept_before + l) packet view.cells own-unknown

    -- another number is as it was before the spares
    not_own : (p : ℕ) → (p ≡ kept_before + l → ⊥) → unknown_at first p ≡ unknown_at view.cells p
    not_own p other = same-unknown view.cells first p (keep-other S received (kept_before + l) packet view.cells p other)

    -- one that was lost before it
    pub lost-spare : (i : ℕ) → i < l → l ≤ i + length copies
        → cell_at (cells_with S l packet copies view.cells) (kept_before + i) ≡ filled_cell S spare (get_or copies (l - suc i) [])
    lost-spare i low reach =
        let j = l - suc i in
        let place : (kept_before + l) - suc j ≡ kept_before + i = omega arith in
        let unknown : Unknown first ((kept_before + l) - suc j) =
        ap (unknown_at first) place ∙ not_own (kept_before + i) (λ e. omega arith)
        ∙ ready.unknown (kept_before + i) (omega arith) (omega arith) in
        ap (cell_at (cells_with S l packet copies view.cells)) (sym place) ∙ fills.filled j (omega arith) unknown

    -- one that has left
    left-known : (p : ℕ) → p < kept_before → Known (cells_with S l packet copies view.cells) p
    left-known p low =
        let known = ready.known p (omega arith) in
        let stays = keep-stays S received (kept_before + l) packet view.cells p known in
        let first-known : Known first p = same-unknown view.cells first p stays ∙ known in
        same-unknown first (cells_with S l packet copies view.cells) p (fills.known p first-known) ∙ first-known

    -- one that was not sent yet
    later-unknown : (p : ℕ) → kept_before + l < p → p < kept_numbers → Unknown (cells_with S l packet copies view.cells) p
    later-unknown p high low =
        same-unknown first (cells_with S l packet copies view.cells) p (fills.from_here p (omega arith))
        ∙ not_own p (λ e. omega arith)
        ∙ ready.unknown p (omega arith) low

    -- with one more lost than there are spares, the first of them stays unknown
    pub first-missed : length copies < l → Unknown (cells_with S l packet copies view.cells) kept_before
    first-missed short =
        same-unknown first (cells_with S l packet copies view.cells) kept_before (fills.further kept_before (omega arith))
        ∙ not_own kept_before (λ e. omega arith)
        ∙ ready.unknown kept_before (omega arith) (omega arith)

    -- what is known by now
    pub come-known : (i : ℕ) → i ≤ l → l ≤ i + length copies → Known (cells_with S l packet copies view.cells) (kept_before + i)
    come-known i low reach =
        ⊎_elim
        (λ (e : i ≡ l).
        ap (λ (k : ℕ). unknown_at (cells_with S l packet copies view.cells) (kept_before + k)) e
        ∙ ap (λ (c : Cell). is_unknown c.state) own-received)
        (λ other. ap (λ (c : Cell). is_unknown c.state) (lost-spare i (omega arith) reach))
        (same_or_not i l)

    known-now : l ≤ length copies → (p : ℕ) → p < kept_before + suc l → Known (cells_with S l packet copies view.cells) p
    known-now enough p low =
        ⊎_elim (λ (before : p < kept_before). left-known p before)
        (λ (past : kept_before ≤ p).
        let place : kept_before + (p - kept_before) ≡ p = omega arith in
        ap (unknown_at (cells_with S l packet copies view.cells)) (sym place) ∙ come-known (p - kept_before) (omega arith) (omega arith))
        (below_or_not p kept_before)

    -- ---- where that leaves the receiver: if there are as many spares as were lost, all of them wait for their release
    pub ready-offered : l ≤ length copies → Ready q (suc l) (view_with S l packet copies view)
    ready-offered enough =
        record {
          passed = ready.passed;
          base = ready.base;
          few = omega arith;
          known = known-now enough;
          unknown = λ p high low. later-unknown p (omega arith) low;
          none = λ d past.
              get_or-set_other view.held l d (held_by (spares copies)) nothing_held (λ e. omega arith) ∙ ready.none d (omega arith);
        }
