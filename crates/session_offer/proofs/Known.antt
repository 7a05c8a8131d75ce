-- A number at which a packet was kept is known, and stays so while spares are kept. Assumes nothing.
use Rattle.std.proofs.Common.{◌≡◌, ℕ, ◌-◌, ◌<◌, true, false, List, [], ◌∷◌, length, set, sym, refl, ap, ◌∙◌, ⊎_elim, true≢false, get_or-set_other, get_or-set_same}
use Rattle.octets.proofs.Laws.{true-or-false}
use Rattle.session.specs.Cells.{State, spare, Cell, filled_cell, is_unknown, unknown_at}
use Rattle.session.specs.Reached.{Known, Unknown}
use Rattle.session.specs.Offer.{keep, keep_spares}

set_here : (cells : List Cell) (p : ℕ) (c : Cell) → p < length cells → is_unknown c.state ≡ false → Known (set cells p c) p
set_here cells p c inside known = ap (λ (x : Cell). is_unknown x.state) (get_or-set_same cells p c _ inside) ∙ known

pub keep-here : (S : ℕ) (state : State) (p : ℕ) (b : List ℕ) (cells : List Cell) → is_unknown state ≡ false → p < length cells
    → Known (keep S state p b cells) p
unfolding keep
keep-here S state p b cells known inside =
    ⊎_elim (λ t. rw t (set_here cells p (filled_cell S state b) inside known)) (λ f. rw f f)
    (true-or-false (unknown_at cells p))

set-stays : (cells : List Cell) (q : ℕ) (c : Cell) (p : ℕ) → is_unknown c.state ≡ false → Unknown cells q → Known cells p
    → Known (set cells q c) p
set-stays cells q c p known un e =
    ap (λ (x : Cell). is_unknown x.state)
    (get_or-set_other cells q p c _ (λ same. true≢false (sym un ∙ ap (unknown_at cells) (sym same) ∙ e)))
    ∙ e

keep-stays : (S : ℕ) (state : State) (q : ℕ) (b : List ℕ) (cells : List Cell) (p : ℕ) → is_unknown state ≡ false → Known cells p
    → Known (keep S state q b cells) p
unfolding keep
keep-stays S state q b cells p known e =
    ⊎_elim (λ t. rw t (set-stays cells q (filled_cell S state b) p known t e)) (λ f. rw f e)
    (true-or-false (unknown_at cells q))

pub spares-stay : (S q : ℕ) (copies : List (List ℕ)) (cells : List Cell) (p : ℕ) → Known cells p → Known (keep_spares S q copies cells) p
unfolding keep_spares
spares-stay S q [] cells p e = e
spares-stay S q (b ∷ more) cells p e = spares-stay S (q - 1) more _ p (keep-stays S spare (q - 1) b cells p refl e)
