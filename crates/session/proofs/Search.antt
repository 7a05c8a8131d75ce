-- Laws of `first_usable`, the search for the first usable message: what it finds, what it passes over, and its steps along
-- the held messages, as a loop goes. Assumes nothing.
use mathlib.Core.Path.{◌≡◌, refl, sym, ◌∙◌}
use mathlib.Core.Logic.{⊎_elim}
use mathlib.Core.Bool.{true, false}
use mathlib.Core.List.{List, [], ◌∷◌, ◌++◌, Memᴰ as Among}
use mathlib.Core.List.Memᴰ
use mathlib.Core.List.Memᴰ.{head as here}
use mathlib.Core.List.Memᴰ.{tail as further}
use mathlib.Core.Option.{none, some, some-injective, none-ne-some, some-ne-none}
use Rattle.octets.proofs.Laws.{true-or-false}
use Rattle.session.specs.Cells.{Cell}
use Rattle.session.specs.Repair.{Message, usable, first_usable}

-- ---- steps
pub first_usable-yes : (cells : List Cell) (message : Message) (messages : List Message) → usable cells message ≡ true
    → first_usable cells (message ∷ messages) ≡ some message
unfolding first_usable
first_usable-yes cells message messages e = rw e

pub first_usable-no : (cells : List Cell) (message : Message) (messages : List Message) → usable cells message ≡ false
    → first_usable cells (message ∷ messages) ≡ first_usable cells messages
unfolding first_usable
first_usable-no cells message messages e = rw e

-- found in the front part, or looked for in the rest
pub first_usable-front : (cells : List Cell) (front rest : List Message) (found : Message) → first_usable cells front ≡ some found
    → first_usable cells (front ++ rest) ≡ some found
unfolding first_usable
first_usable-front cells [] rest found e = absurd (none-ne-some found e)
first_usable-front cells (message ∷ front) rest found e =
    ⊎_elim
    (λ yes. first_usable-yes cells message (front ++ rest) yes ∙ sym (first_usable-yes cells message front yes) ∙ e)
    (λ no.
    first_usable-no cells message (front ++ rest) no
    ∙ first_usable-front cells front rest found (sym (first_usable-no cells message front no) ∙ e))
    (true-or-false (usable cells message))

pub first_usable-rest : (cells : List Cell) (front rest : List Message) → first_usable cells front ≡ none
    → first_usable cells (front ++ rest) ≡ first_usable cells rest
first_usable-rest cells [] rest e = refl
first_usable-rest cells (message ∷ front) rest e =
    ⊎_elim
    (λ yes. absurd (some-ne-none message (sym (first_usable-yes cells message front yes) ∙ e)))
    (λ no.
    first_usable-no cells message (front ++ rest) no
    ∙ first_usable-rest cells front rest (sym (first_usable-no cells message front no) ∙ e))
    (true-or-false (usable cells message))

-- ---- what is found
-- the message that is found is one of those searched, and usable
pub found-usable : (cells : List Cell) (messages : List Message) (found : Message) → first_usable cells messages ≡ some found
    → Among found messages × (usable cells found ≡ true)
unfolding first_usable
found-usable cells [] found e = absurd (none-ne-some found e)
found-usable cells (message ∷ messages) found e =
    ⊎_elim
    (λ yes.
    let same : found ≡ message =
    some-injective found message (sym e ∙ first_usable-yes cells message messages yes) in
    (here same, rw same yes))
    (λ no. later (found-usable cells messages found (sym (first_usable-no cells message messages no) ∙ e)))
    (true-or-false (usable cells message))
  where
    later : Among found messages × (usable cells found ≡ true) → Among found (message ∷ messages) × (usable cells found ≡ true)
    later t = (further t.0, t.1)

-- where none is found, none of those searched is usable
pub none-usable : (cells : List Cell) (messages : List Message) → first_usable cells messages ≡ none
    → (message : Message) → Among message messages → usable cells message ≡ false
none-usable cells [] e found m = absurd (Memᴰ.not-nil m)
none-usable cells (message ∷ messages) e found m =
    ⊎_elim
    (λ yes. absurd (some-ne-none message (sym (first_usable-yes cells message messages yes) ∙ e)))
    (λ no.
    ⊎_elim (λ same. rw same no)
    (λ rest. none-usable cells messages (sym (first_usable-no cells message messages no) ∙ e) found rest)
    (Memᴰ.cases_cons m))
    (true-or-false (usable cells message))

-- where none of those searched is usable, none is found
pub none_found : (cells : List Cell) (messages : List Message)
    → ((message : Message) → Among message messages → usable cells message ≡ false) → first_usable cells messages ≡ none
unfolding first_usable
none_found cells [] each = refl
none_found cells (message ∷ messages) each =
    first_usable-no cells message messages (each message (here refl))
    ∙ none_found cells messages (λ other m. each other (further m))
