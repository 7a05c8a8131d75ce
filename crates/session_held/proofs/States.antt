-- The kind that an answer names and the state of the view: one state, one kind. Assumes nothing.
use mathlib.Core.Path.{◌≡◌, refl, sym, ap, ◌∙◌}
use Rattle.session.specs.Cells as cells
use Rattle.session_held.specs.Table.{state_of}
use Rattle.session_held.specs.declared.ReleaseKind.{ReleaseKind}
use Rattle.session_held.specs.declared.ReleaseKind.TheVariants.{Received, Spare, Repaired, Lost}

-- the kind that an answer names, from the state of the view; a blank number has none
kind-named : cells.State → ReleaseKind
kind-named cells.unknown = Lost
kind-named cells.received = Received
kind-named cells.spare = Spare
kind-named cells.repaired = Repaired
kind-named cells.blank = Lost

named-kind : (k : ReleaseKind) → kind-named (state_of k) ≡ k
unfolding kind-named
named-kind Received = refl
named-kind Spare = refl
named-kind Repaired = refl
named-kind Lost = refl

pub kind-same : (k l : ReleaseKind) → state_of k ≡ state_of l → k ≡ l
kind-same k l e = sym (named-kind k) ∙ ap kind-named e ∙ named-kind l
