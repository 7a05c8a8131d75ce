-- `handover::loading::restored` meets its contract: what is restored is what the text reads as, within its ranges, and so is the fresh
-- session of a refused text. Assumes nothing.
use Prim.Native.Nat.{ℕ}
use mathlib.Core.Path.{◌≡◌, sym}
use mathlib.Core.Bool.{true, false, false≢true}
use mathlib.Core.List.{List}
use Rattle.std.specs.Prelude.{⊤, Result, Ok, Err}
use Rattle.length.specs.declared.Refusal.{Refusal}
use Rattle.session_held.specs.Table.{lent_by}
use Rattle.session_held.specs.Laid.{InRanges}
use Rattle.session_held.specs.declared.Session.{Session}
use Rattle.session_held.proofs.Laws.{session-in-ranges}
use Rattle.image.specs.Promise.{Restores, ImageRead}
use Rattle.image.specs.declared.Restored.{Restored}
use Rattle.handover.specs.Promise.{BeginsWith}
use Rattle.handover.proofs.loading.restored.Goals as goal

within-either-way : (answer : Result ⊤ Refusal) {s : Session} → Restores answer s → InRanges (lent_by s)
within-either-way (Ok tt) within = within
within-either-way (Err why) fresh = session-in-ranges _ fresh.ranges fresh.sized

begins-done : {text : List ℕ} (r : Restored) → ImageRead text r → r.answer ≡ Ok tt
    → BeginsWith text (record { session = r.session; well = true })
begins-done r read told =
    record { state = λ e. sym (rw told at read.answer); within = within-either-way r.answer read.state }

begins-not : {text : List ℕ} (r : Restored) → ImageRead text r → BeginsWith text (record { session = r.session; well = false })
begins-not r read = record { state = λ e. absurd (false≢true e); within = within-either-way r.answer read.state }

pub returns-in-Ok : goal.returns-in-Ok
returns-in-Ok c =
    let read = c.read-found in
    begins-done read.result read.ensures c.in-Ok.is

pub returns-in-Err : goal.returns-in-Err
returns-in-Err c =
    let read = c.read-found in
    begins-not read.result read.ensures
