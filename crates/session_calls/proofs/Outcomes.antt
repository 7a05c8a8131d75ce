-- Two outcomes of a call are equal, and a refused call leaves the session: from the promises. Assumes nothing.
use mathlib.Core.Path.{◌≡◌, sym, subst, ◌∙◌}
use Rattle.length.specs.Answers.{Answer, done, refused}
use Rattle.length.specs.declared.Refusal.{Refusal}
use Rattle.session.specs.View.{View}
use Rattle.session_held.specs.declared.Session.{Session}
use Rattle.session_held.proofs.Laws.{session-same}
use Rattle.session_calls.specs.Receiver.{SeenAs, After}

-- one view, one session
pub seen_same : {v : View} {r q : Session} → SeenAs v r → SeenAs v q → r ≡ q
seen_same {r = r} {q} a b = session-same r q a.within b.within (a.view ∙ sym b.view)

pub after_same : (a : Answer View) (s : Session) {r q : Session} → After a s r → After a s q → r ≡ q
after_same (done v) s x y = seen_same x y
after_same (refused why) s x y = x ∙ sym y

-- a refusal leaves the session
pub after-refused : (a : Answer View) {s r : Session} (x : Refusal) → After a s r → a ≡ refused x → r ≡ s
after-refused a {s} {r} x stands is = subst (λ (v : Answer View). After v s r) is stands
