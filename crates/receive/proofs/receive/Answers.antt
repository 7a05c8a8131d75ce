-- `receive::receive` meets its contract: a fresh session is within its ranges, and from it on the input is served. Assumes nothing.
use Prim.Native.Nat.{ℕ}
use mathlib.Core.Path.{◌≡◌}
use mathlib.Core.List.{List}
use Rattle.session.specs.View.{View, fresh_view}
use Rattle.session_held.specs.Table.{lent}
use Rattle.session_held.proofs.Laws.{session-in-ranges}
use Rattle.program_loop.specs.Promise.{Serves}
use Rattle.program_loop.specs.declared.Served.{Served}
use Rattle.receive.specs.Promise.{Receives}
use Rattle.receive.proofs.receive.Goals as goal

from-fresh : {first : View} {r : Served} {t o g : List ℕ} → first ≡ fresh_view
    → Serves first (lent r.base r.counts t o g) r.taken r.handed r.whole → Receives r
from-fresh {t = t} {o} {g} fresh s = record { table = t; octets = o; messages = g; serves = rw fresh at s }

pub serve-requires : goal.serve-requires
serve-requires g c =
    let fresh = c.fresh-session.ensures in
    session-in-ranges _ fresh.ranges fresh.sized

pub returns : goal.returns
returns g c = from-fresh c.fresh-session.ensures.view c.serve.ensures
