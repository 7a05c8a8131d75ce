-- What a run of the program promises: it begins with a fresh session (rule 18.1). Definitions only.
use Rattle.std.specs.Prelude.{List, ℕ}
use Rattle.session.specs.View.{fresh_view}
use Rattle.session_held.specs.Table.{lent}
use Rattle.program_loop.specs.Promise.{Serves}
use Rattle.program_loop.specs.declared.Served.{Served}

-- the table and the stores are those of the session at the end
pub record Receives (r : Served) : Type 0 where
  pub table : List ℕ
  pub octets : List ℕ
  pub messages : List ℕ
  pub serves : Serves fresh_view (lent r.base r.counts table octets messages) r.taken r.handed r.whole
