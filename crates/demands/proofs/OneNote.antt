-- The calls tell one note for a place: an offer is of one datagram, and no call is both an accepted offer and one that solves the held
-- messages together. Assumes nothing.
use Prim.Native.Nat.{ℕ}
use mathlib.Core.Path.{◌≡◌, refl, sym, ap, ap₂, ◌∙◌}
use mathlib.Core.Bool.{true}
use mathlib.Core.Option.{some-injective}
use Rattle.length.proofs.Laws.{done-same}
use Rattle.datagram.specs.Carried.{Carried}
use Rattle.datagram.specs.Read.{read_datagram, carried_by}
use Rattle.demands.specs.Common.Calls.{Call, Calls, fills_in}
use Rattle.demands.specs.Demand2.ReachedBy as reached
use Rattle.demands.specs.Demand2.ReachedBy.{Accepts, ReachedBy}
use Rattle.demands.specs.Demand2.NotedBy.{NotedBy, before_first, filled, together, earlier}
use Rattle.demands.proofs.KnownReached.{took-unfilled}

noted-reached : {calls : Calls} {P note : ℕ} → NotedBy calls P note → ReachedBy calls P
noted-reached (before_first low) = reached.before_first low
noted-reached (filled a new r) = r
noted-reached (together fills new r) = r
noted-reached (earlier n) = reached.earlier (noted-reached n)

-- an offer is of one datagram
accepts-one : {calls : Calls} {call : Call} {S T : ℕ} {c x : Carried} → Accepts calls call S c → Accepts calls call T x → c ≡ x
accepts-one a b =
    let same : a.octets ≡ b.octets = some-injective a.octets b.octets (sym a.accepted ∙ b.accepted) in
    let parts : a.reads.parts ≡ b.reads.parts = done-same (sym a.reads.read ∙ ap read_datagram same ∙ b.reads.read) in
    sym a.reads.carried ∙ ap₂ carried_by same parts ∙ b.reads.carried

accepts-unfilled : {calls : Calls} {call : Call} {S : ℕ} {c : Carried} → Accepts calls call S c → fills_in call ≡ true → ⊥
accepts-unfilled {call = call} a = took-unfilled call a.accepted

pub one-note : {calls : Calls} {P n m : ℕ} → NotedBy calls P n → NotedBy calls P m → n ≡ m
one-note (before_first low) (before_first less) = refl
one-note (before_first low) (filled b new r) = absurd (new (reached.before_first low))
one-note (before_first low) (together fills new r) = refl
one-note (before_first low) (earlier m) = one-note (before_first low) m
one-note (filled a new r) (before_first low) = absurd (new (reached.before_first low))
one-note (filled a new r) (filled b other s) = ap (λ (c : Carried). c.number) (accepts-one a b)
one-note (filled a new r) (together fills other s) = absurd (accepts-unfilled a fills)
one-note (filled a new r) (earlier m) = absurd (new (noted-reached m))
one-note (together fills new r) (before_first low) = refl
one-note (together fills new r) (filled b other s) = absurd (accepts-unfilled b fills)
one-note (together fills new r) (together also other s) = refl
one-note (together fills new r) (earlier m) = absurd (new (noted-reached m))
one-note (earlier n) (before_first low) = one-note n (before_first low)
one-note (earlier n) (filled b new r) = absurd (new (noted-reached n))
one-note (earlier n) (together fills new r) = absurd (new (noted-reached n))
one-note (earlier n) (earlier m) = one-note n m
