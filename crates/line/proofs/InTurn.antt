-- Block after block, each with the lent buffer from its start, then the end of the input: all that is written is what the
-- program writes. Assumes nothing.
use Prim.Native.Nat.{ℕ}
use mathlib.Core.Path.{◌≡◌, refl, sym, ap, ◌∙◌}
use mathlib.Core.Bool.{Bool, true, false, cond}
use mathlib.Core.List.{List, [], ◌∷◌, ◌++◌, append_assoc, append-nil}
use lib.ListN.{length, take}
use lib.Dec.{eqb}
use Rattle.session.specs.View.{View}
use Rattle.session_held.specs.Table.{Lent, view_in}
use Rattle.line.specs.Lines.{line_feed, step, program_from, program}
use Rattle.line.specs.Feed.{Going, starting_at, line_done, longer, taken_in, fed, at_end, going_in, PartWayFrom}
use Rattle.line.specs.FeedPromise.{Feeds, Ends}
use Rattle.line.specs.Claims.{InTurn}
use Rattle.line.proofs.BlockLaws.{feeds-some}
use Rattle.line.proofs.Feeding.{fed-append, program-from-fed}

-- ---- some text written before
abbrev after : List ℕ → Going → Going
after text now = record { text = text ++ now.text; view = now.view; begun = now.begun }

cond-after : (b : Bool) (text : List ℕ) (x y : Going) {u v : Going} → u ≡ after text x → v ≡ after text y
    → cond b u v ≡ after text (cond b x y)
cond-after true text x y first second = first
cond-after false text x y first second = second

done-after : (text : List ℕ) (now : Going) → line_done (after text now) ≡ after text (line_done now)
unfolding line_done
done-after text now =
    let made = step now.begun now.view in
    ap (λ (t : List ℕ). record { text = t; view = made.after; begun = [] }) (append_assoc text now.text made.text)

fed-after : (s text : List ℕ) (now : Going) → fed s (after text now) ≡ after text (fed s now)
unfolding fed taken_in
fed-after [] text now = refl
fed-after (c ∷ s) text now =
    ap (fed s)
    (cond-after (eqb c line_feed) text (line_done now) (record { text = now.text; view = now.view; begun = longer c now.begun })
    (done-after text now) refl)
    ∙ fed-after s text (taken_in c now)

end_after : (text : List ℕ) (now : Going) → at_end (after text now) ≡ after text (at_end now)
unfolding at_end
end_after text now = cond-after (eqb (length now.begun) 0) text now (line_done now) refl (done-after text now)

-- ---- the calls
-- with the lent buffer from its start
from_start : {first : View} {input text : List ℕ} {session : Lent} {l : List ℕ} {begun : ℕ} (out : List ℕ)
    → PartWayFrom first input text session l begun
    → fed input (starting_at first) ≡ after text (going_in session l begun out 0)
from_start {text = text} {session} {l} {begun} out p =
    p.state ∙ ap (λ (t : List ℕ). record { text = t; view = view_in session; begun = take begun l }) (sym (append-nil text))

pub part-way-start : {first : View} {session : Lent} (line : List ℕ) → view_in session ≡ first → PartWayFrom first [] [] session line 0
unfolding fed
part-way-start line e = record { state = ap starting_at (sym e) }

pub part-way-block : {first : View} {input text : List ℕ} {session later : Lent} {l : List ℕ} {begun : ℕ} {s out : List ℕ} {m : List ℕ}
    {kept taken : ℕ} {new : List ℕ} {end : ℕ} → PartWayFrom first input text session l begun
    → Feeds (going_in session l begun out 0) s out later m kept taken new end
    → PartWayFrom first (input ++ take taken s) (text ++ take end new) later m kept
part-way-block {first} {input} {text} {session} {later} {l} {begun} {s} {out} {m} {kept} {taken} way f =
    record {
      state =
          fed-append input (take taken s) (starting_at first)
          ∙ ap (fed (take taken s)) (from_start out way)
          ∙ fed-after (take taken s) text (going_in session l begun out 0)
          ∙ ap (after text) (sym f.takes.state);
    }

pub part-way-end : {first : View} {input text : List ℕ} {session later : Lent} {l : List ℕ} {begun : ℕ} {out new : List ℕ} {end : ℕ}
    → PartWayFrom first input text session l begun → Ends (going_in session l begun out 0) out later new end
    → program_from first input ≡ text ++ take end new
part-way-end {first} {input} {text} {session} {later} {l} {begun} {out} way f =
    program-from-fed first input
    ∙ ap (λ (now : Going). (at_end now).text) (from_start out way)
    ∙ ap (λ (now : Going). now.text) (end_after text (going_in session l begun out 0))
    ∙ ap (λ (now : Going). text ++ now.text) (sym f.state)

-- from a fresh session on
pub in-turn : InTurn
unfolding program
in-turn =
    record { start = λ line f. part-way-start line f.view; block = part-way-block; goes_on = feeds-some; finish = part-way-end }
