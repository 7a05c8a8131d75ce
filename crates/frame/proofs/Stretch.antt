-- A field of a stretch of which the joiner keeps what the fields before it gave, if nothing was lost, and is tainted otherwise: it goes
-- on so, and the field that ends the stretch hands out its frame. Assumes nothing.
use Prim.Native.Nat.{ℕ, ◌≤◌}
use mathlib.Core.Path.{◌≡◌, refl, sym, ap, ap₂, subst, ◌∙◌}
use mathlib.Core.Bool.{Bool, true, false, cond, ◌&&◌, ◌||◌, false≢true}
use mathlib.Core.List.{List, [], ◌∷◌, ◌++◌, map, flatten, append_assoc}
use mathlib.Core.Option.{Option, none, some}
use lib.ListN.{length}
use lib.Dec.{ltb, eqb}
use native.Mathlib.Omega.{arith}
use borrow.Author.Tests.{eqb-true}
use Rattle.octets.proofs.Laws.{and_left, and_right}
use Rattle.frame.specs.Frame.{frame_limit, Joining, tainted, opened, Frame, good, bad, adds, hands_good, hands_bad, ends_frame}
use Rattle.frame.specs.Frame.{Step, passes, with_added, good_frame, on_open, field_step}
use Rattle.frame.specs.Joiner.{held_as}
use Rattle.frame.specs.Promise.{FieldOwes, LossOwes}
use Rattle.frame.specs.Line.{Field, gather, gathered, ended, frame_of, list_of}
use Rattle.frame.specs.declared.Joiner.{Joiner}
use Rattle.frame.specs.declared.Joined.{Joined}

-- ---- what the joiner keeps after some fields of a stretch
abbrev pub open_of : Option (List ℕ) → Joining
open_of none = tainted
open_of (some frame) = opened frame

abbrev pub kept_after : Bool → List Field → Joining
kept_after whole begun = cond whole (open_of (gathered (some []) begun)) tainted

gathered_snoc : (start : Option (List ℕ)) (begun : List Field) (f : Field)
    → gathered start (begun ++ (f ∷ [])) ≡ gather (gathered start begun) f
unfolding gathered
gathered_snoc start [] f = refl
gathered_snoc start (g ∷ begun) f = gathered_snoc (gather start g) begun f

-- ---- the types
-- a type that does not end a frame is none that does, and the other way round
apart : (b : Bool) (n : ℕ) → ends_frame n ≡ b → (type : ℕ) → (ends_frame type ≡ b → ⊥) → eqb type n ≡ false
apart b n at_n type other = pick (eqb type n) refl where
  pick : (t : Bool) → eqb type n ≡ t → t ≡ false
  pick true e = absurd (other (ap ends_frame (eqb-true type n e) ∙ at_n))
  pick false e = refl

module _ (type : ℕ) (goes_on : ends_frame type ≡ false) where
  ends-not : ends_frame type ≡ true → ⊥
  ends-not e = false≢true (sym goes_on ∙ e)

  not-bad : hands_bad type ≡ false
  not-bad = rw (apart true 3 refl type ends-not, apart true 5 refl type ends-not)

  not_good : hands_good type ≡ false
  not_good = rw (apart true 2 refl type ends-not, apart true 4 refl type ends-not)

not-adds : (type : ℕ) → ends_frame type ≡ true → adds type ≡ false
not-adds type e = apart false 0 refl type (λ no_end. false≢true (sym no_end ∙ e))

-- ---- a field inside a stretch
grown-open : (frame octets : List ℕ) (b : Bool) → cond b tainted (opened (frame ++ octets)) ≡ open_of (cond b none (some (frame ++ octets)))
grown-open frame octets true = refl
grown-open frame octets false = refl

going-open : (f : Field) (o : Option (List ℕ)) → ends_frame f.type ≡ false
    → field_step f.type f.octets (open_of o) ≡ record { handed = none; after = open_of (gather o f) }
unfolding field_step on_open with_added
going-open f none e = rw e
going-open f (some frame) e = rw (not-bad f.type e, not_good f.type e) (by (adds f.type)) where
  by : (a : Bool)
      → ◌≡◌ {A = Step}
      (cond a (record { handed = none; after = cond (passes frame f.octets) tainted (opened (frame ++ f.octets)) })
      (record { handed = none; after = opened [] }))
      (record { handed = none; after = open_of (cond a (cond (passes frame f.octets) none (some (frame ++ f.octets))) (some [])) })
  by true = ap (λ (v : Joining). record { handed = none; after = v }) (grown-open frame f.octets (passes frame f.octets))
  by false = refl

pub on-going : (f : Field) (whole : Bool) (begun : List Field) → ends_frame f.type ≡ false
    → field_step f.type f.octets (kept_after whole begun) ≡ record { handed = none; after = kept_after whole (begun ++ (f ∷ [])) }
unfolding field_step
on-going f false begun e = rw e
on-going f true begun e = rw (gathered_snoc (some []) begun f) (going-open f (gathered (some []) begun) e)

-- ---- the field that ends it
pub record Ending (f : Field) (v : Joining) (frames : List Frame) : Type 0 where
  pub after : (field_step f.type f.octets v).after ≡ opened []
  pub handed : list_of (field_step f.type f.octets v).handed ≡ frames

end-open : (f : Field) (o : Option (List ℕ)) → ends_frame f.type ≡ true → Ending f (open_of o) (ended f.type o)
unfolding field_step on_open good_frame
end-open f none e = record { after = rw e; handed = refl }
end-open f (some frame) e =
    record {
      after = rw (not-adds f.type e) (stays (hands_bad f.type) (hands_good f.type));
      handed = rw (not-adds f.type e) (out (hands_bad f.type) (hands_good f.type) (ltb 0 (length frame)));
    }
  where
    stays : (b c : Bool)
        → (cond {A = Step} b (record { handed = some (bad frame); after = opened [] })
        (cond c (record { handed = good_frame frame; after = opened [] }) (record { handed = none; after = opened [] }))).after
        ≡ opened []
    stays true c = refl
    stays false true = refl
    stays false false = refl

    out : (b c d : Bool)
        → list_of
        (cond {A = Step} b (record { handed = some (bad frame); after = opened [] })
        (cond c (record { handed = cond d (some (good frame)) none; after = opened [] })
        (record { handed = none; after = opened [] }))).handed
        ≡ cond b (bad frame ∷ []) (cond c (cond d (good frame ∷ []) []) [])
    out true c d = refl
    out false true true = refl
    out false true false = refl
    out false false d = refl

pub on-end : (f : Field) (whole : Bool) (begun : List Field) → ends_frame f.type ≡ true
    → Ending f (kept_after whole begun) (cond whole (frame_of (record { inside = begun; end = f.type })) [])
unfolding field_step frame_of
on-end f false begun e = record { after = rw e; handed = refl }
on-end f true begun e = end-open f (gathered (some []) begun) e
