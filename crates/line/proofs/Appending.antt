-- Text laid into a buffer from a place on, one character or one text after the other. Assumes nothing.
use Prim.Native.Nat.{ℕ, suc, ◌+◌, ◌≤◌, ◌<◌}
use mathlib.Core.Path.{◌≡◌, sym, ap, ap₂, ◌∙◌}
use mathlib.Core.List.{List, [], ◌∷◌, ◌++◌, append_assoc, append-nil}
use lib.ListN.{length, take, drop, set, get_or, length-append, take-append-drop, length-drop}
use lib.Seq.{set_at, append_snoc, drop-cons, length-take-le, take_at, drop_at, drop-drop}
use native.Mathlib.Nat.{add-zero}
use native.Mathlib.Omega.{arith}
use Rattle.line.specs.Promise.{Appends}

-- what stands before the place after the text
pub length-laid : (text old : List ℕ) (at : ℕ) → at ≤ length old → length (take at old ++ text) ≡ at + length text
length-laid text old at inside =
    length-append (take at old) text ∙ ap (λ (k : ℕ). k + length text) (length-take-le at old inside)

pub appends-none : {old : List ℕ} {at : ℕ} → at ≤ length old → Appends [] old at old at
appends-none {old} {at} inside =
    record {
      lent =
          sym
          (ap₂ (λ (a b : List ℕ). a ++ b) (append-nil (take at old)) (ap (λ (k : ℕ). drop k old) (add-zero at))
          ∙ take-append-drop at old);
      after = sym (add-zero at);
      fits = omega arith;
    }

module _ {text old : List ℕ} {at : ℕ} {new : List ℕ} {end : ℕ} (a : Appends text old at new end) where
  -- the buffer is as long as before
  pub appends-long : length new ≡ length old
  appends-long =
      ap length a.lent
      ∙ length-append (take at old ++ text) (drop (at + length text) old)
      ∙ ap₂ (λ (x y : ℕ). x + y) (length-laid text old at (omega (arith, a.fits))) (length-drop (at + length text) old)
      ∙ omega (arith, a.fits)

  -- what stands before the end
  pub appends-front : take end new ≡ take at old ++ text
  appends-front =
      ap₂ (λ (k : ℕ) (l : List ℕ). take k l) a.after a.lent
      ∙ take_at (take at old ++ text) (drop (at + length text) old) (at + length text) (length-laid text old at (omega (arith, a.fits)))

  -- what stands from the end on
  pub appends-rest : drop end new ≡ drop end old
  appends-rest =
      ap₂ (λ (k : ℕ) (l : List ℕ). drop k l) a.after a.lent
      ∙ drop_at (take at old ++ text) (drop (at + length text) old) (at + length text) (length-laid text old at (omega (arith, a.fits)))
      ∙ ap (λ (k : ℕ). drop k old) (sym a.after)

  -- one character more
  pub appends-one : (x : ℕ) → end < length old → Appends (text ++ (x ∷ [])) old at (set new end x) (end + 1)
  appends-one x room =
      let long : length (text ++ (x ∷ [])) ≡ length text + 1 = length-append text (x ∷ []) in
      let place : at + length text ≡ end = sym a.after in
      let next : suc end ≡ at + length (text ++ (x ∷ [])) = omega arith in
      record {
        lent =
            ap (λ (l : List ℕ). set l end x) a.lent
            ∙ ap (λ (k : ℕ). set (take at old ++ text ++ drop k old) end x) place
            ∙ ap (λ (l : List ℕ). set (take at old ++ text ++ l) end x) (drop-cons old end 0 room)
            ∙ set_at (take at old ++ text) (get_or old end 0) (drop (suc end) old) x end
            (length-laid text old at (omega (arith, a.fits)) ∙ place)
            ∙ sym (append_snoc (take at old ++ text) x (drop (suc end) old))
            ∙ ap₂ (λ (l : List ℕ) (k : ℕ). l ++ drop k old) (append_assoc (take at old) text (x ∷ [])) next;
        after = omega arith;
        fits = omega arith;
      }

  -- one text more
  pub appends-then : {more newer : List ℕ} {later : ℕ} → Appends more new end newer later → Appends (text ++ more) old at newer later
  appends-then {more} {newer} {later} b =
      let long : length (text ++ more) ≡ length text + length more = length-append text more in
      let place : end + length more ≡ at + length (text ++ more) = omega (arith, a.after) in
      record {
        lent =
            b.lent
            ∙ ap₂ (λ (l r : List ℕ). l ++ more ++ r) appends-front tail
            ∙ ap₂ (λ (l : List ℕ) (k : ℕ). l ++ drop k old) (append_assoc (take at old) text more) place;
        after = b.after ∙ place;
        fits = omega (arith, b.fits, appends-long);
      }
    where
      tail : drop (end + length more) new ≡ drop (end + length more) old
      tail =
          sym (drop-drop (length more) end new)
          ∙ ap (λ (l : List ℕ). drop (length more) l) appends-rest
          ∙ drop-drop (length more) end old
