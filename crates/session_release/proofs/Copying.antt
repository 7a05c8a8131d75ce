-- A number left, and its packet is copied out of its slot: one law for each answer of `release_core`. Assumes nothing.
use Rattle.std.proofs.Common.{◌≡◌, ℕ, ◌%◌, ◌≤◌, Bool, List, ◌++◌, length, drop, sym, refl, ap, ◌∙◌, ap₂, arith, Result, Ok, Err}
use Rattle.length.specs.Answers.{Answer, done, refused}
use Rattle.length.specs.declared.Refusal.{Refusal}
use Rattle.datagram.specs.Sizes.{packet_limit}
use Rattle.session_slots.specs.Store.{HasSlot, part}
use Rattle.session.specs.Cells.{State}
use Rattle.session.specs.Release.{Release, release}
use Rattle.session.proofs.Laws.{release-leaves}
use Rattle.session_held.specs.Slots.{slots_kept}
use Rattle.session_held.specs.Table.{Lent, view_in, state_of}
use Rattle.session_held.specs.declared.ReleaseKind.{ReleaseKind}
use Rattle.session_held.proofs.Laws.{has-packet-slot}
use Rattle.session_release.specs.Outcome.{Handed, released_outcome, handed_of}
use Rattle.session_release.specs.Promise.{Leaves, Releases}
use Rattle.session_release.specs.declared.Released.{Released}

-- ---- what the answer says of the number that left
pub record Gone (x : Answer Release) (kind : State) (number note size : ℕ) : Type 0 where
  pub out : Release
  pub is : x ≡ done out
  pub same_kind : kind ≡ out.kind
  pub same_number : number ≡ out.number
  pub same_size : size ≡ length out.octets

gone_of : (x : Answer Release) (kind : State) (number note size : ℕ)
    → done (record { kind = kind; number = number; note = note; size = size }) ≡ handed_of x → Gone x kind number note size
gone_of (done r) kind number note size e =
    let same : ◌≡◌ {A = Handed} (record { kind = kind; number = number; note = note; size = size })
    (record { kind = r.kind; number = r.number; note = r.note; size = length r.octets }) = cc in
    record {
      out = r;
      is = refl;
      same_kind = ap (λ (a : Handed). a.kind) same;
      same_number = ap (λ (a : Handed). a.number) same;
      same_size = ap (λ (a : Handed). a.size) same;
    }
gone_of (refused x) kind number note size e = let z : ◌≡◌ {A = ℕ} 0 1 = cc in absurd (omega arith)

none-gone : (x : Answer Release) (why : Refusal) → refused why ≡ handed_of x → x ≡ refused why
none-gone (done r) why e = let z : ◌≡◌ {A = ℕ} 0 1 = cc in absurd (omega arith)
none-gone (refused x) why e = cc

module _ {leave : Bool} {room : ℕ} {before after : Lent} {answer : Result Released Refusal} (l : Leaves leave room before after answer) where
  pub gone : {kind : ReleaseKind} {number note size : ℕ} → answer ≡ Ok (record { kind = kind; number = number; note = note; size = size })
      → Gone (release leave room (view_in before)) (state_of kind) number note size
  gone {kind} {number} {note} {size} is =
      gone_of (release leave room (view_in before)) (state_of kind) number note size (sym (ap released_outcome is) ∙ l.told)

  pub not-gone : {why : Refusal} → answer ≡ Err why → release leave room (view_in before) ≡ refused why
  not-gone {why} is = none-gone (release leave room (view_in before)) why (sym (ap released_outcome is) ∙ l.told)

  -- where its packet is, and how long
  pub gone-there : (number : ℕ) {slot : ℕ} → slot ≡ number % slots_kept → HasSlot slot after.octets
  gone-there number {slot} at = has-packet-slot after.octets slot l.within.laid.octets (omega arith)

  module _ {kind : ReleaseKind} {number note size : ℕ} (is : answer ≡ Ok (record { kind = kind; number = number; note = note; size = size })) where
    pub gone-short : size ≤ packet_limit
    gone-short = let a = gone is in omega (arith, a.same_size, (l.stored a.out a.is).fits)

    pub gone-fits : size ≤ room
    gone-fits = let a = gone is in omega (arith, a.same_size, (release-leaves leave room (view_in before) a.out a.is).fits)

    pub gone-octets : part after.octets (number % slots_kept) size ≡ (gone is).out.octets
    gone-octets =
        let a = gone is in
        ap₂ (λ (n s : ℕ). part after.octets (n % slots_kept) s) a.same_number a.same_size ∙ (l.stored a.out a.is).octets

-- ---- each answer
module _ {leave : Bool} {before after : Lent} {old : List ℕ} {answer : Result Released Refusal} (l : Leaves leave (length old) before after answer) where
  pub copied : {kind : ReleaseKind} {number note size slot : ℕ} {new : List ℕ} → answer ≡ Ok (record { kind = kind; number = number; note = note; size = size })
      → slot ≡ number % slots_kept → new ≡ part after.octets slot size ++ drop size old
      → Releases leave before after old new answer
  copied {number = number} {size = size} {slot = slot} {new = new} is at lent =
      let a = gone l is in
      let whole : new ≡ a.out.octets ++ drop (length a.out.octets) old =
      lent
      ∙ ap₂ (λ (b : List ℕ) (n : ℕ). b ++ drop n old) (ap (λ (i : ℕ). part after.octets i size) at ∙ gone-octets l is) a.same_size in
      record {
        told = l.told;
        written = whole ∙ rw a.is refl;
        state = l.state;
        within = l.within;
        stays = l.stays;
      }

  pub not-copied : {why : Refusal} → answer ≡ Err why → Releases leave before after old old answer
  not-copied is =
      record {
        told = l.told;
        written = rw (not-gone l is) refl;
        state = l.state;
        within = l.within;
        stays = l.stays;
      }
