-- The parts of a step on plain values: a release, and one part after the other. Assumes nothing.
use Rattle.std.proofs.Common.{Result, Ok, Err}
use Prim.Native.Nat.{ℕ, ◌+◌, ◌*◌, ◌%◌, ◌≤◌}
use mathlib.Core.Path.{◌≡◌, refl, sym, ap, ◌∙◌}
use mathlib.Core.Bool.{Bool, true, false, cond}
use mathlib.Core.List.{List, []}
use lib.ListN.{length}
use native.Mathlib.Omega.{arith}
use Rattle.length.specs.Answers.{Answer, done, refused, afterwards}
use Rattle.length.specs.declared.Refusal.{Refusal}
use Rattle.datagram.specs.Sizes.{packet_limit}
use Rattle.session_slots.specs.Store.{HasSlot, part}
use Rattle.session_slots.proofs.Laws.{length_part}
use Rattle.session.specs.View.{View}
use Rattle.session.specs.Release.{Release, release, view_after_release}
use Rattle.session_held.specs.Slots.{slots_kept}
use Rattle.session_held.specs.Table.{Lent, view_in, state_of}
use Rattle.session_held.specs.declared.ReleaseKind.{ReleaseKind}
use Rattle.session_release.specs.Promise as leaving
use Rattle.session_release.specs.declared.Released.{Released}
use Rattle.session_release.proofs.Laws.{gone, not-gone, gone-there, gone-short, gone-octets}
use Rattle.line.specs.Lines as lines
use Rattle.line.specs.Lines.{Made, kind_octet, result_line, refusal_line, ◌then◌}
use Rattle.line.specs.Promise.{Appends, Does, ReleasesOne, goes_on, result_limit}
use Rattle.line.proofs.Laws.{appends-none, appends-then}
use Rattle.line_code.proofs.ResultSteps.{length-result, length-refusal}

-- ---- one part after the other
module _ {first : Made} {old : List ℕ} {at : ℕ} {session : Lent} {end : ℕ} {mid : List ℕ} (a : Does first old at session end mid) where
  pub does-then : (second : View → Made) {after : Lent} {later : ℕ} {new : List ℕ}
      → Does (second (view_in session)) mid end after later new → Does (first then second) old at after later new
  does-then second b =
      let e = ap second a.state in
      record {
        lent = appends-then a.lent (rw e at b.lent);
        state = rw e at b.state;
        within = b.within;
      }

-- ---- a release
after-release : (leave : Bool) (x : Answer Release) (view : View)
    → afterwards (view_after_release x) view ≡ (lines.release_made leave x view).after
after-release leave (done r) view = refl
after-release leave (refused x) view = refl

same_line : {kind other number same : ℕ} {a b : List ℕ} → kind ≡ other → number ≡ same → a ≡ b
    → result_line kind number a ≡ result_line other same b
same_line k n e = rw (k, n, e)

module _ {leave : Bool} {before session : Lent} {answer : Result Released Refusal} (made : leaving.Leaves leave packet_limit before session answer) where
  after : view_in session ≡ (lines.release_made leave (release leave packet_limit (view_in before)) (view_in before)).after
  after = made.state ∙ after-release leave (release leave packet_limit (view_in before)) (view_in before)

  -- what left, its octets where they are stored
  pub packet-there : (number : ℕ) → HasSlot (number % slots_kept) session.octets
  packet-there number = gone-there made number refl

  module _ {kind : ReleaseKind} {number note size : ℕ} (is : answer ≡ Ok (record { kind = kind; number = number; note = note; size = size })) where
    pub packet-short : size ≤ packet_limit
    packet-short = gone-short made is

    packet-length : length (part session.octets (number % slots_kept) size) ≡ size
    packet-length = length_part session.octets (number % slots_kept) size (packet-there number) packet-short

    pub packet-room : (at : ℕ) (buffer : List ℕ) → at + result_limit ≤ length buffer → at + (7 + 2 * size) ≤ length buffer
    packet-room at buffer most = omega (arith, packet-short)

    pub released-one : {octet : ℕ} {buffer : List ℕ} {at : ℕ} {new : List ℕ} {end : ℕ} → octet ≡ kind_octet (state_of kind)
        → Appends (result_line octet number (part session.octets (number % slots_kept) size)) buffer at new end
        → ReleasesOne leave (view_in before) buffer at session end true new
    released-one {octet} k a =
        let out = gone made is in
        let text =
        ap (λ (y : Answer Release). (lines.release_made leave y (view_in before)).text) out.is
        ∙ sym (same_line (k ∙ ap kind_octet out.same_kind) out.same_number (gone-octets made is)) in
        record {
          does =
              record {
                lent = rw text a;
                state = after;
                within = made.within;
              };
          goes = rw out.is refl;
          few =
              omega
              (arith, a.after, length-result octet number (part session.octets (number % slots_kept) size), packet-short, packet-length);
        }

  -- a refusal is a line with leave, and none without
  none : {why : Refusal} → answer ≡ Err why
      → ((lines.release_made leave (release leave packet_limit (view_in before)) (view_in before)).text ≡ cond leave (refusal_line why) [])
      × (false ≡ goes_on (release leave packet_limit (view_in before)))
  none {why} is = (rw (not-gone made is) refl, rw (not-gone made is) refl)

  pub released-told : {why : Refusal} {buffer : List ℕ} {at : ℕ} {after : List ℕ} {end : ℕ} → answer ≡ Err why
      → leave ≡ true → Appends (refusal_line why) buffer at after end → ReleasesOne leave (view_in before) buffer at session end false after
  released-told {why} is told a =
      let text = (none is).0 ∙ ap (λ (b : Bool). cond b (refusal_line why) []) told in
      record {
        does = record { lent = rw text a; state = after; within = made.within };
        goes = (none is).1;
        few = omega (arith, a.after, length-refusal why);
      }

  pub released-none : {why : Refusal} {buffer : List ℕ} {at : ℕ} → answer ≡ Err why → leave ≡ false → at ≤ length buffer
      → ReleasesOne leave (view_in before) buffer at session at false buffer
  released-none {why} is silent inside =
      let text = (none is).0 ∙ ap (λ (b : Bool). cond b (refusal_line why) []) silent in
      record {
        does = record { lent = rw text (appends-none inside); state = after; within = made.within };
        goes = (none is).1;
        few = omega arith;
      }
