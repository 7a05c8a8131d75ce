-- The instances, computed. Assumes nothing.
use Prim.Native.Nat.{ℕ, ◌≤◌}
use mathlib.Core.Path.{◌≡◌, refl, sym, ap, subst, ◌∙◌}
use mathlib.Core.Bool.{true}
use mathlib.Core.List.{List, []}
use lib.ListN.{length, length-drop}
use native.Mathlib.Omega.{arith}
use borrow.Author.Tests.{le-ltb}
use Rattle.octets.specs.Place.{tab, all_below}
use Rattle.length.specs.Tables.{unless}
use Rattle.session.specs.View.{View, fresh_view}
use Rattle.session.specs.Release.{release}
use Rattle.session_held.specs.Table.{lent_by, view_in}
use Rattle.session_held.specs.Laid.{InRanges}
use Rattle.session_held.specs.Promise.{Fresh}
use Rattle.session_held.specs.declared.Session.{Session}
use Rattle.session_held.proofs.Laws.{session-in-ranges}
use Rattle.line.specs.Hex.{digit_of, digit_for, all_digits, octets_in, line_octets, hex_of}
use Rattle.line.specs.Lines.{refusal_line, releases_f, line_offered, offer_line, answer_line, step}
use Rattle.line.specs.Feed.{Going, line_done, longer, taken_in, fed, at_end, going_in}
use Rattle.line.specs.FeedPromise.{taken_of, Feeds, Ends}
use Rattle.line.specs.Text.{characters}
use Rattle.line.proofs.Laws.{line-fresh}
use Rattle.image.specs.Image.{image_text, LentOctets}
use Rattle.image.specs.Layout.{image_version02}
use Rattle.image.proofs.Claims as images
use Rattle.demands.specs.Demand2.Demand2.{Saved}
use Rattle.demands.specs.Demand3.Feeding.{fresh}
use Rattle.demands.specs.Demand3.Example.{example_row, example_datagrams}
use Rattle.demands.specs.Program.{Running, start, block}
use Rattle.demands.specs.Requests.Handover.{Wrote, ReadAs}
use Rattle.demands.specs.RunInstances.{no_line, refused_line, fresh_text, FreshHandedOver, RunInstances}
use Rattle.demands.proofs.Example as example
use Rattle.demands.proofs.ImageCalls.{wrote-image, every_one}
use Rattle.demands.proofs.Handover as handover

-- ---- a line
abbrev begins : Going
begins = record { text = []; view = fresh_view; begun = [] }

refused-line : fed (characters "0\n") begins ≡ record { text = characters "FF0F0000\n"; view = fresh_view; begun = [] }
unfolding characters fed taken_in longer line_done step answer_line offer_line line_offered releases_f refusal_line line_octets unless
    octets_in
    all_digits digit_of digit_for hex_of release fresh_view tab all_below
refused-line = refl

taken-two : (room : ℕ) → 17127 ≤ room → 2 ≡ taken_of room true (characters "0\n") begins
unfolding characters taken_of taken_in
taken-two room wide = rw (le-ltb room 17127 wide)

no_end : at_end begins ≡ begins
unfolding at_end
no_end = refl

module _ (r : Session) (out : List ℕ) (f : Fresh r) (wide : 17127 ≤ length out) where
  within : InRanges (lent_by r)
  within = session-in-ranges r f.ranges f.sized

  view-is : view_in (lent_by r) ≡ fresh_view
  view-is = f.view

  going : (text : List ℕ)
      → ◌≡◌ {A = Going} (record { text = text; view = view_in (lent_by r); begun = [] }) (record { text = text; view = fresh_view; begun = [] })
  going text = ap (λ (v : View). record { text = text; view = v; begun = [] }) view-is

  taken : Feeds (going_in (lent_by r) no_line 0 out 0) (characters "0\n") out (lent_by r) no_line 0 2 (refused_line out) 9
  unfolding characters
  taken =
      record {
        takes =
            record {
              state = going (characters "FF0F0000\n") ∙ sym (ap (fed (characters "0\n")) (going []) ∙ refused-line);
              within = within;
              line = line-fresh 4801 refl;
              inside = omega arith;
              fits = omega arith;
              rest = refl;
              long = omega (arith, length-drop 9 out);
            };
        all = taken-two (length out) wide ∙ sym (ap (taken_of (length out) true (characters "0\n")) (going []));
      }

  running : Running (characters "0\n") [] (characters "FF0F0000\n") (lent_by r) no_line 0
  unfolding characters
  running = block (characters "0\n") [] (start no_line f) taken

  ended : Ends (going_in (lent_by r) no_line 0 out 0) out (lent_by r) out 0
  ended =
      record {
        state = going [] ∙ sym (ap at_end (going []) ∙ no_end);
        within = within;
        fits = omega arith;
        rest = refl;
        long = refl;
      }

-- ---- a fresh session handed over
handed : (s : Session) → Fresh s → LentOctets (lent_by s) → FreshHandedOver s
handed s f small =
    let saved : Saved s = record { sized = f.sized; in_ranges = f.ranges } in
    let out = every_one saved small in
    let is : out.0 ≡ fresh_text = (wrote-image out.1).is ∙ ap (image_text image_version02) f.view ∙ (images.claims).cases.written.fresh in
    let wrote = subst (Wrote s) is out.1 in
    let reads = subst (λ (text : List ℕ). ReadAs text s) is out.2 in
    record {
      wrote = wrote;
      reads = reads;
      starts = (handover.handover).demand3 example_row example_datagrams (example.example).honest (fresh f) small wrote reads;
    }

pub run-instances : RunInstances
run-instances =
    record {
      line_taken = λ r out f wide. record { taken = taken r out f wide; running = running r out f wide; ended = ended r out f wide };
      handed_over = handed;
    }
