-- Line after line of a trace, on plain values: the text so far, and what is still to come of the rest, are the whole replay. Assumes
-- nothing.
use Rattle.std.proofs.Common.{Ok, Err}
use Prim.Native.Nat.{ℕ, ◌+◌, ◌-◌, ◌≤◌, ◌<◌}
use mathlib.Core.Path.{◌≡◌, refl, sym, ap, ap₂, ◌∙◌}
use mathlib.Core.Bool.{Bool, true, cond}
use mathlib.Core.List.{List, [], ◌++◌, append_assoc, append-nil}
use lib.ListN.{length, take, drop, length-append, drop_of_length-le}
use lib.Seq.{length-take-le}
use lib.Dec.{leb}
use native.Mathlib.Omega.{arith}
use borrow.Author.Tests.{le-leb, lt-leb}
use Rattle.length.specs.Refusals.{no_room}
use Rattle.length.specs.Promise.{RefusalMade}
use Rattle.length.specs.Answers.{done, refused, refuse}
use Rattle.length.specs.declared.Refusal.{Refusal}
use Rattle.session.specs.View.{View, fresh_view}
use Rattle.session_held.specs.Table.{Lent, view_in, counts_of}
use Rattle.session_held.specs.Laid.{InRanges}
use Rattle.line.specs.Lines.{Made, silent, ◌then◌, lines_from}
use Rattle.line.specs.Promise.{Able, step_limit}
use Rattle.line.proofs.Laws.{appends-front, appends-long}
use Rattle.trace_replay.specs.Replay.{replay_steps, replay}
use Rattle.trace_replay.specs.Promise.{fitted_text, replay_answer}
use Rattle.trace_replay.proofs.Laws.{lines_none}
use Rattle.trace_replay_code.specs.Inner.{played_from, TakesTraceLine, Lays, Plays}
use Rattle.trace_replay_code.proofs.Laying.{lays-none, lays-long, lays-then}

-- some lines are played
pub record Playing (numbers trace : List ℕ) (writes : Bool) (old : List ℕ) (before session : Lent) (at end : ℕ) (new text : List ℕ) : Type 0
  where
    pub so_far : List ℕ
    pub lays : Lays writes so_far old 0 new end
    pub fits : end ≤ length old
    pub on : played_from numbers trace 0 (view_in before)
        ≡ record { text = so_far; after = view_in session } then played_from numbers trace at
    pub within : InRanges session
    pub room : step_limit ≡ length text

pub playing-start : (numbers trace : List ℕ) (writes : Bool) (out : List ℕ) (session : Lent) (text : List ℕ) → InRanges session
    → step_limit ≡ length text
    → Playing numbers trace writes out session session 0 0 out text
playing-start numbers trace writes out session text within room =
    record { so_far = []; lays = lays-none writes out; fits = omega arith; on = refl; within = within; room = room }

module _ {numbers trace : List ℕ} {writes : Bool} {old : List ℕ} {before session : Lent} {at end : ℕ} {new text : List ℕ}
    (p : Playing numbers trace writes old before session at end new text) where
  pub playing-long : length new ≡ length old
  playing-long = lays-long p.lays

  pub playing-able : Able step_limit session text 0
  playing-able = record { within = p.within; room = omega (arith, p.room) }

  module _ {after : Lent} {made : List ℕ} {size next : ℕ} (t : TakesTraceLine numbers trace at session after text made size next) where
    -- the text of the line
    line-text : take size made ≡ t.made.text
    line-text = appends-front t.does.lent

    line-size : size ≡ length t.made.text
    line-size = omega (arith, t.does.lent.after)

    pub line-inside : size ≤ length made
    line-inside = omega (arith, line-size, t.does.lent.fits, appends-long t.does.lent)

    pub line-long : size ≡ length (take size made)
    line-long = sym (length-take-le size made line-inside)

    -- the whole, with this line
    whole : played_from numbers trace 0 (view_in before)
        ≡ record { text = p.so_far ++ t.made.text; after = view_in after } then played_from numbers trace next
    whole =
        p.on
        ∙ ap (λ (m : Made). record { text = p.so_far ++ m.text; after = m.after }) t.on
        ∙ ap₂ (λ (l : List ℕ) (v : View). record { text = l; after = v })
        (sym (append_assoc p.so_far t.made.text (played_from numbers trace next t.made.after).text)) refl
        ∙ ap (λ (v : View). record { text = p.so_far ++ t.made.text; after = v } then played_from numbers trace next)
        (sym t.does.state)

    pub line-room : size ≤ length new - end → end + length (take size made) ≤ length new
    line-room room = omega (arith, line-long, p.fits, playing-long)

    pub playing-turn : {newer : List ℕ} {later : ℕ} → size ≤ length new - end → Lays writes (take size made) new end newer later
        → Playing numbers trace writes old before after next later newer made
    playing-turn room l =
        record {
          so_far = p.so_far ++ t.made.text;
          lays = lays-then p.lays (rw line-text at l);
          fits = omega (arith, l.after, line-room room, playing-long);
          on = whole;
          within = t.does.within;
          room = p.room ∙ sym (appends-long t.does.lent);
        }

    -- no room for the line
    pub playing-full : {why : Refusal} → view_in before ≡ fresh_view → length new - end < size → RefusalMade no_room why
        → Plays trace numbers writes old new (Err why)
    unfolding replay
    playing-full {why} view short is =
        let made_of = replay numbers trace in
        let more = (played_from numbers trace next (view_in after)).text in
        let text-is : made_of.text ≡ (p.so_far ++ t.made.text) ++ more =
        ap (λ (m : Made). m.text) (ap (played_from numbers trace 0) (sym view) ∙ whole) in
        let long : length old < length made_of.text =
        omega (
          arith,
          ap length text-is,
          length-append (p.so_far ++ t.made.text) more,
          length-append p.so_far t.made.text,
          p.lays.after,
          line-size,
          playing-long,
          p.fits,
        ) in
        let full = lt-leb (length made_of.text) (length old) long in
        record {
          answer = rw full (ap (λ (x : Refusal). refused x) is.answer);
          written = λ so fits. absurd (omega arith);
          unwritten = p.lays.unwritten;
          long = playing-long;
        }

-- nothing is left of the trace
played-all : (numbers trace : List ℕ) (at : ℕ) (view : View) → length trace ≤ at → played_from numbers trace at view ≡ silent view
unfolding replay_steps
played-all numbers trace at view end =
    ap (λ (l : List ℕ). replay_steps numbers (lines_from [] l) view) (drop_of_length-le trace end)
    ∙ ap (λ (l : List (List ℕ)). replay_steps numbers l view) lines_none

module _ {numbers trace : List ℕ} {writes : Bool} {old : List ℕ} {before session : Lent} {at end : ℕ} {new text : List ℕ}
    (p : Playing numbers trace writes old before session at end new text) where
  pub playing-done : view_in before ≡ fresh_view → length trace ≤ at
      → Plays trace numbers writes old new (Ok (record { counts = session.counts; size = end }))
  unfolding replay view_in
  playing-done view past =
      let made = replay numbers trace in
      let all : made ≡ record { text = p.so_far; after = view_in session } =
      ap (played_from numbers trace 0) (sym view)
      ∙ p.on
      ∙ ap (λ (m : Made). record { text = p.so_far ++ m.text; after = m.after }) (played-all numbers trace at (view_in session) past)
      ∙ ap (λ (l : List ℕ). record { text = l; after = view_in session }) (append-nil p.so_far) in
      let text-is : made.text ≡ p.so_far = ap (λ (m : Made). m.text) all in
      let size : end ≡ length p.so_far = omega (arith, p.lays.after) in
      let fits : leb (length p.so_far) (length old) ≡ true = le-leb (length p.so_far) (length old) (omega (arith, p.fits)) in
      record {
        answer =
            sym (ap (λ (m : Made). replay_answer m (fitted_text m old)) all
            ∙ ap (λ (b : Bool). replay_answer (record { text = p.so_far; after = view_in session }) (cond b (done p.so_far) (refuse no_room)))
            fits
            ∙ ap (λ (n : ℕ). done (record { counts = counts_of session.counts; size = n })) (sym size));
        written = λ so room.
            let laid = p.lays.written so in
            let place : 0 + length p.so_far ≡ length p.so_far = omega arith in
            laid.lent
            ∙ ap (λ (n : ℕ). p.so_far ++ drop n old) place
            ∙ ap (λ (l : List ℕ). l ++ drop (length l) old) (sym text-is);
        unwritten = p.lays.unwritten;
        long = lays-long p.lays;
      }
