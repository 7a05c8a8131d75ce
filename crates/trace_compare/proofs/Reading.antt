-- The lines of a trace as they are read, one after the other. Assumes nothing.
use Prim.Native.Nat.{ℕ, zero, suc, ◌+◌, ◌≤◌}
use mathlib.Core.Path.{◌≡◌, refl, sym, ap, ap₂, ◌∙◌}
use mathlib.Core.List.Memᴰ
use mathlib.Core.List.{List, [], ◌∷◌, ◌++◌, append_assoc, append-nil}
use mathlib.Core.Logic.{◌⊎◌, inl, inr, ⊎_elim}
use lib.ListN.{length}
use native.Mathlib.Omega.{arith}
use Rattle.length.specs.Answers.{Answer, done, refused}
use Rattle.length.specs.declared.Refusal.{Refusal}
use Rattle.datagram.specs.Carried.{Carried}
use Rattle.trace_compare.specs.Pairing.{TraceLine}
use Rattle.trace_compare.specs.Told.{PlacedAnswer, told, stopped, Where, at, ◌>>=◌}
use Rattle.trace_compare.specs.Traces.{datagram_in, lines_read}
use Rattle.trace_compare.specs.Claims.{Readable, AllReadable}

-- lines that were read before those that are still to be read
abbrev pub behind : List TraceLine → PlacedAnswer (List TraceLine) → PlacedAnswer (List TraceLine)
behind front (told lines) = told (front ++ lines)
behind front (stopped why place) = stopped why place

pub behind-none : (t : PlacedAnswer (List TraceLine)) → behind [] t ≡ t
behind-none (told lines) = refl
behind-none (stopped why place) = refl

pub behind-behind : (front more : List TraceLine) (t : PlacedAnswer (List TraceLine)) → behind front (behind more t) ≡ behind (front ++ more) t
behind-behind front more (told lines) = ap (λ (l : List TraceLine). told l) (sym (append_assoc front more lines))
behind-behind front more (stopped why place) = refl

-- ---- one line
pub read_none : (trace n : ℕ) → lines_read trace n [] ≡ told []
unfolding lines_read
read_none trace n = refl

pub read-empty : (trace n : ℕ) (line : List ℕ) (lines : List (List ℕ)) → line ≡ []
    → lines_read trace n (line ∷ lines) ≡ lines_read trace (suc n) lines
unfolding lines_read
read-empty trace n line lines is = ap (λ (l : List ℕ). lines_read trace n (l ∷ lines)) is

-- a line that is not empty, by what it holds
abbrev told-so : ℕ → ℕ → Answer Carried → PlacedAnswer (List TraceLine) → PlacedAnswer (List TraceLine)
told-so trace n held more =
    ◌>>=◌ (at (record { trace = trace; line = n }) held)
    (λ (datagram : Carried). ◌>>=◌ more (λ (l : List TraceLine). told (record { line = n; datagram = datagram } ∷ l)))

one-behind : (l : TraceLine) (more : PlacedAnswer (List TraceLine))
    → ◌>>=◌ more (λ (lines : List TraceLine). told (l ∷ lines)) ≡ behind (l ∷ []) more
one-behind l (told lines) = refl
one-behind l (stopped why place) = refl

read_some : (trace n : ℕ) (line : List ℕ) (lines : List (List ℕ)) → 1 ≤ length line
    → lines_read trace n (line ∷ lines) ≡ told-so trace n (datagram_in line) (lines_read trace (suc n) lines)
unfolding lines_read
read_some trace n [] lines some = absurd (omega (arith, some))
read_some trace n (c ∷ line) lines some = refl

pub read_done : (trace n : ℕ) (line : List ℕ) (lines : List (List ℕ)) (datagram : Carried) → 1 ≤ length line
    → datagram_in line ≡ done datagram
    → lines_read trace n (line ∷ lines) ≡ behind (record { line = n; datagram = datagram } ∷ []) (lines_read trace (suc n) lines)
read_done trace n line lines datagram some is =
    read_some trace n line lines some
    ∙ ap (λ (a : Answer Carried). told-so trace n a (lines_read trace (suc n) lines)) is
    ∙ one-behind (record { line = n; datagram = datagram }) (lines_read trace (suc n) lines)

pub read-refused : (trace n : ℕ) (line : List ℕ) (lines : List (List ℕ)) (why : Refusal) → 1 ≤ length line → datagram_in line ≡ refused why
    → lines_read trace n (line ∷ lines) ≡ stopped why (record { trace = trace; line = n })
read-refused trace n line lines why some is =
    read_some trace n line lines some ∙ ap (λ (a : Answer Carried). told-so trace n a (lines_read trace (suc n) lines)) is

-- empty, or not
pub empty-or-some : (line : List ℕ) → (line ≡ []) ⊎ (1 ≤ length line)
empty-or-some [] = inl refl
empty-or-some (c ∷ line) = inr (omega arith)

-- ---- lines that all read
all_tail : (line : List ℕ) (lines : List (List ℕ)) → AllReadable (line ∷ lines) → AllReadable lines
all_tail line lines all other among = all other (Memᴰ.tail among)

-- a readable line adds a datagram, or none
record Step (trace n : ℕ) (line : List ℕ) : Type 0 where
  front : List TraceLine
  read : (lines : List (List ℕ)) → lines_read trace n (line ∷ lines) ≡ behind front (lines_read trace (suc n) lines)

step-empty : (trace n : ℕ) (line : List ℕ) → line ≡ [] → Step trace n line
step-empty trace n line is =
    record { front = []; read = λ lines. read-empty trace n line lines is ∙ sym (behind-none (lines_read trace (suc n) lines)) }

step-readable : (trace n : ℕ) (line : List ℕ) → Readable line → Step trace n line
step-readable trace n line readable =
    ⊎_elim
    (λ is. step-empty trace n line is)
    (λ held.
    ⊎_elim
    (λ is. step-empty trace n line is)
    (λ some.
    record {
      front = record { line = n; datagram = held.0 } ∷ [];
      read = λ lines. read_done trace n line lines held.0 some held.1;
    })
    (empty-or-some line))
    readable

-- some readable lines in front of others
record Steps (trace n : ℕ) (before : List (List ℕ)) : Type 0 where
  front : List TraceLine
  read : (lines : List (List ℕ)) → lines_read trace n (before ++ lines) ≡ behind front (lines_read trace (n + length before) lines)

steps-readable : (trace n : ℕ) (before : List (List ℕ)) → AllReadable before → Steps trace n before
steps-readable trace n [] all =
    let same : n ≡ n + 0 = omega arith in
    record {
      front = [];
      read = λ lines. ap (λ (k : ℕ). lines_read trace k lines) same ∙ sym (behind-none (lines_read trace (n + 0) lines));
    }
steps-readable trace n (line ∷ before) all =
    let one = step-readable trace n line (all line (Memᴰ.head refl)) in
    let more = steps-readable trace (suc n) before (all_tail line before all) in
    let place : suc n + length before ≡ n + suc (length before) = omega arith in
    record {
      front = one.front ++ more.front;
      read = λ lines.
          one.read (before ++ lines)
          ∙ ap (behind one.front) (more.read lines)
          ∙ behind-behind one.front more.front (lines_read trace (suc n + length before) lines)
          ∙ ap (λ (k : ℕ). behind (one.front ++ more.front) (lines_read trace k lines)) place;
    }

pub all_read : (trace n : ℕ) (lines : List (List ℕ)) → AllReadable lines → (held : List TraceLine) × (lines_read trace n lines ≡ told held)
all_read trace n lines all =
    let steps = steps-readable trace n lines all in (
      steps.front ++ [],
      ap (lines_read trace n) (sym (append-nil lines))
          ∙ steps.read []
          ∙ ap (behind steps.front) (read_none trace (n + length lines)),
    )

-- ---- the first that does not read
pub first-refused : (trace n : ℕ) (before : List (List ℕ)) (line : List ℕ) (after : List (List ℕ)) (why : Refusal) → AllReadable before
    → 1 ≤ length line → datagram_in line ≡ refused why
    → lines_read trace n (before ++ line ∷ after) ≡ stopped why (record { trace = trace; line = n + length before })
first-refused trace n before line after why all some is =
    let steps = steps-readable trace n before all in
    steps.read (line ∷ after)
    ∙ ap (behind steps.front) (read-refused trace (n + length before) line after why some is)

-- ---- whatever stops a trace names that trace
stopped-behind : (front : List TraceLine) (t : PlacedAnswer (List TraceLine)) (why : Refusal) (place : Where) → behind front t ≡ stopped why place
    → t ≡ stopped why place
stopped-behind front (told lines) why place e = let z : ◌≡◌ {A = ℕ} 0 1 = cc in absurd (omega arith)
stopped-behind front (stopped r p) why place e = e

stopped-so : (trace n : ℕ) (held : Answer Carried) (more : PlacedAnswer (List TraceLine)) (why : Refusal) (place : Where)
    → ((r : Refusal) (p : Where) → more ≡ stopped r p → p.trace ≡ trace)
    → told-so trace n held more ≡ stopped why place → place.trace ≡ trace
stopped-so trace n (refused r) more why place later e =
    let same : record { trace = trace; line = n } ≡ place = cc in
    sym (ap (λ (w : Where). w.trace) same)
stopped-so trace n (done d) (told lines) why place later e = let z : ◌≡◌ {A = ℕ} 0 1 = cc in absurd (omega arith)
stopped-so trace n (done d) (stopped r p) why place later e = later why place e

pub stopped-trace : (trace n : ℕ) (lines : List (List ℕ)) (why : Refusal) (place : Where) → lines_read trace n lines ≡ stopped why place
    → place.trace ≡ trace
unfolding lines_read
stopped-trace trace n [] why place e = let z : ◌≡◌ {A = ℕ} 0 1 = cc in absurd (omega arith)
stopped-trace trace n ([] ∷ lines) why place e = stopped-trace trace (suc n) lines why place e
stopped-trace trace n ((c ∷ line) ∷ lines) why place e =
    stopped-so trace n (datagram_in (c ∷ line)) (lines_read trace (suc n) lines) why place
    (λ r p is. stopped-trace trace (suc n) lines r p is) e

-- ---- a trace reads the same as the first or as the second
told-behind : (front : List TraceLine) (t : PlacedAnswer (List TraceLine)) (held : List TraceLine) → behind front t ≡ told held
    → (more : List TraceLine) × (t ≡ told more) × (held ≡ front ++ more)
told-behind front (told more) held e = let same : front ++ more ≡ held = cc in (more, refl, sym same)
told-behind front (stopped why place) held e = let z : ◌≡◌ {A = ℕ} 0 1 = cc in absurd (omega arith)

told-done : (trace n : ℕ) (a : Answer Carried) (more : PlacedAnswer (List TraceLine)) (held : List TraceLine) → told-so trace n a more ≡ told held
    → (datagram : Carried) × (a ≡ done datagram)
told-done trace n (done d) more held e = (d, refl)
told-done trace n (refused why) more held e = let z : ◌≡◌ {A = ℕ} 0 1 = cc in absurd (omega arith)

-- a line that holds a datagram, in front of lines of which this is known
either-done : (trace other n : ℕ) (line : List ℕ) (lines : List (List ℕ)) (held : List TraceLine) (datagram : Carried) → 1 ≤ length line
    → datagram_in line ≡ done datagram → lines_read trace n (line ∷ lines) ≡ told held
    → ((more : List TraceLine) → lines_read trace (suc n) lines ≡ told more → lines_read other (suc n) lines ≡ told more)
    → lines_read other n (line ∷ lines) ≡ told held
either-done trace other n line lines held datagram some is e later =
    let l : TraceLine = record { line = n; datagram = datagram } in
    let rest = told-behind (l ∷ []) (lines_read trace (suc n) lines) held (sym (read_done trace n line lines datagram some is) ∙ e) in
    read_done other n line lines datagram some is
    ∙ ap (behind (l ∷ [])) (later rest.0 rest.1)
    ∙ ap (λ (h : List TraceLine). told h) (sym rest.2)

pub either-trace : (trace other n : ℕ) (lines : List (List ℕ)) (held : List TraceLine) → lines_read trace n lines ≡ told held
    → lines_read other n lines ≡ told held
either-trace trace other n [] held e = read_none other n ∙ sym (read_none trace n) ∙ e
either-trace trace other n ([] ∷ lines) held e =
    read-empty other n [] lines refl
    ∙ either-trace trace other (suc n) lines held (sym (read-empty trace n [] lines refl) ∙ e)
either-trace trace other n ((c ∷ line) ∷ lines) held e =
    let so = told-done trace n (datagram_in (c ∷ line)) (lines_read trace (suc n) lines) held
    (sym (read_some trace n (c ∷ line) lines (omega arith)) ∙ e) in
    either-done trace other n (c ∷ line) lines held so.0 (omega arith) so.1 e
    (λ more is. either-trace trace other (suc n) lines more is)
