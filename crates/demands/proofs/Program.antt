-- The program on any input, block by block: what is taken in, with what is still to come after it, is the input. Assumes nothing.
use Prim.Native.Nat.{ℕ}
use mathlib.Core.Path.{◌≡◌, refl, sym, ap, ◌∙◌}
use mathlib.Core.List.{List, [], ◌++◌, append_assoc, append-nil}
use lib.ListN.{take, drop, take-append-drop}
use Rattle.session_held.specs.Table.{Lent}
use Rattle.line.specs.Lines.{program}
use Rattle.line.specs.Feed.{PartWay}
use Rattle.line.proofs.Claims as lines
use Rattle.demands.specs.Program.{Running, start, block, Program}

record Halfway (input rest text : List ℕ) (session : Lent) (line : List ℕ) (begun : ℕ) : Type 0 where
  taken : List ℕ
  part_way : PartWay taken text session line begun
  all : taken ++ rest ≡ input

halfway : {input rest text : List ℕ} {session : Lent} {line : List ℕ} {begun : ℕ} → Running input rest text session line begun
    → Halfway input rest text session line begun
halfway (start line fresh) = record { taken = []; part_way = (lines.claims).in_turn.start line fresh; all = refl }
halfway (block s more {taken = taken} run feeds) =
    let h = halfway run in
    let front : take taken s ++ (drop taken s ++ more) ≡ s ++ more =
    sym (append_assoc (take taken s) (drop taken s) more) ∙ ap (λ (x : List ℕ). x ++ more) (take-append-drop taken s) in
    record {
      taken = h.taken ++ take taken s;
      part_way = (lines.claims).in_turn.block h.part_way feeds;
      all =
          append_assoc h.taken (take taken s) (drop taken s ++ more) ∙ ap (λ (x : List ℕ). h.taken ++ x) front ∙ h.all;
    }

pub program-claims : Program
program-claims =
    record {
      whole_case = (lines.claims).whole_case;
      cases = (lines.claims).cases;
      written_reads = (lines.claims).written_reads;
      releases_all = (lines.claims).releases_all;
      in_turn = (lines.claims).in_turn;
      writes = λ run ends.
          let h = halfway run in
          ap program (sym h.all ∙ append-nil h.taken) ∙ (lines.claims).in_turn.finish h.part_way ends;
    }
