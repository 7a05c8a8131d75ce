-- A quoted text as characters, for cases. Definitions only.
use Rattle.std.specs.Prelude.{ℕ, List}
use Prim.Native.Char.{code}
use Prim.Native.String.{String, [], ◌∷◌}
use mathlib.Core.List as list

unfoldable pub characters : String → List ℕ
characters [] = list.[]
characters (c ∷ text) = list.◌∷◌ (code c) (characters text)
