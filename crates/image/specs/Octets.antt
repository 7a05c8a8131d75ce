-- An image line by line in plain octets and characters (rules 20.2 to 20.6). The writer's code follows these definitions, which are proved
-- equal to what `Layout` spells. Definitions only.
use Rattle.std.specs.Prelude.{ℕ, List, [], ◌∷◌, ◌++◌, length}
use Rattle.format.specs.Format.{flag_bit}
use Rattle.datagram.specs.Write.{item_octets}
use Rattle.line.specs.Lines.{line_of}
use Rattle.image.specs.Parts.{high_first_octets}
use Rattle.image.specs.Layout.{FirstImageLine, Number, state_number}

-- the octets of a list, item after item
module _ {A : Type 0} where
  unfoldable pub in_row : (A → List ℕ) → List A → List ℕ
  in_row octets [] = []
  in_row octets (a ∷ l) = octets a ++ in_row octets l

-- the first line: the version octet, base, counts
abbrev pub first_image_octets : ℕ → FirstImageLine → List ℕ
first_image_octets octet f =
    high_first_octets 1 octet
    ++ (high_first_octets 2 f.base
    ++ (high_first_octets 4 f.counts.received
    ++ (high_first_octets 4 f.counts.spare ++ (high_first_octets 4 f.counts.repaired ++ high_first_octets 4 f.counts.lost))))

-- m and the messages
abbrev pub messages_octets : List (List ℕ) → List ℕ
messages_octets items = high_first_octets 1 (length items) ++ in_row item_octets items

-- the line of a number: state, accepted octet, note, packet, n, m, messages
abbrev pub line_octets_of : Number → List ℕ
line_octets_of k =
    high_first_octets 1 (state_number k.cell.state)
    ++ (high_first_octets 1 (flag_bit k.held.accepted)
    ++ (high_first_octets 2 k.cell.note
    ++ (item_octets k.cell.octets ++ (high_first_octets 1 k.held.n ++ messages_octets k.held.messages))))

-- the line of a number as text
abbrev pub number_text : Number → List ℕ
number_text k = line_of (line_octets_of k)

-- all lines: the first, those before the base, those from the base on
unfoldable pub image_lines : ℕ → FirstImageLine × (List Number × List Number) → List ℕ
image_lines octet x = line_of (first_image_octets octet x.0) ++ (in_row number_text x.1.0 ++ in_row number_text x.1.1)
