-- A datagram item by item (rules 4.1 to 4.7): the number, the newest packet, the octet for spares or parity, then the spares, or octet
-- `01`, octet n and the messages, and nothing behind them. A datagram is a row of items, and some items decide which come next.
-- Definitions only.
use Rattle.std.specs.Prelude.{ℕ, ◌≤◌, ◌≡◌, cond, List, [], ◌∷◌, ◌++◌, length, replicate, eqb}
use Rattle.length.specs.Length.{length_octets}
use Rattle.datagram.specs.Sizes.{packet_least, packet_limit, message_least, message_limit, spares_least, spares_limit, covered_least}
use Rattle.datagram.specs.Sizes.{covered_limit, messages_least, messages_limit}

-- ---- the items
pub data Item : Type 0 where
  -- the number, two octets (rule 4.1)
  number : Item
  -- the length of a packet, the newest or a spare (rules 4.2 and 4.4)
  packet : Item
  -- the octet `00` for spares or `80` for parity (rule 4.3)
  kind : Item
  -- the count of spares (rule 4.4)
  spares : Item
  -- octet `01`, octet n and count m of parity (rule 4.6)
  octet01 : Item
  octet_n : Item
  count_m : Item
  -- the length of a message
  message : Item
  -- this many octets of a packet, spare or message
  inside : ℕ → Item

-- what an item looks like
pub data Form : Type 0 where
  -- this many octets, with any values
  many : ℕ → Form
  -- a length or count, from least to most (rules 3.1 and 3.2)
  sized : (least most : ℕ) → Form
  -- one plain octet, from least to most (rule 4.8)
  plain : (least most : ℕ) → Form
  -- one octet, `00` or `80`
  flag : Form
  -- nothing follows (rule 4.7)
  nothing : Form

unfoldable pub form_of : Item → Form
form_of number = many 2
form_of packet = sized packet_least packet_limit
form_of kind = flag
form_of spares = sized spares_least spares_limit
form_of octet01 = plain 0x01 0x01
form_of octet_n = plain covered_least covered_limit
form_of count_m = sized messages_least messages_limit
form_of message = sized message_least message_limit
form_of (inside n) = many n

-- what must come next, where these items are due
unfoldable pub form_due : List Item → Form
form_due [] = nothing
form_due (item ∷ later) = form_of item

-- the items that follow from an item with this value: from a length its octets, from a count that many lengths, from `00` the count of
-- spares, and from `80` the three items of parity
unfoldable pub brings : Item → ℕ → List Item
brings number value = []
brings packet value = inside value ∷ []
brings kind value = cond (eqb value 0x00) (spares ∷ []) (octet01 ∷ octet_n ∷ count_m ∷ [])
brings spares value = replicate value packet
brings octet01 value = []
brings octet_n value = []
brings count_m value = replicate value message
brings message value = inside value ∷ []
brings (inside n) value = []

-- ---- right items

-- these octets are a right item of this form, with this value
pub data Right : Form → List ℕ → ℕ → Type 0 where
  right_octets : {n : ℕ} {x : List ℕ} → length x ≡ n → Right (many n) x 0
  right_size : {least most value : ℕ} → least ≤ value → value ≤ most → Right (sized least most) (length_octets value) value
  right_octet : {least most value : ℕ} → least ≤ value → value ≤ most → Right (plain least most) (value ∷ []) value
  right_spares : Right flag (0x00 ∷ []) 0x00
  right_parity : Right flag (0x80 ∷ []) 0x80

-- these octets are right items of a datagram from its first item on, and these items are due behind them
pub data Due : List ℕ → List Item → Type 0 where
  begins : Due [] (number ∷ packet ∷ kind ∷ [])
  passes : {before x : List ℕ} {item : Item} {later : List Item} {value : ℕ} → Due before (item ∷ later)
      → Right (form_of item) x value → Due (before ++ x) (brings item value ++ later)

-- these octets are a datagram: right items, and none is due behind them
abbrev pub WholeDatagram : List ℕ → Type 0
WholeDatagram octets = Due octets []
