-- A store in octets: its slots, what is put into one, and which octets past a length are zero (rule 13.5). Definitions only.
use Rattle.std.specs.Prelude.{◌≡◌, true, false, [], ◌∷◌, ◌++◌, replicate}
use Rattle.session_slots.specs.Store.{part, pasted, zeros_from, zeros_past, mask_over, added}

pub record StoreCases : Type 0 where
  -- a slot has 256 octets (rule 1.1), so slot 1 begins at octet 256
  pub slot-1 : part (replicate 256 0x01 ++ (0x02 ∷ 0x03 ∷ [])) 1 2 ≡ 0x02 ∷ 0x03 ∷ []
  pub in-front : part (replicate 256 0x01 ++ (0x02 ∷ 0x03 ∷ [])) 1 1 ≡ 0x02 ∷ []
  pub put-into-1 : pasted (replicate 256 0x01 ++ (0x02 ∷ 0x03 ∷ [])) 1 (0x09 ∷ []) ≡ replicate 256 0x01 ++ (0x09 ∷ 0x03 ∷ [])
  -- octets past a length are zero, up to the end of the slot
  pub none-past : zeros_past (0x07 ∷ []) 0 1 ≡ true
  pub one-past : zeros_past (0x07 ∷ []) 0 0 ≡ false
  pub last-past : zeros_past (replicate 255 0x00 ++ (0x01 ∷ [])) 0 255 ≡ false
  pub next-slot : zeros_past (replicate 256 0x00 ++ (0x01 ∷ [])) 0 0 ≡ true
  pub that-slot : zeros_past (replicate 256 0x00 ++ (0x01 ∷ [])) 1 0 ≡ false
  pub run_none : zeros_from (0x07 ∷ 0x00 ∷ []) 1 ≡ true
  pub run-one : zeros_from (0x07 ∷ 0x01 ∷ []) 1 ≡ false
  -- the mask lets every octet pass in its first half, and only zero in its second
  pub mask-2 : mask_over 2 ≡ 0x00 ∷ 0x00 ∷ 0xFF ∷ 0xFF ∷ []
  -- the octets of slot 1 added by exclusive or, as many as the sum has
  pub added-1 : added (0x01 ∷ 0x02 ∷ []) (replicate 256 0x00 ++ (0x03 ∷ 0x03 ∷ 0x04 ∷ [])) 1 ≡ 0x02 ∷ 0x01 ∷ []
