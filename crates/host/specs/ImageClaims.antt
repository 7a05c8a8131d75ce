-- The claims about the calls from C on images. Statements only.
use Rattle.std.specs.Prelude.{ℕ, ◌≤◌, ◌≡◌, List, length, take}
use Rattle.length.specs.Refusals.{no_room, number_of}
use Rattle.datagram.specs.Sizes.{packet_limit}
use Rattle.session_held.specs.Table.{lent_by}
use Rattle.session_held.specs.Promise.{Sized}
use Rattle.image.specs.Image.{LentOctets, image_limit}
use Rattle.host.specs.Receiver.{session_in}
use Rattle.host.specs.Image.{ImageHosted, RestoreHosted}
use Rattle.host_answers.specs.declared.answers.Wrote.{Wrote}
use Rattle.host.specs.declared.receiver.Head.{Head}
use Rattle.host.specs.declared.image_calls.AfterRestore.{AfterRestore}

-- two outcomes that a promise allows are equal, in the answer and in all of the caller's memory (rule 28.14)
pub record OneRestored : Type 0 where
  pub write : {h : Head} {table octets messages old new₂ new₃ : List ℕ} {r q : Wrote}
      → ImageHosted h table octets messages old new₂ r → ImageHosted h table octets messages old new₃ q → (r ≡ q) × (new₂ ≡ new₃)
  pub read : {text : List ℕ} {h : Head} {table octets messages table₂ octets₂ messages₂ table₃ octets₃ messages₃ : List ℕ}
      {r q : AfterRestore} → RestoreHosted text h table octets messages table₂ octets₂ messages₂ r
      → RestoreHosted text h table octets messages table₃ octets₃ messages₃ q
      → (r ≡ q) × (table₂ ≡ table₃) × (octets₂ ≡ octets₃) × (messages₂ ≡ messages₃)

-- an image that was written reads back into any memory as the same session (rules 20.11 and 24.12), and a buffer of the length of the
-- longest image is large enough for any image (rules 20.20 and 24.13)
pub record HandedOver : Type 0 where
  pub back : {h k : Head} {table octets messages old new table₁ octets₁ messages₁ table₂ octets₂ messages₂ : List ℕ} {w : Wrote}
      {r : AfterRestore} → Sized (session_in h table octets messages) → LentOctets (lent_by (session_in h table octets messages))
      → ImageHosted h table octets messages old new w → w.refusal ≡ 0
      → RestoreHosted (take w.size new) k table₁ octets₁ messages₁ table₂ octets₂ messages₂ r
      → (r.answer.refusal ≡ 0) × (session_in r.head table₂ octets₂ messages₂ ≡ session_in h table octets messages)
  pub room : {h : Head} {table octets messages old new : List ℕ} {w : Wrote} → Sized (session_in h table octets messages)
      → LentOctets (lent_by (session_in h table octets messages)) → ImageHosted h table octets messages old new w
      → image_limit packet_limit ≤ length old → w.refusal ≡ number_of no_room → ⊥
