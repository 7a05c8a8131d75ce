-- The claims about the calls from C: two outcomes that a promise allows are equal, in the answer and in all of the caller's memory (rules
-- 24.11 and 28.14). Statements only.
use Rattle.std.specs.Prelude.{ℕ, ◌≡◌, Bool, List}
use Rattle.session_held.specs.Promise.{Fresh}
use Rattle.host.specs.Receiver.{session_in, RangesHosted, OfferHosted, ReleaseHosted}
use Rattle.sender.specs.Promise.{SenderMade}
use Rattle.host.specs.JoinerClaims.{JoinerClaims}
use Rattle.host.specs.Sender.{sender_in, SenderRanges, SendHosted}
use Rattle.host.specs.PacketClaims.{OnePacket}
use Rattle.host.specs.ImageClaims.{OneRestored, HandedOver}
use Rattle.host.specs.Solver.{OneSolved}
use Rattle.host_answers.specs.declared.answers.Answered.{Answered}
use Rattle.host.specs.declared.receiver.Head.{Head}
use Rattle.host.specs.declared.receiver.AfterRelease.{AfterRelease}
use Rattle.host.specs.declared.send_calls.AfterSend.{AfterSend}

pub record OneOutcome : Type 0 where
  pub fresh : {r q : Head} {table octets messages table₂ octets₂ messages₂ : List ℕ} → Fresh (session_in r table octets messages)
      → Fresh (session_in q table₂ octets₂ messages₂) → (r ≡ q) × (table ≡ table₂) × (octets ≡ octets₂) × (messages ≡ messages₂)
  pub ranges : {h : Head} {table octets messages : List ℕ} {r q : Bool} → RangesHosted h table octets messages r
      → RangesHosted h table octets messages q → r ≡ q
  pub offer : {datagram : List ℕ} {h : Head} {table octets messages table₂ octets₂ messages₂ table₃ octets₃ messages₃ : List ℕ}
      {r q : Answered} → OfferHosted datagram h table octets messages table₂ octets₂ messages₂ r
      → OfferHosted datagram h table octets messages table₃ octets₃ messages₃ q
      → (r ≡ q) × (table₂ ≡ table₃) × (octets₂ ≡ octets₃) × (messages₂ ≡ messages₃)
  pub release : {leave : Bool} {h : Head} {table octets messages old table₂ octets₂ messages₂ new₂ table₃ octets₃ messages₃ new₃ : List ℕ}
      {r q : AfterRelease} → ReleaseHosted leave h table octets messages old table₂ octets₂ messages₂ new₂ r
      → ReleaseHosted leave h table octets messages old table₃ octets₃ messages₃ new₃ q
      → (r ≡ q) × (table₂ ≡ table₃) × (octets₂ ≡ octets₃) × (messages₂ ≡ messages₃) × (new₂ ≡ new₃)

-- the same for a sending session
pub record OneSent : Type 0 where
  pub fresh : {r q : ℕ} {sizes octets sizes₂ octets₂ : List ℕ} → SenderMade (sender_in r sizes octets)
      → SenderMade (sender_in q sizes₂ octets₂) → (r ≡ q) × (sizes ≡ sizes₂) × (octets ≡ octets₂)
  pub ranges : {sent : ℕ} {sizes octets : List ℕ} {r q : Bool} → SenderRanges sent sizes octets r → SenderRanges sent sizes octets q → r ≡ q
  pub send : {parity : Bool} {count n : ℕ} {packet : List ℕ} {sent : ℕ} {sizes octets old sizes₂ octets₂ new₂ sizes₃ octets₃ new₃ : List ℕ}
      {r q : AfterSend} → SendHosted parity count n packet sent sizes octets old sizes₂ octets₂ new₂ r
      → SendHosted parity count n packet sent sizes octets old sizes₃ octets₃ new₃ q
      → (r ≡ q) × (sizes₂ ≡ sizes₃) × (octets₂ ≡ octets₃) × (new₂ ≡ new₃)

pub record Claims : Type 0 where
  pub one_outcome : OneOutcome
  pub one_sent : OneSent
  pub joiner : JoinerClaims
  pub one_packet : OnePacket
  pub one_restored : OneRestored
  pub handed_over : HandedOver
  pub one_solved : OneSolved
