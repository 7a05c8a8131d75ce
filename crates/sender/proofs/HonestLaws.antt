-- Laws of what a datagram carries, by the row of packets: only the places that it reaches matter, and a packet more changes
-- nothing before it. Assumes nothing.
use Prim.Native.Nat.{ℕ, zero, suc, ◌+◌, ◌-◌, ◌*◌, ◌≤◌, ◌<◌, min}
use mathlib.Core.Path.{◌≡◌, refl, sym, ap, ap₂, ◌∙◌}
use mathlib.Core.Bool.{true}
use mathlib.Core.List.{List, [], ◌∷◌, ◌++◌, map, append_assoc}
use lib.ListN.{length, get_or, replicate, length-replicate, length-append, get_or-append}
use lib.Seq.{get_or-append-add, get_or-append_seam}
use native.Mathlib.Nat.{mul-le-mul_right, suc-mul}
use native.Mathlib.Omega.{arith}
use borrow.Author.Tests.{leb-true}
use Rattle.octets.specs.Place.{tab}
use Rattle.octets.proofs.Laws.{tab-ext, map-tab}
use Rattle.datagram.specs.Sizes.{spares_limit, covered_limit, messages_limit, covered_least, messages_least}
use Rattle.datagram.specs.Carried.{Extra, spares, parity, Carried}
use Rattle.length.specs.Length.{within}
use Rattle.length.proofs.Laws.{both, within-true}
use Rattle.session.specs.Members.{members_of}
use Rattle.session.specs.Honest.{message_over}
use Rattle.sender.specs.Sending.{history_kept}
use Rattle.sender.specs.Carries.{settings_inside, spares_from, messages_from, extra_from}
use Rattle.sender.specs.Honest.{packet_at, carried_at}
use Rattle.sender.specs.declared.Settings.{Settings}
use Rattle.sender.specs.declared.Settings.TheVariants as settings
use Rattle.sender.proofs.Slots.{covered-kept}

-- ---- only the places in reach matter
-- two rows that agree up to history_kept places back from A and from B
abbrev pub Alike : (ℕ → List ℕ) → ℕ → (ℕ → List ℕ) → ℕ → Type 0
Alike row_a A row_b B = (d : ℕ) → 1 ≤ d → d ≤ history_kept → row_a (A - d) ≡ row_b (B - d)

module _ (row_a : ℕ → List ℕ) (A : ℕ) (row_b : ℕ → List ℕ) (B : ℕ) (far_a : history_kept ≤ A) (far_b : history_kept ≤ B)
    (alike : Alike row_a A row_b B) where
  spares-same : (count : ℕ) → count ≤ spares_limit → spares_from count row_a A ≡ spares_from count row_b B
  unfolding spares_from
  spares-same count few = tab-ext count (λ j. row_a (A - suc j)) (λ j. row_b (B - suc j))
      (λ j below. alike (suc j) (omega arith) (omega arith))

  -- a member of message i is so many places back
  member-same : (n m i t : ℕ) → n ≤ covered_limit → m ≤ messages_limit → i < m → t < n
      → row_a ((A + i) - suc t * m) ≡ row_b ((B + i) - suc t * m)
  member-same n m i t few small one below =
      let whole = covered-kept few small in
      let so_far = mul-le-mul_right m below in
      let next = suc-mul t m in
      let left : (A + i) - suc t * m ≡ A - (suc t * m - i) = omega arith in
      let right : (B + i) - suc t * m ≡ B - (suc t * m - i) = omega arith in
      ap row_a left ∙ alike (suc t * m - i) (omega arith) (omega arith) ∙ sym (ap row_b right)

  members-same : (n m i : ℕ) → n ≤ covered_limit → m ≤ messages_limit → i < m
      → map row_a (members_of A n m i) ≡ map row_b (members_of B n m i)
  unfolding members_of
  members-same n m i few small one =
      map-tab row_a n (λ t. (A + i) - suc t * m)
      ∙ tab-ext n (λ t. row_a ((A + i) - suc t * m)) (λ t. row_b ((B + i) - suc t * m)) (λ t below. member-same n m i t few small one below)
      ∙ sym (map-tab row_b n (λ t. (B + i) - suc t * m))

  messages-same : (n m : ℕ) → n ≤ covered_limit → m ≤ messages_limit → messages_from n m row_a A ≡ messages_from n m row_b B
  unfolding messages_from
  messages-same n m few small =
      tab-ext m (λ i. message_over (map row_a (members_of A n m i))) (λ i. message_over (map row_b (members_of B n m i)))
      (λ i one. ap message_over (members-same n m i few small one))

  pub extra-same : (s : Settings) (sent : ℕ) → settings_inside s ≡ true → extra_from s sent row_a A ≡ extra_from s sent row_b B
  extra-same (settings.Spares k) sent inside =
      let few = leb-true k spares_limit inside in
      ap spares (spares-same (min k sent) (omega arith))
  extra-same (settings.Parity n m) sent inside =
      let t = both (within covered_least covered_limit n) (within messages_least messages_limit m) inside in
      ap (parity n) (messages-same n m (within-true covered_least covered_limit n t.0).1
      (within-true messages_least messages_limit m t.1).1)

-- ---- the row by places
pub before-length : length (replicate {A = List ℕ} history_kept []) ≡ history_kept
before-length = length-replicate {A = List ℕ} history_kept []

pub packet_at-none : (p : ℕ) → packet_at [] p ≡ []
unfolding packet_at
packet_at-none p = none history_kept p
  where
    none : (n q : ℕ) → get_or (replicate {A = List ℕ} n [] ++ []) q [] ≡ []
    none zero zero = refl
    none zero (suc q) = refl
    none (suc n) zero = refl
    none (suc n) (suc q) = none n q

module _ (row : List (List ℕ)) (x : List ℕ) where
  pub packet_at-old : (p : ℕ) → p < history_kept + length row → packet_at (row ++ (x ∷ [])) p ≡ packet_at row p
  unfolding packet_at
  packet_at-old p before =
      ap (λ (l : List (List ℕ)). get_or l p []) (sym (append_assoc (replicate history_kept []) row (x ∷ [])))
      ∙ get_or-append (replicate history_kept [] ++ row) (x ∷ []) [] p
      (rw (length-append (replicate {A = List ℕ} history_kept []) row, before-length) before)

  pub packet_at-new : packet_at (row ++ (x ∷ [])) (history_kept + length row) ≡ x
  unfolding packet_at
  packet_at-new =
      ap (λ (n : ℕ). get_or (replicate history_kept [] ++ (row ++ (x ∷ []))) (n + length row) []) (sym before-length)
      ∙ get_or-append-add (replicate history_kept []) (row ++ (x ∷ [])) (length row) []
      ∙ get_or-append_seam row x [] []

  pub row_old : (S : ℕ) → S < length row → get_or (row ++ (x ∷ [])) S [] ≡ get_or row S []
  row_old S before = get_or-append row (x ∷ []) [] S before

  pub row_new : get_or (row ++ (x ∷ [])) (length row) [] ≡ x
  row_new = get_or-append_seam row x [] []

  -- a packet more changes no datagram before it
  pub carried_at-old : (s : Settings) (S : ℕ) → settings_inside s ≡ true → S < length row
      → carried_at s (row ++ (x ∷ [])) S ≡ carried_at s row S
  carried_at-old s S inside before =
      rw (
        row_old S before,
        extra-same (packet_at (row ++ (x ∷ []))) (history_kept + S) (packet_at row) (history_kept + S) (omega arith) (omega arith)
            (λ d some far. packet_at-old ((history_kept + S) - d) (omega arith)) s S inside,
      )
