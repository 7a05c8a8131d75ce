-- The claims of this crate: the length rule, proved once for packets, spares, messages and counts (rules 28.4 and 28.17); and the
-- definitions that they use. Definitions only.
use Rattle.std.specs.Prelude.{ℕ, ◌≤◌, ◌<◌, ◌≡◌, List, ◌++◌, length, get_or, take, Result}
use Rattle.length.specs.declared.Refusal.{Refusal}
use Rattle.length.specs.Answers.{Answer, done, LengthAnswer}
use Rattle.length.specs.Length.{length_at, length_octets, length_limit}
use Rattle.length.specs.Promise.{LengthRead, WithinRead, Puts}
use Rattle.length.specs.declared.Length.{Length}

-- every element of a list is an octet
abbrev pub Octets : List ℕ → Type 0
Octets octets = (i : ℕ) → get_or octets i 0 < 256

-- a length that was written reads back to the same value and size, whatever follows it (rules 3.7 and 28.4)
abbrev pub WrittenReads : Type 0
WrittenReads = (n : ℕ) (rest : List ℕ) → n ≤ length_limit
    → length_at (length_octets n ++ rest) ≡ done (record { value = n; size = length (length_octets n) })

-- a length that was read writes back to the same octets (rule 28.4)
abbrev pub ReadWrites : Type 0
ReadWrites = (octets : List ℕ) (a : LengthAnswer) → Octets octets → length_at octets ≡ done a
    → length_octets a.value ≡ take a.size octets

-- two outcomes that a promise allows are equal (rule 28.14)
pub record OneOutcome : Type 0 where
  pub read : {octets : List ℕ} {r q : Result Length Refusal} → LengthRead octets r → LengthRead octets q → r ≡ q
  pub read_within : {least most : ℕ} {octets : List ℕ} {r q : Result Length Refusal} → WithinRead least most octets r → WithinRead least most octets q
      → r ≡ q
  pub written : {w : Answer (List ℕ)} {old new other : List ℕ} {r q : Result ℕ Refusal}
      → Puts w old new r → Puts w old other q → (r ≡ q) × (new ≡ other)

pub record Claims : Type 0 where
  pub written_reads : WrittenReads
  pub read_writes : ReadWrites
  pub one_outcome : OneOutcome
