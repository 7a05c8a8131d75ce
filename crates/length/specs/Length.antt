-- A length or count, read and written (rules 3.1 to 3.6 and 3.8). One definition serves packets, spares, messages and counts (rule 28.17),
-- and so does the test of its sizes. Definitions only.
use Rattle.std.specs.Prelude.{ℕ, ◌+◌, ◌-◌, ◌*◌, ◌/◌, ◌%◌, Bool, cond, ◌&&◌, List, [], ◌∷◌, length, get_or, leb, ltb}
use Rattle.std.proofs.Math.Option.{Option}
use Rattle.length.specs.Refusals.{ends_early, bad_form, outside_sizes}
use Rattle.length.specs.Answers.{Answer, done, refuse, ◌>>=◌, LengthAnswer}
use Rattle.length.specs.Tables.{when, unless}
use Rattle.length.specs.declared.Reason.{Reason}

-- from here on a length has two octets (rule 3.2)
abbrev pub two_from : ℕ
two_from = 0x80

-- the greatest length that two octets hold (rule 3.2)
abbrev pub length_limit : ℕ
length_limit = 16383

-- the value of two octets, 80 plus the high part and then the low part (rule 3.2)
abbrev pub of_two : ℕ → ℕ → ℕ
of_two first second = (first - 0x80) * 256 + second

-- the length or count at the front of some octets (rules 3.1 to 3.5 and 3.7)
unfoldable pub length_at : List ℕ → Answer LengthAnswer
length_at octets =
    let first = get_or octets 0 0 in
    let value = of_two (get_or octets 0 0) (get_or octets 1 0) in
    cond (ltb (length octets) 1) (refuse ends_early)
    (cond (ltb first two_from) (done (record { value = first; size = 1 }))
    (cond (leb 0xC0 first) (refuse bad_form)
    (cond (ltb (length octets) 2) (refuse ends_early)
    (cond (ltb value two_from) (refuse bad_form)
    (done (record { value = value; size = 2 }))))))

-- from least to most
abbrev pub within : ℕ → ℕ → ℕ → Bool
within least most n = leb least n && leb n most

-- 4 for a length, count, n or m outside the sizes (rule 2.4)
unfoldable pub allowed : ℕ → ℕ → LengthAnswer → Answer LengthAnswer
allowed least most l = cond (within least most l.value) (done l) (refuse outside_sizes)

-- the length or count at the front of some octets, from least to most: 3 or 1 for its form, then 4 (rule 3.6)
unfoldable pub length_within : ℕ → ℕ → List ℕ → Answer LengthAnswer
length_within least most octets = do
  l ← length_at octets
  allowed least most l

-- a length or count as octets (rules 3.1 and 3.2)
unfoldable pub length_octets : ℕ → List ℕ
length_octets n = cond (ltb n two_from) (n ∷ []) ((n / 256 + 0x80) ∷ n % 256 ∷ [])

-- what the length writer refuses before 13: a length over 16,383 is 4 (rule 3.8)
abbrev pub length_writer_rows : ℕ → List (Option Reason)
length_writer_rows n = when (ltb length_limit n) outside_sizes ∷ []

-- what it writes if that row does not apply
unfoldable pub length_to_write : ℕ → Answer (List ℕ)
length_to_write n = unless (length_writer_rows n) (length_octets n)
