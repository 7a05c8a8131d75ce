-- A result line is one line, and reads back to what it says. Assumes nothing.
use Prim.Native.Nat.{ℕ, zero, suc, ◌+◌, ◌*◌, ◌/◌, ◌%◌, ◌≤◌, ◌<◌}
use mathlib.Core.Path.{◌≡◌, refl, ap, ◌∙◌}
use mathlib.Core.List.{List, [], ◌∷◌, ◌++◌}
use lib.ListN.{length, get_or}
use native.Mathlib.Omega.{arith}
use Rattle.length.specs.Answers.{Answer, done, mapped}
use Rattle.length.specs.Claims.{Octets}
use Rattle.datagram.specs.Sizes.{packet_limit}
use Rattle.line.specs.Hex.{digit_of, line_octets, hex_of}
use Rattle.line.specs.Lines.{line_feed, result_line, lines_from}
use Rattle.line.specs.Claims.{Result, result_in, ResultReads, ResultsRead}
use Rattle.line.proofs.Feeding.{NoFeed}
use Rattle.line.proofs.HexBack.{digit_at, written-reads}
use Rattle.line.proofs.LineCuts.{past-line}

-- no digit is a line feed
feed-none : digit_of line_feed ≡ 16
unfolding digit_of
feed-none = refl

hex-plain : (octets : List ℕ) → Octets octets → NoFeed (hex_of octets) (length (hex_of octets))
hex-plain octets small k inside e =
    omega (arith, digit_at octets small k inside, ap digit_of e, feed-none)

-- two octets in front of octets, and a third
octets-front : (x : ℕ) (octets : List ℕ) → x < 256 → Octets octets → Octets (x ∷ octets)
octets-front x octets low small zero = low
octets-front x octets low small (suc k) = small k

no_lines : lines_from [] [] ≡ []
unfolding lines_from
no_lines = refl

pub results-read : ResultsRead
unfolding result_line
results-read kind number octets low few small short =
    let all : List ℕ = kind ∷ number / 256 ∷ number % 256 ∷ octets in
    let fit : Octets all =
    octets-front kind (number / 256 ∷ number % 256 ∷ octets) low
    (octets-front (number / 256) (number % 256 ∷ octets) (omega arith) (octets-front (number % 256) octets (omega arith) small)) in
    record {
      line = hex_of all;
      one = past-line (hex_of all) [] (hex-plain all fit) ∙ ap (λ (l : List (List ℕ)). hex_of all ∷ l) no_lines;
      reads =
          ap (λ (a : Answer (List ℕ)). mapped result_in a) (written-reads all fit (omega (arith, short)))
          ∙ ap (λ (n : ℕ). done (record { kind = kind; number = n; octets = octets })) (omega arith);
    }
