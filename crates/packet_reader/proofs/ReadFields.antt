-- One law for each answer of the functions that read a field, in the words of the code: what the readers of its items answered gives
-- the promise. Assumes nothing.
use Rattle.std.proofs.Common.{Result, Ok, Err}
use Prim.Native.Nat.{ℕ, ◌+◌, ◌*◌, ◌≤◌, ◌<◌, ◌^◌}
use mathlib.Core.Path.{◌≡◌, sym, ap, ◌∙◌}
use mathlib.Core.Bool.{Bool, true, false}
use mathlib.Core.List.{List}
use lib.ListN.{drop, length-drop}
use native.Mathlib.Omega.{arith}
use Rattle.packet_laws.proofs.Laws.{rest, rest-is, header-ends, size-form}
use Rattle.length.specs.Refusals.{further}
use Rattle.length.specs.Answers.{done, refused}
use Rattle.length.specs.declared.Refusal.{Refusal}
use Rattle.format.specs.Places.{Place}
use Rattle.datagram.specs.Sizes.{packet_limit}
use Rattle.packet.specs.Edition.{edition_of}
use Rattle.packet.specs.declared.types.Named.{Named}
use Rattle.packet_laws.specs.Octets.{header_at, size_at, after_header, field_at}
use Rattle.packet_reader.specs.Items.{InPacket, EdgeTold, outcome, HeaderTold, header_outcome, SizeTold, DataTold}
use Rattle.packet_reader.specs.Items.{FieldTold}
use Rattle.packet_reader.proofs.ReadPlaces.{edge-is, edge-within}
use Rattle.packet_reader.proofs.ReadItems.{size-near}
use Rattle.packet.specs.declared.types.Field.{Field}
use Rattle.packet_reader.specs.declared.items.Header.{Header}

-- ---- what follows a header with data
size_is_lem : (s : List ℕ) (n : ℕ) {r : Result ℕ Refusal} {m : ℕ} → SizeTold (rest n s) r → r ≡ Ok m → size_at (drop n s) ≡ done m
size_is_lem s n told is = rw (← rest-is n s) (sym told.answer ∙ ap (outcome (λ (k : ℕ). k)) is)

module _ {s : List ℕ} {p : Place} {e : Result ℕ Refusal} (told : EdgeTold s p e) where
  pub data-spare : {k : ℕ} {x : Refusal} → e ≡ Err x → DataTold s k p (Err x)
  unfolding after_header
  data-spare is = record { answer = rw (sym told.answer ∙ ap (outcome (λ (k : ℕ). k)) is) }

  module _ {at : ℕ} {q : Result ℕ Refusal} (is : e ≡ Ok at) (sized : SizeTold (rest at s) q) where
    module _ {x : Refusal} (size_is : q ≡ Err x) where
      size-refused : size_at (drop at s) ≡ refused x
      size-refused = rw (← rest-is at s) (sym sized.answer ∙ ap (outcome (λ (k : ℕ). k)) size_is)

      pub data-place : InPacket s p → at + x.place < 2 ^ 64
      data-place inside = omega (arith, size-near (drop at s) x size-refused, edge-within told is inside, inside.few)

      pub data-cut : {k : ℕ} {y : Refusal} → y ≡ further at x → DataTold s k p (Err y)
      unfolding after_header
      data-cut on = record { answer = rw (on, edge-is told is, size-refused) }

    module _ {m : ℕ} (size_is : q ≡ Ok m) where
      pub data-read : {k : ℕ} → DataTold s k p (Ok (record { kind = k; start = at + 2; size = m }, 8 * (at + 2 + m)))
      unfolding after_header
      data-read = record { answer = rw (edge-is told is, size_is_lem s at sized size_is) }

      -- it ends inside the octets, so that the sums fit
      data-ends : InPacket s p → at + 2 + m ≤ packet_limit
      data-ends inside =
          let f = size-form (drop at s) m (size_is_lem s at sized size_is) in
          omega (arith, f.inside, length-drop at s, edge-within told is inside, inside.few)

      pub start_fits : InPacket s p → at + 2 < 2 ^ 64
      start_fits inside = omega (arith, data-ends inside)

      pub end_fits : InPacket s p → at + 2 + m < 2 ^ 64
      end_fits inside = omega (arith, data-ends inside)

      pub next_fits : InPacket s p → 8 * (at + 2 + m) < 2 ^ 64
      next_fits inside = omega (arith, data-ends inside)

pub ruleset datas = (edge-within, data-spare, data-place, data-cut, data-read, start_fits, end_fits, next_fits)

-- ---- a field: its header, and what follows
module _ {named : Named} {s : List ℕ} {p : Place} {r : Result Header Refusal} (told : HeaderTold named s p r) where
  pub field-refused : {x : Refusal} → r ≡ Err x → FieldTold named s p (Err x)
  unfolding field_at
  field-refused is = record { answer = rw (sym told.answer ∙ ap header_outcome is) }

  module _ {h : Header} (is : r ≡ Ok h) where
    header_is : header_at (edition_of named) s p ≡ done (record { header = record { type = h.kind; present = h.present }; next = h.next })
    header_is = sym told.answer ∙ ap header_outcome is

    pub header-inside : InPacket s p → InPacket s h.next
    header-inside inside = record { few = inside.few; here = header-ends (edition_of named) s p _ header_is }

    pub field-bare : h.present ≡ false → FieldTold named s p (Ok (record { kind = h.kind; start = 0; size = 0 }, h.next))
    unfolding field_at after_header
    field-bare absent = record { answer = rw (header_is, absent) }

    pub field-full : {f : Result (Field × ℕ) Refusal} → h.present ≡ true → DataTold s h.kind h.next f → FieldTold named s p f
    unfolding field_at
    field-full present read = record { answer = read.answer ∙ sym (rw (header_is, present)) }

pub ruleset fields = (header-inside, field-refused, field-bare, field-full)
