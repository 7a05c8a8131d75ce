-- What the writer's definition says of a packet that it writes, and one law for each answer of `write` and of the
-- functions that put the count and the packet. Assumes nothing.
use Rattle.std.proofs.Common.{Result, Ok, Err}
use Prim.Native.Nat.{ℕ, ◌+◌, ◌-◌, ◌≤◌}
use mathlib.Core.Path.{◌≡◌, refl, sym, ap, ◌∙◌}
use mathlib.Core.Bool.{true, false, not, cond}
use mathlib.Core.List.{List, [], ◌++◌}
use lib.ListN.{length, drop, length-append}
use lib.Dec.{leb, ltb}
use native.Mathlib.Omega.{arith}
use borrow.Rule.Slice.PartMut.{put_mid}
use borrow.Author.Tests.{le-ltb, le-leb, not-true, not-false}
use Rattle.length.specs.Answers.{Answer, done, refused, written_outcome, size_of}
use Rattle.length.specs.Tables.{unless}
use Rattle.length.specs.Length.{length_octets, length_to_write, length_limit}
use Rattle.length.specs.Promise.{Puts, Put}
use Rattle.length.specs.declared.Refusal.{Refusal}
use Rattle.length.proofs.Laws.{put_next, put-long, put-puts, room-left}
use Rattle.packet.specs.Edition.{values, edition_of}
use Rattle.packet.specs.Write.{packet_to_write}
use Rattle.format.specs.Waiting.{none_wait}
use Rattle.packet_laws.specs.Laid.{first_octets, fields_octets, counted_fields, laid_octets}
use Rattle.packet_laws.specs.Items.{FirstFits, FieldsFit, CountedFit, PacketFits, Measured}
use Rattle.packet.specs.declared.types.Enumerated.{Enumerated}
use Rattle.packet.specs.declared.types.PacketKind.{PacketKind}
use Rattle.packet.specs.declared.types.Named.{Named}
use Rattle.packet.proofs.Laws.{WriteForm, write-form}
use Rattle.packet_laws.proofs.Laws.{rest, write-laid, packet-bare, packet-full, narrow}

-- ---- the count, then the fields
module _ {e : Enumerated} {ts ns d old mid : List ℕ} {r : Result ℕ Refusal} (fits : CountedFit e ts ns d old)
    (puts : Puts (length_to_write (length ts)) old mid r) where
  -- the count has room, so that it is written
  count-written : (written_outcome r ≡ done (length (length_octets (length ts))))
      × (mid ≡ length_octets (length ts) ++ drop (length (length_octets (length ts))) old)
  unfolding length_to_write unless
  count-written =
      let w = length_octets (length ts) in
      let small : ltb length_limit (length ts) ≡ false = le-ltb length_limit (length ts) (omega (arith, fits.few)) in
      let room : leb (length w) (length old) ≡ true
      = le-leb (length w) (length old) (omega (arith, fits.room, length-append w (fields_octets e none_wait ts ns d))) in
      (rw (small, room) at puts.answer, rw (small, room) at puts.lent)

  pub count-never : {x : Refusal} → r ≡ Err x → Put (counted_fields e ts ns d) old mid 0
  count-never is =
      let z : ◌≡◌ {A = ℕ} 0 1 = cc (count-written.0, ap written_outcome is) in
      absurd (omega arith)

  module _ {at : ℕ} (is : r ≡ Ok at) where
    count-is : Put (length_octets (length ts)) old mid at
    count-is =
        record {
          inside = omega (arith, fits.room, length-append (length_octets (length ts)) (fields_octets e none_wait ts ns d));
          answer = cc (count-written.0, ap written_outcome is);
          lent = count-written.1;
        }

    pub count_fits : FieldsFit e ts ns d (rest at mid)
    count_fits =
        record {
          right = fits.right;
          room =
              room-left mid at (length (fields_octets e none_wait ts ns d))
              (omega (
                arith,
                fits.room,
                length-append (length_octets (length ts))
                    (fields_octets e none_wait ts ns d),
                count-is.answer,
                put-long count-is,
              ));
        }

    module _ {part : List ℕ} {n : ℕ} (put : Put (fields_octets e none_wait ts ns d) (rest at mid) part n) where
      pub count-put : Put (counted_fields e ts ns d) old (put_mid at (length mid - at) mid part) (at + n)
      count-put = put_next count-is put

pub ruleset counteds = (count-never, count_fits, count-put)

-- ---- the packet
module _ {named : Named} {k : PacketKind} {v : ℕ} {ts ns d old : List ℕ} (fits : PacketFits named k v ts ns d old) where
  form : WriteForm (edition_of named) k v ts ns d (laid_octets (edition_of named) k v ts ns d)
  form = write-form (edition_of named) k v ts ns d _ fits.allowed

  abbrev first : List ℕ
  first = first_octets (values (edition_of named) k) (record { kind = k; value = v; present = ltb 0 (length ts) })

  module _ {e : Enumerated} (is : e ≡ values (edition_of named) k) where
    pub packet-first : FirstFits e (record { kind = k; value = v; present = ltb 0 (length ts) }) old
    unfolding laid_octets
    packet-first =
        rw is
        (record {
          value = record { narrow = (narrow named).of_kind k; known = form.known };
          room =
              omega (
                arith,
                fits.room,
                length-append first (cond (ltb 0 (length ts)) (counted_fields (edition_of named).types ts ns d) []),
              );
        })

    module _ {mid : List ℕ} {at : ℕ}
        (put : Put (first_octets e (record { kind = k; value = v; present = ltb 0 (length ts) })) old mid at) where
      first-put : Put first old mid at
      first-put = rw is at put

      pub packet-only : not (ltb 0 (length ts)) ≡ true → Put (laid_octets (edition_of named) k v ts ns d) old mid at
      packet-only none = rw (packet-bare (edition_of named) k v ts ns d (not-true _ none)) first-put

      module _ {types : Enumerated} (some : not (ltb 0 (length ts)) ≡ false) (is_types : types ≡ (edition_of named).types) where
        packet-long : length first + length (counted_fields types ts ns d) ≡ length (laid_octets (edition_of named) k v ts ns d)
        packet-long =
            rw is_types
            (omega (
              arith,
              ap length (packet-full (edition_of named) k v ts ns d (not-false _ some)),
              length-append first (counted_fields (edition_of named).types ts ns d),
            ))

        pub packet-fits : CountedFit types ts ns d (rest at mid)
        packet-fits =
            record {
              few = form.few;
              right = rw is_types (record {
                narrow = (narrow named).of_types;
                same = form.same;
                all = form.all;
                known = form.types;
                short = form.short;
              });
              room =
                  room-left mid at (length (counted_fields types ts ns d))
                  (omega (arith, fits.room, packet-long, first-put.answer, put-long first-put));
            }

        module _ {part : List ℕ} {n : ℕ} (counted : Put (counted_fields types ts ns d) (rest at mid) part n) where
          pub packet-put : Put (laid_octets (edition_of named) k v ts ns d) old (put_mid at (length mid - at) mid part) (at + n)
          packet-put =
              rw (packet-full (edition_of named) k v ts ns d (not-false _ some)) (put_next first-put (rw is_types at counted))

pub ruleset packets = (packet-first, packet-only, packet-fits, packet-put)

-- ---- the answers of `write_named`
-- what is measured is written
record ToWrite (named : Named) (k : PacketKind) (v : ℕ) (ts ns d : List ℕ) (n : ℕ) : Type 0 where
  allowed : packet_to_write (edition_of named) k v ts ns d ≡ done (laid_octets (edition_of named) k v ts ns d)
  long : length (laid_octets (edition_of named) k v ts ns d) ≡ n

write-is : {named : Named} {k : PacketKind} {v : ℕ} {ts ns d : List ℕ} {r : Result ℕ Refusal} {n : ℕ} → Measured named k v ts ns d r
    → r ≡ Ok n
    → ToWrite named k v ts ns d n
write-is {named} {k} {v} {ts} {ns} {d} {r} {n} measured is = by (packet_to_write (edition_of named) k v ts ns d) refl
    (sym measured.answer ∙ ap written_outcome is) where
      by : (a : Answer (List ℕ)) → packet_to_write (edition_of named) k v ts ns d ≡ a → size_of a ≡ done n → ToWrite named k v ts ns d n
      by (done w) e size =
          let is : w ≡ laid_octets (edition_of named) k v ts ns d = write-laid (edition_of named) (narrow named) k v ts ns d w e in
          let long : length w ≡ n = cc in
          record { allowed = e ∙ ap (λ (l : List ℕ). done l) is; long = ap length (sym is) ∙ long }
      by (refused x) e size = let z : ◌≡◌ {A = ℕ} 0 1 = cc in absurd (omega arith)

module _ {named : Named} {k : PacketKind} {v : ℕ} {ts ns d old : List ℕ} {r : Result ℕ Refusal} where
  module _ {n : ℕ} where
    pub write-fits : Measured named k v ts ns d r → r ≡ Ok n → n ≤ length old → PacketFits named k v ts ns d old
    write-fits measured is room = let w = write-is measured is in record { allowed = w.allowed; room = omega (arith, w.long) }

    pub write_done : {new : List ℕ} {m : ℕ} → Measured named k v ts ns d r → r ≡ Ok n
        → Put (laid_octets (edition_of named) k v ts ns d) old new m
        → Puts (packet_to_write (edition_of named) k v ts ns d) old new (Ok m)
    write_done {new} {m} measured is put = rw (write-is measured is).allowed (put-puts put)

pub ruleset writes = (write-fits, write_done)
