-- The host's calls on packets, on plain values: what the library's call promises, encoded as numbers. Assumes nothing.
use Rattle.std.proofs.Common.{Result, Ok, Err}
use Prim.Native.Nat.{ℕ}
use mathlib.Core.Path.{◌≡◌, refl, sym, ap, ◌∙◌}
use mathlib.Core.Bool.{Bool, true, false}
use mathlib.Core.List.{List, []}
use lib.Dec.{ltb}
use Rattle.length.specs.Refusals.{wrong_settings, number_of}
use Rattle.length.specs.Answers.{Answer, done, refused, refuse, fitted, size_of, over}
use Rattle.length.specs.Promise.{Puts}
use Rattle.length.specs.declared.Refusal.{Refusal}
use Rattle.packet.specs.Edition.{by_edition}
use Rattle.packet.specs.Packet.{PacketAnswer, read_packet}
use Rattle.packet.specs.Write.{packet_to_write}
use Rattle.packet.specs.Promise.{PacketTold, packet_read, padded_fields}
use Rattle.packet.specs.declared.types.PacketKind.{PacketKind}
use Rattle.packet.specs.declared.types.Ending.{Ending}
use Rattle.packet.specs.declared.types.Field.{Field}
use Rattle.packet.specs.declared.types.PacketRead.{PacketRead}
use Rattle.host_answers.specs.Answers.{wrote_told, WrittenTold}
use Rattle.host_answers.specs.Packet.{ending_named, kind_told, kind_named, packet_told}
use Rattle.host.specs.Packet.{PacketHosted, packet_asked, WriteHosted}
use Rattle.host_answers.specs.declared.answers.Wrote.{Wrote}
use Rattle.host_answers.specs.declared.packet_answers.PacketFound.{PacketFound}

-- ---- read: each case of the reader's answer in numbers
abbrev read_told : Result PacketRead Refusal → PacketFound
read_told (Ok p) = record { refusal = 0; kind = kind_told p.kind; value = p.value; place = 0; count = p.count; fields = p.fields }
read_told (Err why) =
    record { refusal = number_of why.reason; kind = 0; value = 0; place = why.place; count = 0; fields = padded_fields [] }

told-whole : (a : Answer PacketAnswer) → read_told (packet_read a) ≡ packet_told a
told-whole (done p) = refl
told-whole (refused why) = refl

told-read : (edition : ℕ) (repaired : Bool) (octets : List ℕ) {ending : Ending} {r : Result PacketRead Refusal} → ending ≡ ending_named repaired
    → PacketTold (by_edition edition (λ e. read_packet e ending octets)) r
    → read_told r ≡ packet_told (by_edition edition (λ e. read_packet e (ending_named repaired) octets))
told-read edition repaired octets {ending} is owes =
    ap read_told owes.whole
    ∙ told-whole (by_edition edition (λ e. read_packet e ending octets))
    ∙ ap (λ (way : Ending). packet_told (by_edition edition (λ e. read_packet e way octets))) is

module _ {edition : ℕ} {repaired : Bool} {octets : List ℕ} {ending : Ending} {r : Result PacketRead Refusal} (is : ending ≡ ending_named repaired)
    (owes : PacketTold (by_edition edition (λ e. read_packet e ending octets)) r) where
  pub packet-found : {p : PacketRead} {octet : ℕ} → r ≡ Ok p → octet ≡ kind_told p.kind
      → PacketHosted edition repaired octets
      (record { refusal = 0; kind = octet; value = p.value; place = 0; count = p.count; fields = p.fields })
  packet-found {p} e told =
      record {
        answer =
            ap (λ (k : ℕ). record { refusal = 0; kind = k; value = p.value; place = 0; count = p.count; fields = p.fields }) told
            ∙ ap read_told (sym e)
            ∙ told-read edition repaired octets is owes;
      }

  pub packet-refused : {why : Refusal} {none : List Field} {number : ℕ} → r ≡ Err why → none ≡ padded_fields [] → number ≡ number_of why.reason
      → PacketHosted edition repaired octets
      (record { refusal = number; kind = 0; value = 0; place = why.place; count = 0; fields = none })
  packet-refused {why} e empty named =
      rw named
      (record {
        answer =
            ap (λ (l : List Field). record { refusal = number_of why.reason; kind = 0; value = 0; place = why.place; count = 0; fields = l }) empty
            ∙ ap read_told (sym e)
            ∙ told-read edition repaired octets is owes;
      })

-- ---- write
-- an octet that names no kind
asked-neither : (edition kind value : ℕ) (types lengths octets : List ℕ) → ltb 1 kind ≡ true
    → packet_asked edition kind value types lengths octets ≡ refuse wrong_settings
unfolding packet_asked
asked-neither edition kind value types lengths octets many = rw many

pub write-neither : {edition kind value : ℕ} {types lengths octets old : List ℕ} {b : Bool} {number : ℕ} → b ≡ ltb 1 kind → b ≡ true
    → number ≡ number_of wrong_settings
    → WriteHosted edition kind value types lengths octets old old (record { refusal = number; place = 0; size = 0 })
write-neither {edition} {kind} {value} {types} {lengths} {octets} {old} e many named =
    let is = asked-neither edition kind value types lengths octets (sym e ∙ many) in
    rw named
    (record {
      answer = ap (λ (a : Answer (List ℕ)). wrote_told (size_of (fitted a old))) (sym is);
      lent = ap (λ (a : Answer (List ℕ)). over (fitted a old) old) (sym is);
    })

-- and one that names a kind
asked-kind : (edition kind value : ℕ) (types lengths octets : List ℕ) {named : PacketKind} → ltb 1 kind ≡ false → named ≡ kind_named kind
    → by_edition edition (λ e. packet_to_write e named value types lengths octets) ≡ packet_asked edition kind value types lengths octets
unfolding packet_asked
asked-kind edition kind value types lengths octets few is = rw (few, is)

pub write-hosted : {edition kind value : ℕ} {types lengths octets old new : List ℕ} {named : PacketKind} {answer : Result ℕ Refusal} {r : Wrote} {b : Bool}
    → b ≡ ltb 1 kind → b ≡ false → named ≡ kind_named kind
    → Puts (by_edition edition (λ e. packet_to_write e named value types lengths octets)) old new answer → WrittenTold answer r
    → WriteHosted edition kind value types lengths octets old new r
write-hosted {edition} {kind} {value} {types} {lengths} {octets} {old} e few is owes from =
    let asked = asked-kind edition kind value types lengths octets (sym e ∙ few) is in
    record {
      answer =
          from.is ∙ ap wrote_told owes.answer ∙ ap (λ (a : Answer (List ℕ)). wrote_told (size_of (fitted a old))) asked;
      lent = owes.lent ∙ ap (λ (a : Answer (List ℕ)). over (fitted a old) old) asked;
    }
