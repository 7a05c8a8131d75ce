-- One law for each answer of `read_line`, in the words of the code. Assumes nothing.
use Rattle.std.proofs.Common.{◌≡◌, ℕ, ◌≤◌, Bool, List, Option, Some, None, length, take, arith}
use Rattle.datagram.specs.Sizes.{packet_limit}
use Rattle.line.specs.Hex.{octets_in}
use Rattle.image.specs.Parts.{line_at}
use Rattle.image.specs.Layout.{number_line}
use Rattle.image.specs.Image.{number_line_limit}
use Rattle.image_reader.specs.Text.{LineTaken}
use Rattle.image_reader.specs.Number.{number_by, parts_of, NumberTold}
use Rattle.image_reader.specs.Laying.{LaysNumber}
use Rattle.image_reader.specs.Whole.{LineTold}
use Rattle.image_reader.specs.declared.number.Number.{Number}
use Rattle.image_reader.proofs.NumberLine.{number-reads}
use Rattle.image_reader.proofs.NumberBack.{number-back}
use Rattle.image_reader.proofs.Fronts.{front-back, taken-found, taken_back, taken-never, number-longest}

module _ {limit : ℕ} {ahead : Bool} {base k : ℕ} {text old new : List ℕ} {r : Option (ℕ × ℕ)} (t : LineTaken text old new r) where
  pub line-none : {a b c x y z : List ℕ} {v : Option ℕ} → r ≡ None → limit ≤ packet_limit
      → length old ≡ number_line_limit packet_limit
      → v ≡ None → LineTold limit ahead base k text a b c x y z v
  line-none is most long none =
      rw none
      (record {
        answer = λ number n e.
            let back = front-back (number_line limit ahead) text number n e in
            let all = number-back limit ahead (octets_in (line_at text)) number back.read in
            taken-never t (number_line limit ahead) is number n e (omega (arith, number-longest most all.is));
      })

  module _ {count next : ℕ} {q : Option Number} (is : r ≡ Some (count, next)) (told : NumberTold limit ahead (take count new) q) where
    pub line_other : {a b c x y z : List ℕ} {v : Option ℕ} → q ≡ None → v ≡ None → LineTold limit ahead base k text a b c x y z v
    line_other so none =
        rw none
        (record {
          answer = λ number n e.
              let all = number-back limit ahead (take count new) number (taken_back t (number_line limit ahead) is number n e) in
              let never = rw so at told.answer in
              never all.parts all.is;
        })

    pub line_read : {a b c x y z : List ℕ} {n : Number} → q ≡ Some n → LaysNumber base ahead k (take count new) n a b c x y z
        → LineTold limit ahead base k text a b c x y z (Some next)
    line_read {n = n} so laid =
        let read = rw so at told.answer in
        record {
          answer =
              record {
                number = number_by (take count new) (parts_of n);
                read =
                    taken-found t (number_line limit ahead) is (number_by (take count new) (parts_of n)) (number-reads read.is);
                sized = laid.sized;
                lays = laid.lays;
              };
        }
