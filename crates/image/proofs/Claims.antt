-- The claims of this crate, each proved by a law. Assumes nothing.
use mathlib.Core.Path.{refl, sym, ◌∙◌}
use Rattle.length.proofs.Laws.{fitted-first}
use Rattle.session_held.specs.Table.{view_in}
use Rattle.image.specs.Image.{image_text, image_rows, image_to_write}
use Rattle.image.specs.Claims.{ImageWrites, Claims}
use Rattle.image.proofs.Whole.{image-lines}
use Rattle.image.proofs.Holds.{sound-holds}
use Rattle.image.proofs.Sizes.{image-length, image-most}
use Rattle.image.proofs.Answers.{held_reads, read-image, read-only, session-exactly, misshapen-exactly, outside-exactly}
use Rattle.image.proofs.Editions.{editions, reads02}
use Rattle.image.proofs.Lent.{lent_back, struct_back}
use Rattle.image.proofs.Cases.{cases}
use Rattle.image.proofs.Fresh.{fresh-image}

writes : ImageWrites
unfolding image_to_write
writes version session old = fitted-first (image_rows session) (image_text version (view_in session)) old

pub claims : Claims
claims =
    record {
      read_back =
          record { held = held_reads; holds = sound-holds; session = reads02; lent = lent_back; struct = struct_back };
      one_image =
          record {
            written = λ version text view small e. (read-image version text small view e).0.written;
            one =
                λ version text other view small few e again.
                sym (read-image version text small view e).0.written ∙ (read-image version other few view again).0.written;
          };
      lines = image-lines;
      sized = record { settled = image-length; most = image-most; lent = refl };
      reads =
          record {
            session = λ version text view octet small. session-exactly version text small octet view;
            misshapen = λ version text octet small. misshapen-exactly version text small octet;
            outside = λ version text octet small. outside-exactly version text small octet;
            only = λ version text why e. read-only version text why e;
          };
      editions = editions;
      fresh_image = fresh-image;
      writes = writes;
      cases = cases;
    }
