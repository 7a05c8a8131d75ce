-- A law of how answers are encoded as numbers. Assumes nothing.
use Rattle.std.proofs.Common.{◌≡◌, refl}
use Rattle.length.specs.Answers.{Answer, done, refused, mapped}
use Rattle.host_answers.specs.Answers.{told}

-- the encoding does not depend on the values
pub told-mapped : {A B : Type 0} (f : A → B) (a : Answer A) → told (mapped f a) ≡ told a
told-mapped f (done a) = refl
told-mapped f (refused why) = refl
