-- What the crates above use of this one's laws: callers need these and not the definitions' text. Assumes nothing.

-- ---- answers: what one that is no refusal says of the steps and tests that made it
pub use Rattle.length.proofs.Answers.{not_done, bind_done, cond-past, cond-done, cond-kept, cond-met, done-same, refused-same}
-- ---- read from an octet on, and refused at the front
pub use Rattle.length.proofs.Answers.{from-done, from_front, from-from, AtFront, refuse-front, done-front, cond-front, bind-front}
pub use Rattle.length.proofs.Answers.{length_front, within-front}
-- ---- within the sizes
pub use Rattle.length.proofs.Answers.{both, within-true, true-within, allowed-done, allowed-sizes, allowed-met, allowed-not}
pub use Rattle.length.proofs.Answers.{LengthInside, within-done, within-written}
-- ---- the length rule
pub use Rattle.length.proofs.LengthRule.{size-written, octets-cons, octets-none, octets-written}
pub use Rattle.length.proofs.LengthRule.{length_octets-one, length_octets-two, length_at-one, length_at-two}
pub use Rattle.length.proofs.LengthRule.{Form, one, two, form, Sizes, sizes-form, sizes-read, value_read, written-reads}
pub use Rattle.length.proofs.LengthRule.{read-writes}
-- ---- octets at the front of a lent buffer, one writer after another
pub use Rattle.length.proofs.Fronts.{put-none, put_one, put-turn, put_all, put_then, put_next, put-long}
pub use Rattle.length.proofs.Fronts.{rest_of, rest_put, room-left}
pub use Rattle.length.proofs.Fronts.{put-puts, full-puts}
-- ---- tables of refusals
pub use Rattle.length.proofs.Tables.{row, row-met, row_step, no_row, unless-first, unless-done, unless-past}
pub use Rattle.length.proofs.Tables.{fitted-first, size-refusal, puts-refusal, refused-some, done_none}
pub use Rattle.length.proofs.Tables.{unless-front, fitted-front, front-place, mapped-place, puts-place}
