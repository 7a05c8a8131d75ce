-- What the crates above use of this one's laws; each is proved in the file that it is passed on from. Assumes nothing.

-- ---- the public calls on a session within its ranges
pub use Rattle.session_calls.proofs.Seen.{fresh-seen, offer-done, release-refused, release-done, HandedOut, release-handed}
-- ---- the calls on plain values, and what the cores require
pub use Rattle.session_calls.proofs.Called.{offer-outside, offer-inside, release-outside, release-inside, within-session}
pub use Rattle.session_calls.proofs.SolvedLaws.{solve-outside, solve-inside, solves-as}
-- ---- two outcomes are equal, and a refused call leaves the session
pub use Rattle.session_calls.proofs.Outcomes.{after_same, after-refused}
pub use Rattle.session_calls.proofs.SolverClaims.{one_answer_lem}
