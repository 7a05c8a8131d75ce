-- The laws of this crate that others use; each is proved in the file that it is passed on from. Assumes nothing.

-- ---- what is within the ranges can be searched: n and m of a number, and how far its messages reach
pub use Rattle.session_repair.proofs.Search.{searchable, n-near, m-near, reach_near}
-- ---- the messages held at a distance
pub use Rattle.session_repair.proofs.Search.{message-is, messages-long}
-- ---- tables that differ in their kept numbers alone
pub use Rattle.session_repair.proofs.Beside.{same_beside, beside-twice, held-beside}
