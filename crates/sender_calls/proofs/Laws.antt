-- The laws of a send that others use; each is proved in the file that it is passed on from. Assumes nothing.

-- ---- a send inside the ranges is the public call's
pub use Rattle.sender_calls.proofs.SenderSteps.{sent-few, sends-outside, sends-kept, sends-refused}
