-- The claim of this crate, proved by a law. Assumes nothing.
use Rattle.packet_laws.specs.Claims.{Claims}
use Rattle.packet_laws.proofs.WriteLaws.{never-longer}

pub claims : Claims
claims = record { never_longer = never-longer }
