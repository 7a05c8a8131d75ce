-- The contracts of the calls, tied to the promises that the theorems cite.
pub mod LibraryContracts
pub mod HostContracts
