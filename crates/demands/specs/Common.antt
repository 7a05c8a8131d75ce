-- What more than one demand uses: the named editions, and chains of calls.
pub mod NamedEdition
pub mod History
pub mod Calls
