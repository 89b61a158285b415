-- The definitions that contracts cite.
pub mod Written0
pub mod PartLacks0
-- Devices of the proofs: no clause of a public call needs them.
pub mod Chained
pub mod Meetings
pub mod Searched
pub mod Writes0
pub mod Unwritten0
pub mod Stood
