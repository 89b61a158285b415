-- The definitions that contracts cite.
pub mod Telling
pub mod Labels
-- Devices of the proofs: no clause of a public call needs them.
pub mod Rows
pub mod Filling
