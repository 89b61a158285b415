-- The definitions that contracts cite.
pub mod Exchanged
pub mod Called
-- Devices of the proofs: no clause of a public call needs them.
pub mod Steps
