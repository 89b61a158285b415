-- The definitions that contracts cite.
pub mod Together
-- Devices of the proofs: no clause of a public call needs them.
pub mod HiredWorkers
pub mod Gathered
pub mod Halls
