-- The definitions that contracts cite.
pub mod Rounds
-- A device of the proofs: no clause of a public call needs it.
pub mod Steps
