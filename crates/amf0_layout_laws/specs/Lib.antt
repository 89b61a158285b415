-- The definitions that contracts cite.
pub mod WorkedVerdicts0
pub mod VerdictLaws0
-- Devices of the proofs: no clause of a public call needs them.
pub mod Layout0State
pub mod Layout0
pub mod Layout0Laws
