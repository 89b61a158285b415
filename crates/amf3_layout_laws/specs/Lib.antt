-- The definitions that contracts cite.
pub mod WorkedVerdicts3
pub mod VerdictLaws3
-- Devices of the proofs: no clause of a public call needs them.
pub mod Layout3State
pub mod Layout3Words
pub mod Layout3
pub mod Layout3Laws
