-- The definitions that contracts cite.
pub mod Made
pub mod WorkedMade
-- Devices of the proofs: no clause of a public call needs them.
pub mod Making
