-- The definitions that contracts cite.
pub mod Lookup
pub mod Classes
pub mod Asked
pub mod Viewing
pub mod Messages
pub mod Built
pub mod Answers
pub mod WorkedFlex
pub mod FlexLaws
-- Devices of the proofs: no clause of a public call needs them.
pub mod KeptPairs
pub mod Wrong
pub mod Writing
