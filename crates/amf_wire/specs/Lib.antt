-- The definitions that contracts cite.
pub mod Style
pub mod U29
pub mod U29Answer
pub mod Integer
pub mod Whole
pub mod WholeNumbers
pub mod Text
pub mod OneShortest
pub mod WorkedFacts
-- Devices of the proofs: no clause of a public call needs them.
pub mod Front
