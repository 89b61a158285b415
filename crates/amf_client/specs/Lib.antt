-- The definitions that contracts cite.
pub mod Table
pub mod Reply
pub mod Faults
pub mod Outcomes
pub mod Meant
pub mod Answers
pub mod Ends
pub mod Asking
pub mod Asked
pub mod Laws
pub mod Rows
-- Devices of the proofs: no clause of a public call needs them.
pub mod Judging
pub mod Meanings
