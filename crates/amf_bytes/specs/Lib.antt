-- The definitions that contracts cite.
pub mod Meanings
pub mod TextRuns
pub mod ThereAndBack
pub mod FirstFaults
-- Devices of the proofs: no clause of a public call needs them.
pub mod TextSteps
