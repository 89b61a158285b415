-- The definitions that contracts cite.
pub mod Commands
pub mod Content
pub mod Formats
pub mod Told
pub mod Input
pub mod Lines
pub mod Run
pub mod WorkedRuns
-- Devices of the proofs: no clause of a public call of the program needs them.
pub mod ReadContent
pub mod Askable
