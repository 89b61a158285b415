-- The definitions that contracts cite.
pub mod Places
pub mod TextVerdicts
-- Devices of the proofs: no clause of a public call needs them.
pub mod Modes
pub mod TagNames
pub mod Names
pub mod Goals
pub mod Flags
pub mod Reasons
pub mod Nesting
pub mod NextGoals
pub mod Lists
pub mod Meets
pub mod Verdicts
pub mod Scanned
pub mod Judgements
pub mod Stops
pub mod FrontEnds
pub mod LabelNumbers
