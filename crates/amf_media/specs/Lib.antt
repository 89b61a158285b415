-- The definitions that contracts cite.
pub mod Ends
pub mod Written
pub mod FlvValues
pub mod FlvOutput
pub mod FlvRuns
pub mod FlvLaws
pub mod RtmpRuns
pub mod RtmpLaws
pub mod Verdicts
-- Devices of the proofs: no clause of a public call needs them.
pub mod FlvSteps
pub mod SetSteps
