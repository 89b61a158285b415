-- The definitions that contracts cite.
pub mod Tells
pub mod Handed
pub mod ServesLink
pub mod Served
-- Devices of the proofs: no clause of a public call of the gateway needs them.
pub mod Answered
pub mod HandedLaws
pub mod Answering
pub mod LinkSteps
pub mod WorkerSteps
