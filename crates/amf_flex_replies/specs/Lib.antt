-- Devices of the proofs: no clause of a public call of the gateway needs them.
pub mod Batching
pub mod KeptArguments
pub mod KeptRequests
