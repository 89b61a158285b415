-- Devices of the proofs: no clause of a public call needs them.
pub mod Results
