-- Devices of the proofs: no clause of a public call of the reader of texts needs them.
pub mod Graphs
pub mod Fronts
pub mod Lookups
pub mod Showing
pub mod Telling
pub mod Objects
