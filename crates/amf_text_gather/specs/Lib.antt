-- Devices of the proofs: no clause of a public call of the reader of texts needs them.
pub mod Frames
pub mod Pieces
pub mod Drafts
pub mod States
