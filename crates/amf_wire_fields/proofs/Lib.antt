-- The lemmas that several proofs share.
mod FieldLoop
mod FieldNumbers
pub mod Ahead
pub mod Chunks
pub mod CameChunk
pub mod LooseText
pub mod LayoutBinds
pub mod LayoutVerdicts
