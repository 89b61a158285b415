-- The lemmas.
pub mod Ends
pub mod LastFrames
pub mod LonePieces
