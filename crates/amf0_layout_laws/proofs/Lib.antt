-- The lemmas that several proofs share.
pub mod Layout0Forms
pub mod Layout0Grows
pub mod Layout0Able
pub mod Layout0Complete
pub mod Layout0Contents
pub mod Layout0SoundParts
pub mod Layout0SoundNodes
pub mod Layout0Sound
pub mod Layout0Format
pub mod Verdicts0
pub mod VerdictRows0
