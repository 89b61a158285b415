-- The lemmas that several proofs share.
mod Documents
mod Mapped
mod PartsTold
mod Ready
mod MeantBytes
mod Taken
mod RunsOfTexts
pub mod TextStatuses
mod ComesBack
pub mod ThereAndBackRows
pub mod FirstFaults
