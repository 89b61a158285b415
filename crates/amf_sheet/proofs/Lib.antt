-- The lemmas that several proofs share.
pub mod Spans
pub mod Sheets
pub mod Linking
pub mod Changing
pub mod Taking
pub mod Keeping
pub mod Putting
pub mod Giving
pub mod Halves
