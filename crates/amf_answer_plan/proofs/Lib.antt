-- The lemmas that several proofs share.
pub mod Composed
pub mod Wholes
pub mod Digits
pub mod Texts
pub mod Closed
pub mod Uses
pub mod Building
pub mod Spelling
pub mod Standing
pub mod Doing
pub mod CallsAlike
