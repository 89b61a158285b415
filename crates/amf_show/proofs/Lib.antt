-- The lemmas that several proofs share.
pub mod Joined
pub mod Held
pub mod Headed
pub mod Viewed
pub mod Alike
pub mod Rows
pub mod Texts
pub mod Hexes
pub mod Decimals
pub mod Cuts
pub mod LineNumbers
