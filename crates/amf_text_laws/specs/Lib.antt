-- The definitions that contracts cite.
pub mod ThereAndBack
pub mod Verdicts
pub mod TextBounds
