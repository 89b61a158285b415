-- The lemmas.
pub mod Linked
pub mod Verdicts
