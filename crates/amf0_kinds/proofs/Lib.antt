-- Lemmas.
pub mod Own
mod Keeping
