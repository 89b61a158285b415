mod Totals
mod Longer
mod Keeps
mod Turns
pub mod Own
