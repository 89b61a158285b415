-- The definitions that contracts cite.
pub mod Round
pub mod Exchange
pub mod Quiet
pub mod Parts
pub mod WorkedRounds
