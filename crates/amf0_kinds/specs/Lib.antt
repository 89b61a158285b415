-- The definitions that contracts cite.
pub mod Kinds
-- A device of the proofs.
pub mod Kept
