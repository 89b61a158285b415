-- The definitions that contracts cite.
pub mod Listing
-- Devices of the proofs: no public contract needs them.
pub mod Values
