-- The definitions that contracts cite.
pub mod Written
pub mod Pass
pub mod Ends
pub mod Rechunk
pub mod Worked
-- Devices of the proofs: no public contract needs them.
pub mod Reads
