-- The definitions that contracts cite.
pub mod Histories
pub mod Rule
pub mod Passes
pub mod Ends
-- Devices of the proofs: no clause of a public call needs them.
pub mod Steps
pub mod Seats
