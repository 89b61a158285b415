-- The definitions that contracts cite.
pub mod Contents
pub mod Numbers
pub mod Remembered
-- Devices of the proofs: no clause of a public call needs them.
pub mod Behind
pub mod Joined
pub mod Walking
pub mod Waiting
