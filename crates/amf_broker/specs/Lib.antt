-- The definitions that contracts cite.
pub mod Limits
pub mod State
pub mod Machine
pub mod History
pub mod Delivery
pub mod Memory
-- Devices of the proofs: no clause of a public call needs them.
pub mod Sound
pub mod Admission
pub mod Moments
pub mod Lines
pub mod Members
pub mod Trims
pub mod Index
pub mod Slots
pub mod Awake
