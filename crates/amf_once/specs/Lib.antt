-- The definitions that contracts cite.
pub mod Taking
pub mod Course
pub mod Worlds
pub mod Once
pub mod Owners
-- A worked course.
pub mod Row
-- Devices of the proofs: no clause of a public call needs them.
pub mod Hearing
pub mod Shown
