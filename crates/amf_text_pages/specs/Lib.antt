-- The definitions that contracts cite.
pub mod Written
-- Devices of the proofs: no clause of a public call of the reader of texts needs them.
pub mod Entries
pub mod Pages
