-- The definitions that contracts cite.
pub mod Written
pub mod PartLacks
pub mod PartTables
pub mod WorkedPartLacks
-- Devices of the proofs: no clause of a public call needs them.
pub mod Writes
pub mod Contents
pub mod Unwritten
pub mod Found
