-- The definitions that contracts cite.
pub mod Meaning
pub mod Registry
pub mod Shipped
pub mod ServiceLaws
pub mod WorkedServices
-- Devices of the proofs: no clause of a public call needs them.
pub mod Made
