-- The definitions that contracts cite.
pub mod Room
-- Devices of the proofs. Of the public calls only those need them by which a reader reads its fields.
pub mod FieldSize
pub mod KeptText
