-- The definitions that contracts cite.
pub mod JsonTexts
pub mod Ready
pub mod JsonLaws
-- Devices of the proofs: no clause of a public call needs them.
pub mod TextParts
