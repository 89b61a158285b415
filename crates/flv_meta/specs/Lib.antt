-- The definitions that contracts cite.
pub mod File
pub mod Fields
pub mod FileLaws
pub mod MetadataLaws
pub mod FileAnswers
pub mod MetadataAnswer
pub mod WorkedFiles
-- Devices of the proofs: no clause of a public call needs them.
pub mod FileLayout
