-- The definitions that contracts cite.
pub mod SharedObject
pub mod FileVerdict
pub mod FileLaws
pub mod FileLacks
pub mod WrittenFile
pub mod StoredFile
pub mod FileAnswer
pub mod WorkedFiles
-- Devices of the proofs: no clause of a public call needs them.
pub mod HolderTest
pub mod FileLayout
pub mod FileReading
pub mod FileParts
