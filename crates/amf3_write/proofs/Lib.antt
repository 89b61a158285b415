-- The lemmas that several proofs share.
pub mod Wrote
pub mod WroteSegments
pub mod Ready
pub mod NamedPairs
pub mod Runs
pub mod Leading
pub mod WroteNodes
pub mod Whole
pub mod Turns
pub mod PartWritten
pub mod Least
pub mod FoundSteps
pub mod PartReached
pub mod PartNodes
pub mod PartTables
pub mod PartLackRows
