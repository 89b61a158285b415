-- The lemmas that several proofs share.
pub mod WholeNumbers
pub mod Lawful
pub mod Calling
pub mod Room
pub mod CopiedGraphs
pub mod ShownItems
pub mod Totals
pub mod Answering
pub mod NamesOnce
pub mod TextOrder
pub mod MadeArrays
