-- The definitions that contracts cite.
pub mod Answer
pub mod TextAnswer
pub mod Pairs
pub mod VerdictLaws
-- Devices of the proofs. Of the public calls only those need them by which a reader of another format reads on in AMF 3
-- (`read_value` and its like).
pub mod Ready
pub mod Names
pub mod Begins
pub mod Filling
pub mod Roles
pub mod Now
pub mod Frames
pub mod FrameRows
pub mod Follows
pub mod Headers
pub mod Opened
pub mod OpeningItems
pub mod OpeningNames
pub mod OpeningShapes
pub mod Steps
pub mod Vectors
pub mod Plain
