-- The lemmas that several proofs share.
pub mod Handing
mod SmallReplies
pub mod Answering
pub mod MessageAnswers
pub mod Unpacked
pub mod BodyAnswers
pub mod Answered
pub mod Stepped
pub mod ReadNext
pub mod Coming
pub mod SoFar
pub mod ServedEnds
