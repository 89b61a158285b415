-- The lemmas that several proofs share.
pub mod Filled
pub mod Erring
pub mod ReadStored
pub mod Batched
pub mod Reading
pub mod Ending
pub mod Polled
pub mod ViewedShort
mod Fitting
mod Operations
pub mod Arguments
pub mod Remote
pub mod SpelledReplies
pub mod Saying
