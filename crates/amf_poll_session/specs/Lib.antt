-- The definitions that contracts cite.
pub mod Requests
pub mod Replies
pub mod Sessions
pub mod Carried
pub mod Listened
pub mod Laws
pub mod Delivered
pub mod Batches
-- Worked requests, replies and sessions.
pub mod Rows
-- Devices of the proofs: no clause of a public call needs them.
pub mod Steps
