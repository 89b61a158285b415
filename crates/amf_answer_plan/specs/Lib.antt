-- The definitions that contracts cite.
pub mod Plan
pub mod Numbers
pub mod Causes
pub mod Replies
pub mod Batches
pub mod Remoting
pub mod Commands
pub mod Flex
pub mod PlainCalls
pub mod Packets
pub mod Links
pub mod Runs
pub mod Begun
pub mod Respond
pub mod RespondLaws
pub mod Serving
pub mod Stands
pub mod Services
-- Devices of the proofs: no clause of a public call of the gateway needs them.
pub mod Did
pub mod Says
pub mod Kept
pub mod Calls
pub mod Small
