-- The lemmas that several proofs share.
pub mod Computed
pub mod ServedBegins
pub mod Laws
pub mod PackedAlike
pub mod MatchedPlans
pub mod RunsAlike
pub mod Carried
pub mod RepliesAlike
pub mod MessagesAlike
pub mod Fixed
pub mod CallBodies
pub mod Known
pub mod WholeTest
pub mod Speller
pub mod BytePackets
