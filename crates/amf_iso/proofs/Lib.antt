-- Lemmas.
pub mod NamedPairs
mod Entries
mod MetValues
mod Numbers
mod NodesWaiting
mod Steps
pub mod Remaining
pub mod HeadFacts
mod Orders
mod ClosedOrders
mod Relabelled
pub mod EntriesRemain
mod Joins
pub mod InOrder
mod LastOrders
mod Held
mod SeenKinds
pub mod Meeting
mod NamesAlike
mod Pairing
pub mod Looking
