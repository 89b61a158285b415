-- The definitions that contracts cite.
pub mod Shown
pub mod Listing
pub mod Counting
pub mod ListingLaws
pub mod WorkedListings
-- Devices of the proofs: no clause of a public call needs them.
pub mod Joining
pub mod Heads
pub mod Pieces
pub mod ByLister
