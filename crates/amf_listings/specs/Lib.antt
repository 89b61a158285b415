-- The definitions that contracts cite.
pub mod SamePacket
pub mod PacketListing
pub mod PacketNodes
pub mod PacketLaws
pub mod WorkedPacketListings
pub mod SameFile
pub mod FileListing
pub mod FileLaws
pub mod WorkedFileListings
-- Devices of the proofs: no clause of a public call needs them.
pub mod PacketParts
