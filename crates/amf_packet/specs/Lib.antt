-- The definitions that contracts cite.
pub mod Packet
pub mod PacketLacks
pub mod Content
pub mod Alike
pub mod Unpacked
pub mod PacketAnswer
pub mod WrittenPacket
pub mod SpelledBodies
pub mod WorkedPackets
pub mod VerdictLaws
pub mod WorkedVerdicts
-- Devices of the proofs: no clause of a public call needs them.
pub mod LayoutPacket
pub mod ReadParts
pub mod Items
pub mod WriteParts
