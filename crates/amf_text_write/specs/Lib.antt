-- The definitions that contracts cite.
pub mod ValueTexts
pub mod PacketTexts
-- What the clauses of a packet's parts, written one after the other, speak of.
pub mod Laid
pub mod Tells
pub mod Parts
-- Devices of the proofs: no clause of a public call needs them.
pub mod TellsLeaves
pub mod Flags
pub mod Pieces
pub mod Ways
pub mod Names
pub mod Opening
pub mod Objects
pub mod PutParts
pub mod OpenedNodes
pub mod PartsInWay
pub mod Walk
pub mod Counts
pub mod Levels
pub mod Rows
pub mod Plans
pub mod Graphs
