-- The definitions that contracts cite.
pub mod Tables0
pub mod Markers0
pub mod Refusals0
pub mod Segments0
pub mod Spells0
pub mod Values0
pub mod Lowered
pub mod Met
pub mod Meets
pub mod Lacks0
pub mod LawsLowering
pub mod LawsCanonical0
pub mod Agreement0
pub mod LawsLack0
pub mod WorkedRows0
pub mod WorkedLacks0
pub mod KeptTables0
pub mod TableParts0
pub mod Reads0
pub mod Form
-- Devices of the proofs: no clause of a public call needs them.
pub mod LacksMet
