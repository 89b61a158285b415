-- The definitions that contracts cite.
pub mod TableParts
pub mod FirstPlace
pub mod SpelledAlone
pub mod TextPlaces
pub mod KnownPlaces
pub mod KnownTexts
pub mod KnownWords
pub mod ShownTraits
-- Devices of the proofs: no clause of a public call needs them.
pub mod ContentHash
pub mod HashedPlaces
pub mod TextFirsts
pub mod LateTexts
pub mod NodeRuns
pub mod NodePlaces
pub mod SpelledNodes
pub mod TextCodes
pub mod WrittenParts
pub mod WrittenContent
