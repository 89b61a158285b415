-- The lemmas that several proofs share.
pub mod HashedPlaces
pub mod NodeRuns
pub mod NodePlaces
pub mod TextFirsts
pub mod LateTexts
pub mod KnownPlaces
pub mod KnownTexts
pub mod SpelledNodes
pub mod ShownTexts
pub mod AlikeTraits
pub mod TextCodes
pub mod WrittenEntries
