-- The lemmas that several proofs share.
pub mod Results
pub mod FittedTexts
pub mod TextsAlike
pub mod Documents
pub mod ReadyInputs
pub mod ReadPackets
pub mod FittedInputs
pub mod TextParts
pub mod MeantAlike
pub mod JsonLawRows
