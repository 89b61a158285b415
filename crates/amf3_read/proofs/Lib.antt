mod NodeMarks
mod HeaderRules
mod MarkerRules
mod NumbersRead
pub mod TextReads
mod NameReads
pub mod PartPut
pub mod Stack
pub mod Empties
pub mod NodeStarts
pub mod GoesOn
mod TextsLayouts
mod TextsReads
mod ClassReads
mod TraitsReads
mod TraitsShapes
mod NodeBegins
mod BytesAhead
mod OpeningNodes
mod VectorsRead
pub mod OpeningReads
mod TextLayout
mod TextAnswers
mod ReadAnswers
mod ValueReads
mod NodeReads
mod InlineReads
pub mod Items
pub mod Pairs
pub mod PairLayouts
mod PlainReads
