mod States0
pub mod TextReads0
mod Stack0
mod Fills0
mod GoesOn0
mod Opened0
mod Starts0
mod FieldReads0
mod NodeStarts0
mod Closes0
mod Beginnings0
mod BeginningStarts0
pub mod Costs0
mod ReadAnswers0
pub mod ValueReads0
