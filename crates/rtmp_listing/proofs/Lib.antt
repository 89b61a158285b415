pub mod OneRead
pub mod Listed
pub mod LinesMade
