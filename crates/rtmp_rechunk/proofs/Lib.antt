pub mod Fronts
pub mod Places
pub mod Turns
pub mod Streams
pub mod Rests
pub mod Again
