mod Fronts
pub mod Utf8
pub mod Asked
pub mod Formats
pub mod Goes
pub mod Told
pub mod Spelled
mod Inputs
pub mod Statuses
mod MadeAgain
mod RunRows
