pub mod Shapes
pub mod Walks
pub mod Readings
pub mod Clap
pub mod OneValue
