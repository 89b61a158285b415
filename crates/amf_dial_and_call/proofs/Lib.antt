pub mod Exchanging
pub mod Lackless
pub mod Utf8Text
