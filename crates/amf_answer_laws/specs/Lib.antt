-- The definitions that contracts cite.
pub mod Tried
pub mod WorkedTexts
pub mod WorkedClient
pub mod WorkedBytes
pub mod WorkedOrder
pub mod WorkedPlain
pub mod WorkedRemoting
pub mod WorkedLinks
