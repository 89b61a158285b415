-- What the sheets of the tests hold.
pub mod Sheets
