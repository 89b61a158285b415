-- The definitions that contracts cite.
pub mod Sheets
pub mod Pieces
pub mod Frames
pub mod Gathering
pub mod Pages
pub mod Fits
pub mod TreeLaws
pub mod WorkedTrees
