-- The lemmas that several proofs share.
pub mod Dots
pub mod NoLacks
pub mod InArray
pub mod Plain
pub mod Faulty
