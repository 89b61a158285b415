-- The lemmas that several proofs share.
pub mod Shortest
pub mod Digits
pub mod Alone
pub mod Worked
pub mod TextTest
pub mod U29Fields
pub mod Integers
pub mod TextFront
pub mod Doubles
pub mod WholeNumbers
