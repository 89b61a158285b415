-- The definitions that contracts cite.
pub mod Lines
pub mod Told
pub mod Serving
pub mod BytesEnds
pub mod MediaEnds
pub mod Ends
pub mod ServesWords
pub mod CallEnds
pub mod CallsWords
pub mod ListenEnds
pub mod ListensWords
pub mod Starts
pub mod WorkedServe
-- Devices of the proofs: no clause of a public call needs them.
pub mod ServeEnds
pub mod CallSteps
