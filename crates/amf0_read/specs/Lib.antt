-- The definitions that contracts cite.
pub mod Answer0
-- Devices of the proofs. Of the public calls only those need them by which a reader of another format reads on in AMF 0
-- (`read_value0`, `read_short_text`).
pub mod Ready0
pub mod Markers0
pub mod Leaves0
pub mod Opens0
pub mod Frames0
pub mod Beginnings0
