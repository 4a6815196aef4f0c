-- The proofs of specs/Claims.antt, in its order.
pub mod Field
pub mod SBox
pub mod State
pub mod Columns
pub mod Steps
pub mod KeyExpansion
pub mod Cipher
pub mod Cbc
