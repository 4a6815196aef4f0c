-- What the programs that compare read of a text.
pub mod Digits
