-- Parts of a text.
pub mod Digits
pub mod Lines
