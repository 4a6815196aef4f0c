-- What a frame comes to.
pub mod Refused
