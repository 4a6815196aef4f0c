-- What a program sees of a call's answer.
pub mod Heard
