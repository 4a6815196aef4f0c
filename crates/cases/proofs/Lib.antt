pub mod Cases
pub mod Struck
pub mod Samples
