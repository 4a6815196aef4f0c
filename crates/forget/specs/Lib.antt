pub mod Machine
pub mod Striking
pub mod Stretch
pub mod Claim
pub mod Examples
