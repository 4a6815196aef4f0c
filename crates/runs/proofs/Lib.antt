pub mod Made
pub mod Heard
pub mod Steps
pub mod Demands
pub mod Images
