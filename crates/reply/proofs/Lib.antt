pub mod Data
pub mod Room
