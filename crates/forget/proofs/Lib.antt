pub mod Judge
pub mod Stretch
pub mod Forgets
pub mod Examples
