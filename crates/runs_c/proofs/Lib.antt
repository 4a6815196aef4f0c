pub mod Answers
pub mod Made
pub mod Steps
pub mod Demand1
pub mod Demand3
