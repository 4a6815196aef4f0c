pub mod Laid
pub mod Made
