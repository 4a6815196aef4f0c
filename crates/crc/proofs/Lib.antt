pub mod Laws
pub mod HalfBytes
