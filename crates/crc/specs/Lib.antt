pub mod CrcA
pub mod HalfBytes
