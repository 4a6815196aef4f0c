pub mod Bit
pub mod Xor
pub mod OneWay
pub mod Test
pub mod Additive
