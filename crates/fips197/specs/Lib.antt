-- FIPS 197, the Advanced Encryption Standard at a key of 128 bits, as definitions in the standard's order, and
-- the CBC mode of NIST SP 800-38A over it.
-- Section numbers are those of the edition of 2001; the update of 2023 keeps them, but has the inverse in 4.4.
pub mod Field
pub mod SBox
pub mod State
pub mod KeyExpansion
pub mod Cipher
pub mod Claims
pub mod Cbc
