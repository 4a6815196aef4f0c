-- The bench cases with logins; those of the other themes are in `cases`.
pub mod Logins
