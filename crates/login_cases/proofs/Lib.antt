pub mod Logins
