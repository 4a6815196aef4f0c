-- What the program `vectors` reads of a text about an answer.
pub mod Told
