-- A line of a script, played.
pub mod Play
