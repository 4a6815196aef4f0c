-- Bench scripts (document 01, "Image file and bench program").
pub mod Line
