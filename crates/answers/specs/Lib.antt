-- The text of an answer (document 01, "Image file and bench program").
pub mod Answer
