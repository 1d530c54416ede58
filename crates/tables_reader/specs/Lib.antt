-- The words that the reader begins with, and the laws of a whole reading.
pub mod Blank
pub mod WholeLaws
