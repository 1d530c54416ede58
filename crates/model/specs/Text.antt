-- The text of a request: numbers, references, lines, and the two calls.
pub mod Numbers
pub mod NumberLaws
pub mod Lines
pub mod LineLaws
pub mod References
pub mod Wording
pub mod Textual
pub mod ReferenceLaws
pub mod WordingLaws
pub mod Unfinished
pub mod WeightLaws
pub mod NearLaws
pub mod Writing
pub mod Reading
pub mod Given
pub mod Broken
