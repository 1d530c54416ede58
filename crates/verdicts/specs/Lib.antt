-- What a verdict says, and what all of them together say of the list.
pub mod Verdicts
pub mod VerdictLaws
