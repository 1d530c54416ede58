-- Choices and tests that compute, and when a test agrees with a statement.
pub mod Choice
pub mod Together
pub mod Tests
pub mod Cases
pub mod Agree
pub mod Fails
pub mod TestLaws
