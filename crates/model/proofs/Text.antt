-- The text of a request: the two calls give what is asked of them, and each way leads back.
pub mod WordsLaws
pub mod GivenLaws
pub mod CallLaws
pub mod BothWays
pub mod BrokenLaws
