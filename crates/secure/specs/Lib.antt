-- Rule 4 as the passes ask it, that together they are the model's test, and what one changed word can reach.
pub mod Secured
pub mod SecureLaws
pub mod ReachLaws
