-- What is said of the public calls on the case states, and rests on a law that a must-fail edit turns.
pub mod Listed
pub mod S1Called
