-- What the public calls answer on the case states.
pub mod Called
pub mod CalledLaws
pub mod S1Exhibit
pub mod Listed
pub mod TextCalled
pub mod S1Called
