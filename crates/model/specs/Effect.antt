-- The twenty effects and the notice, and that each keeps tables well-formed and secure.
pub mod Words
pub mod Notice
pub mod Triples
pub mod Places
pub mod Screens
pub mod WordsLaws
pub mod TriplesLaws
pub mod PutLaws
pub mod ShowLaws
