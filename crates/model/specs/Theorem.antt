-- What follows: kept, lawful, framed, noticed, unique; the definitions of the model papers.
pub mod Definitions
pub mod MayChange
pub mod Done
pub mod DoneRows
pub mod Statements
pub mod Sequence
pub mod Beyond
pub mod Accountable
pub mod LawfulShow
pub mod LawfulScreen
pub mod Untouched
pub mod FramedPlaces
pub mod SameWords
