-- What the functions of the list ask and promise.
pub mod Visited
pub mod Tallied
pub mod Contract
pub mod EntryLaws
pub mod VisitLaws
pub mod TallyLaws
pub mod AdmitLaws
pub mod EndLaws
