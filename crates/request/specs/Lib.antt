-- The names of a reference as a part of the request's words, and the words past them.
pub mod NameLaws
pub mod FitLaws
