-- The rows of an entity by their name, a word sought in all of a row, and stores into a row word by word.
pub mod Rows
pub mod NameLaws
pub mod SweepLaws
pub mod EditLaws
pub mod StoreLaws
pub mod CloseLaws
