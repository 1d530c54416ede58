-- What the stores of create, delete and move, and the search for a free number, answer for, and the laws by which these operations meet the model.
pub mod Stored
pub mod VacantLaws
pub mod CopyLaws
pub mod BlankLaws
pub mod HolderLaws
pub mod FillLaws
pub mod CreateLaws
pub mod DeleteLaws
pub mod MoveLaws
