-- The laws by which the operations on users keep their promise.
pub mod Officers
pub mod ClearanceLaws
pub mod UserLaws
