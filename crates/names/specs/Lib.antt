-- What the names are tied to, and the laws by which an answer is told and a number is read as an operation.
pub mod Refusals
pub mod RefusalLaws
pub mod Operations
pub mod OperationLaws
pub mod Rows
pub mod Listed
