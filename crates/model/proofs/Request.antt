-- What the tests of a request say, each against its statement: references, operations, conditions, forms and rungs.
pub mod ReferenceLaws
pub mod OperationLaws
pub mod TestLaws
pub mod ConditionLaws
pub mod FitLaws
pub mod AfterLaws
pub mod RungLaws
pub mod AppliesLaws
pub mod OwnTestLaws
pub mod OwnLaws
