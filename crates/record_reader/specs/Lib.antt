-- What the parts of the reader answer, in the code's terms, and their laws.
pub mod StageAt
pub mod FieldAt
pub mod FieldLaws
pub mod RowAt
pub mod RowLaws
pub mod Rest
pub mod RecordLaws
pub mod StageLaws
pub mod NumberedLaws
