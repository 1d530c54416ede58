-- The disclosure list: what the walk finds is what the rules say.
pub mod AdmittedLaws
pub mod AnswerLaws
pub mod ShowLaws
pub mod ListingLaws
pub mod ReadableLaws
