-- What the readers of a request's text ask and promise, and the laws by which they end.
pub mod NamesAt
pub mod NamesAtLaws
pub mod RefAt
pub mod RefAtLaws
pub mod Seven
pub mod SevenLaws
pub mod FillLaws
pub mod ReadLaws
