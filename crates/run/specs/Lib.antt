-- What a run asks and promises, and the laws by which its loop and its ends keep it.
pub mod Contract
pub mod GoingLaws
pub mod RunLaws
