-- What the step promises, and the laws by which its notice, its dispatch and its first rungs keep it.
pub mod Contract
pub mod NoticeLaws
pub mod DispatchLaws
pub mod FirstLaws
