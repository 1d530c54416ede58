-- What stands in what, and the laws of the searches for it and of the way up.
pub mod Standing
pub mod LookLaws
pub mod SeenLaws
pub mod InsideLaws
