-- What the readers and writers of words promise.
pub mod Singles
pub mod Records
pub mod Laws
