-- What is asked of a new level, and the laws by which the operations on objects and containers keep their promise.
pub mod Held
pub mod HeldLaws
pub mod LevelChangeLaws
pub mod EntityLaws
