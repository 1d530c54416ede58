-- What the ladder's functions promise, and the laws by which an operation climbs it.
pub mod Contract
pub mod Shape
pub mod Path
pub mod ClimbLaws
pub mod ShapeLaws
pub mod DispatchLaws
pub mod PathLaws
pub mod OperandLaws
pub mod NameLaws
pub mod JudgeLaws
pub mod ArgumentLaws
pub mod Rungs
pub mod RungLaws
pub mod Trial
pub mod TrialLaws
