-- The passes of the state check, and that together they are the model's tests.
pub mod Passes
pub mod Holders
pub mod Jumps
pub mod RowLaws
pub mod UserLaws
pub mod EntityLaws
pub mod UnlikeLaws
pub mod TripleLaws
pub mod ObjectLaws
pub mod OwnLaws
pub mod PassLaws
pub mod HolderLaws
pub mod NotedLaws
pub mod Judging
pub mod JudgingLaws
pub mod JumpLaws
