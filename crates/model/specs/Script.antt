-- The program: a file of tables, a script of requests, and what is written of them.
pub mod State
pub mod Reports
pub mod Runs
pub mod RunsLaws
pub mod Windows
