-- Document 01 as definitions, and what is proved of them. A room uses only itself and the rooms above it;
-- but the names of the answers, Request/Refusals, which use nothing, are used by all.
pub mod Basics
pub mod Level
pub mod BitLaws
pub mod Tables
pub mod State
pub mod Effect
pub mod Request
pub mod List
pub mod Text
pub mod Theorem
pub mod Run
pub mod Script
pub mod Figures
