-- Laws of document 01 that fall, and others with them, where a must-fail edit turns a definition, and the files that use such laws. The definitions and
-- the other laws stand in specs/. A room uses only itself, the rooms above it and those of specs/.
pub mod LevelLaws
pub mod Effect
pub mod Request
pub mod List
pub mod Text
pub mod Theorem
pub mod Run
pub mod Script
