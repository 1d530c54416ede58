-- Bytes written into a room and what each writer leaves in it; bytes read at an index and what each reader finds there.
pub mod Adds
pub mod Onto
pub mod OntoLaws
pub mod PutsLaws
pub mod Four
pub mod WritingLaws
pub mod NumberAt
pub mod NumberAtLaws
pub mod LineAt
pub mod LineAtLaws
pub mod CopyLaws
pub mod AddsLaws
