-- The disclosure list. `Order`, `Complete` and `Listing` say what the list is, and contracts cite them. The others
-- say what the walk finds and are proved to be it; `Readable` restates the test in the words of the rules.
pub mod Order
pub mod OrderLaws
pub mod Complete
pub mod CompleteLaws
pub mod Listing
pub mod Admitted
pub mod Walk
pub mod WalkLaws
pub mod Reach
pub mod BoundLaws
pub mod Ways
pub mod Further
pub mod Readable
