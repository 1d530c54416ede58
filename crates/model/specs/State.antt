-- Well-formed and secure: statements, tests, and that they agree.
pub mod Depth
pub mod DepthLaws
pub mod Climb
pub mod ClimbLaws
pub mod WellFormed
pub mod Secure
pub mod Tests
pub mod Check
pub mod AgreeRecords
pub mod AgreeLinks
pub mod Agree
pub mod ParentLaws
pub mod AgreeSecure
pub mod LinksLaws
