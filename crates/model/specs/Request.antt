-- What is asked, what it is answered, and what it leaves.
pub mod Words
pub mod Refusals
pub mod Reference
pub mod Asked
pub mod Conditions
pub mod Operations
pub mod Ladder
pub mod After
pub mod Step
pub mod Form
pub mod Allowed
pub mod Applies
pub mod LadderLaws
pub mod RefusedLaws
pub mod RoomLaws
pub mod OneWordLaws
