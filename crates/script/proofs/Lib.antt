-- Laws of a turn of the script that fall, and others with them, where a must-fail edit turns what a turn leaves.
pub mod TurnLaws
pub mod StaysLaws
