-- What the writer of the tables' text cites of lengths, and of its ends.
pub mod Form
pub mod LengthLaws
pub mod SumLaws
pub mod EndLaws
