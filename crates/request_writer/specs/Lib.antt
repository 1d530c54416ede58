-- What the writer of a request's text asks of words, and what it cites beyond the model.
pub mod Sixteen
pub mod SixteenLaws
pub mod NameLaws
pub mod TextLaws
pub mod NeedLaws
pub mod EndLaws
