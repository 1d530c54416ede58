-- What the writer of records asks of words, which line belongs to which word,
pub mod Writable
pub mod FieldAt
-- and what it cites of texts one after another, of lines, and of records line by line.
pub mod SeriesLaws
pub mod LineLaws
pub mod ChainLaws
