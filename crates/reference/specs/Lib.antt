-- What the resolver and the triples answer, and that it is what the model says.
pub mod Ways
pub mod WayLaws
pub mod TripleLaws
pub mod ChainLaws
