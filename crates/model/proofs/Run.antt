-- Many requests in one call: there is one run, it is single steps, and it may be cut anywhere.
pub mod ThroughLaws
pub mod RunLaws
