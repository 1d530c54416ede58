-- Many requests in one call: what a run is, that there is one, that it is single steps, and that it may be cut anywhere.
pub mod Requests
pub mod Through
pub mod Run
pub mod RequestsLaws
