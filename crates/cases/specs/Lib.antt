-- Case states, each table of cases proved by one computation; wrong steps, lists and runs that the model's statements reject.
pub mod Case
