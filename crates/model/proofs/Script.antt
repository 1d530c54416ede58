-- The program: what is written of a file of tables and a script of requests, however it is fed.
pub mod StateLaws
pub mod ReportLaws
pub mod WindowLaws
pub mod FedLaws
