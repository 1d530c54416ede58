-- The triple that a request names, and how granting and revoking end.
pub mod Named
pub mod NamedLaws
pub mod GrantLaws
pub mod RevokeLaws
