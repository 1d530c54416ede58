-- The tests of what a kind is good for, and how the two hang together.
use Rattle.std.specs.Prelude.{ℕ}
use Rattle.model.specs.Basics.Agree.{Agrees, agrees_eq}
use Rattle.model.specs.Tables.Kinds.{Screen, Terminal, screen, terminal}
use Rattle.model.specs.Tables.Words.{device_kind}

pub screen_kind_agrees : (k : ℕ) → Agrees (screen k) (Screen k)
screen_kind_agrees k = agrees_eq k device_kind

pub terminal_kind_agrees : (k : ℕ) → Agrees (terminal k) (Terminal k)
terminal_kind_agrees k = agrees_eq k device_kind

-- What is logged on to shows things: a user is shown entities on the device that the user is on (rule 6.10).
pub terminal_shows : (k : ℕ) → Terminal k → Screen k
terminal_shows k t = t
