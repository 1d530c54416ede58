-- Document 01, "The tables"; rule 2.3: what a kind is good for. Of its kinds the device alone shows things, and it alone is logged on to. These are
-- two things all the same, and each rule cites the one that it speaks of.
use Rattle.std.specs.Prelude.{Bool, ◌≡◌, ℕ, eqb}
use Rattle.model.specs.Tables.Words.{device_kind}

-- A screen is of a kind that shows things: its places are what is shown, each with a sum (rule 2.4); it has a maximum and no value of its own.
abbrev pub screen : ℕ → Bool
screen k = eqb k device_kind

abbrev pub Screen : ℕ → Type 0
Screen k = k ≡ device_kind

-- A terminal is of a kind that is logged on to: a user's device is of it, and it has one user at most.
abbrev pub terminal : ℕ → Bool
terminal k = eqb k device_kind

abbrev pub Terminal : ℕ → Type 0
Terminal k = k ≡ device_kind
