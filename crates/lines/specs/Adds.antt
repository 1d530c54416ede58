-- Rule 11.3: what is written after what an output has already, and the room for it.
use Rattle.std.specs.Prelude.{List, ◌≡◌, ◌+◌, ◌≤◌, ℕ, length}
use Rattle.lines.specs.Onto.{Puts}
use Rattle.lines.specs.declared.putting.Output.{Output}

-- there is room for s
abbrev pub Room : List ℕ → Output → Type 0
Room s o = o.at + length s ≤ length o.room.now

-- s was written in the same room, at the index where the output o stood
pub record Adds (s : List ℕ) (o n : Output) : Type 0 where
  pub same : n.room.ghost_name ≡ o.room.ghost_name
  pub puts : Puts s o.room.now o.at n.room.now n.at
