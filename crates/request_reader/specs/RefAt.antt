-- What reading a line with a reference, into the front of a room, answers.
use Rattle.std.specs.Prelude.{List, Option, ℕ, drop}
use Rattle.model.specs.Request.Words.{name_count}
use Rattle.model.specs.Text.Lines.{read_line}
use Rattle.model.specs.Text.References.{reference}
use Rattle.request_reader.specs.NamesAt.{NamesIs}
use Rattle.request_reader.specs.declared.Names.{Names}

-- Rules 11.1 and 11.2: the answer r for the line at an index of the bytes s, in the room o, which is now p.
abbrev pub RefAt : List ℕ → ℕ → List ℕ → List ℕ → List ℕ → Option Names → Type 0
RefAt s at key o p r = NamesIs s (read_line key reference (drop at s)) name_count o p r
