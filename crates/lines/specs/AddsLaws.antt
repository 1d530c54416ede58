-- The laws of outputs: one text after another is one text.
use Rattle.std.specs.Prelude.{List, [], ◌++◌, refl, ◌+◌, ◌≤◌, ℕ, length}
use Rattle.std.proofs.Common.{arith, ◌∙◌}
use Rattle.lines.specs.Adds.{Adds, Room}
use Rattle.lines.specs.PutsLaws.{puts_both, puts_none, puts_puts, room_next}
use Rattle.lines.specs.declared.putting.Output.{Output}

-- nothing is written
pub adds_none : (o : Output) → Adds [] o o
adds_none o = record { same = refl; puts = puts_none o.room.now o.at }

-- s ++ t is to be written, and there is room for it: after s there is room for t,
pub adds_room : {s : List ℕ} {o p : Output} (t : List ℕ) → Room (s ++ t) o → Adds s o p → Room t p
adds_room t h a = room_next t h a.puts

-- and after t all is written
pub adds_both : {s t : List ℕ} {o p q : Output} → Room (s ++ t) o → Adds s o p → Adds t p q → Adds (s ++ t) o q
adds_both h a b = record { same = b.same ∙ a.same; puts = puts_both h a.puts b.puts }

-- the same where there is room enough for both
pub adds_after : {s t : List ℕ} {o p q : Output} → o.at + (length s + length t) ≤ length o.room.now → Adds s o p → Adds t p q → Adds (s ++ t) o q
adds_after h a b = record { same = b.same ∙ a.same; puts = puts_puts (omega (arith, h)) a.puts b.puts }

-- the same where the output stands inside its room
pub adds_inside : {s t : List ℕ} {o p q : Output} → o.at ≤ length o.room.now → Adds s o p → Adds t p q → Adds (s ++ t) o q
adds_inside h a b = record { same = b.same ∙ a.same; puts = puts_puts h a.puts b.puts }
