use Rattle.std.proofs.Common.{◌-◌, length, take, ◌≡◌, ◌≤◌}
use Rattle.model.specs.Script.State.{file_bytes, word_in}
use Rattle.model.specs.Tables.Layout.{word_count}
use Rattle.model.specs.Tables.WordsOf.{first_values}
use Rattle.script.proofs.state_file.load.Given as goal

abbrev pub invariant-loop-i : goal.invariant-loop-i
invariant-loop-i l = (l.i ≤ word_count) × (length l.room ≡ word_count) × (length l.bytes ≡ file_bytes) × (take l.i l.room ≡ first_values l.i (word_in l.bytes))

abbrev pub decreases-loop-i : goal.decreases-loop-i
decreases-loop-i l = word_count - l.i
