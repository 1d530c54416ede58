-- The words that the reader begins with.
use Rattle.std.specs.Prelude.{List, ℕ, replicate}
use Rattle.model.specs.Tables.Layout.{word_count}

-- every word is 0
unfoldable pub blank : List ℕ
blank = replicate word_count 0
