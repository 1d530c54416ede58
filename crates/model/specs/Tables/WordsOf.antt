-- Document 01, "The tables"; rule 2.1: the 2,304 words of any tables, `tables_of` read the other way.
use Rattle.std.specs.Prelude.{List, [], ◌∷◌, ◌%◌, ◌-◌, ◌/◌, suc, zero, ℕ, ltb}
use Rattle.model.specs.Basics.Choice.{pick}
use Rattle.model.specs.Tables.Layout.{entities_from, entity_width, user_width, word_count}
use Rattle.model.specs.Tables.WordAt.{entity_word_at, user_word_at}
use Rattle.model.specs.Tables.Words.{Tables}

-- the first n values of a function
unfoldable pub first_values : ℕ → (ℕ → ℕ) → List ℕ
first_values zero g = []
first_values (suc n) g = g 0 ∷ first_values n (λ i. g (suc i))

-- the word i words after the start of the users' records, and of the entities'
abbrev pub user_at_index : Tables → ℕ → ℕ
user_at_index d i = d.user (suc (i / user_width)) (user_word_at (i % user_width))

abbrev pub entity_at_index : Tables → ℕ → ℕ
entity_at_index d i = d.entity (suc (i / entity_width)) (entity_word_at (i % entity_width))

-- the word at index i
unfoldable pub word_at_index : Tables → ℕ → ℕ
word_at_index d i = pick (ltb i entities_from) (user_at_index d i) (entity_at_index d (i - entities_from))

unfoldable pub words_of : Tables → List ℕ
words_of d = first_values word_count (word_at_index d)
