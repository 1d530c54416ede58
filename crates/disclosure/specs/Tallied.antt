-- How many references go on from each entity by at most so many names, in rows: a row for each number of names, with a word for
-- each entity, after one for none.
use Rattle.std.specs.Prelude.{List, ◌≡◌, ◌*◌, ◌+◌, ◌-◌, ◌<◌, ◌≤◌, suc, ℕ, get_or, length}
use Rattle.verdicts.specs.Verdicts.{Guided}
use Rattle.verdicts.specs.declared.Verdict.{Verdict}
use Rattle.disclosure.specs.Visited.{Padded, further_most, under}
use Rattle.model.specs.Request.Words.{name_count}
use Rattle.model.specs.Tables.Words.{entity_count}

-- a word for no entity, and then one for each
abbrev pub row_words : ℕ
row_words = suc entity_count

-- a row for each number of further names
abbrev pub tally_words : ℕ
tally_words = name_count * row_words

-- where the word of the first entity stands in the last row
abbrev pub last_row : ℕ
last_row = further_most * row_words + 1

-- the tallies in the first n words of b, and 0 for no entity in every row
pub record Tallied (t : List ℕ) (v : List Verdict) (n : ℕ) (b : List ℕ) : Type 0 where
  pub size : length b ≡ tally_words
  pub none : (k : ℕ) → get_or b (k * row_words) 0 ≡ 0
  pub told : (k e : ℕ) → 1 ≤ e → e ≤ entity_count → k * row_words + e < n → get_or b (k * row_words + e) 0 ≡ length (under t v k e)

-- The first names, all but the last `left`, have led to the entity e.
pub record Arrived (t : List ℕ) (v : List Verdict) (b : List ℕ) (e left : ℕ) (names : List ℕ) : Type 0 where
  pub guided : Guided t v
  pub tallied : Tallied t v tally_words b
  pub low : 1 ≤ e
  pub high : e ≤ entity_count
  pub few : left ≤ further_most
  pub padded : Padded names (name_count - left)
