-- Document 02, M-103; rule 16.6: that s is the text of the words t, and that s tells the tables d. Both go by what is written of tables, and not by how a
-- text is read or by what the calls answer.
use Rattle.std.specs.Prelude.{List, ◌≡◌, ℕ, length}
use Rattle.model.specs.State.WellFormed.{WellFormed}
use Rattle.model.specs.Tables.Layout.{tables_of, word_count}
use Rattle.model.specs.Tables.Words.{Tables}
use Rattle.model.specs.Text.Given.{Small}
use Rattle.tables_text.specs.Calls.{text_of_tables}
use Rattle.tables_text.specs.TextOf.{tables_text}
use Rattle.tables_text.specs.Told.{TablesTold}

-- Rule 16.6: s is the text of the words t: they are 2,304 words of 32 bits, their tables are well-formed, and s is what is written of them.
pub record TextOf (s t : List ℕ) : Type 0 where
  pub size : length t ≡ word_count
  pub small : Small t
  pub well_formed : WellFormed (tables_of t)
  pub is : s ≡ text_of_tables t

-- Rule 16.3: s tells the tables d, well-formed or not: lines can tell them, and s is their text.
pub record Tells (s : List ℕ) (d : Tables) : Type 0 where
  pub told : TablesTold d
  pub is : s ≡ tables_text d
