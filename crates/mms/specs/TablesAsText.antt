-- Document 02, M-103; rule 16: what the two calls that write and read the tables as text are worth, as two statements about the calls that are linked: a part
-- of demand 1 and a part of demand 2. They are said of any slices, any lengths and any words; tables_settled and tables_as_text, in the law file beside this
-- one, prove them.
use mathlib.Core.List.{List, Memᴰ, [], ◌∷◌}
use Rattle.std.specs.Prelude.{◌↔◌, ◌≢◌, ◌≡◌, ◌≤◌, ℕ, length, take}
use Rattle.mms.specs.Calls.{OneAnswer, ReadTablesCall, TextWritten, WriteTablesCall, no_in, number_in}
use Rattle.model.specs.State.WellFormed.{WellFormed}
use Rattle.model.specs.Tables.Layout.{tables_of, word_count}
use Rattle.model.specs.Text.Given.{Small}
use Rattle.tables_text.specs.Due.{FirstBad, Whole, at_first}
use Rattle.tables_text.specs.Given.{TextOf}
use Rattle.tables_text.specs.LineMost.{line_most}
use Rattle.tables_text.specs.Longest.{longest_text}
use Rattle.model.specs.Request.Refusals as refusal

-- Demand 1, of the writer and the reader of tables.
pub record TablesSettled : Type 0 where
  -- Lent any words or bytes, each has one answer, and leaves one thing in what it may write; what it only reads, its signature keeps.
  pub write_settled : (t room : List ℕ) → OneAnswer (WriteTablesCall t room)
  pub read_settled : (s t : List ℕ) → OneAnswer (ReadTablesCall s t)
  -- The writer answers 0, 1, 2 or 17. A number goes with 0 and 17 only, and is 17,721 at most.
  pub write_answers : {t room r : List ℕ} {a : ℕ} → WriteTablesCall t room a r
      → Memᴰ (no_in a) (refusal.accepted ∷ refusal.bad_length ∷ refusal.not_well_formed ∷ refusal.too_short ∷ [])
  pub number_of_write : {t room r : List ℕ} {a : ℕ} → WriteTablesCall t room a r → no_in a ≢ refusal.accepted → no_in a ≢ refusal.too_short → number_in a ≡ 0
  pub bytes_of_write : {t room r : List ℕ} {a : ℕ} → WriteTablesCall t room a r → number_in a ≤ longest_text
  -- The reader answers 0, 1, 2 or 18. A number goes with 18 only, and is 1 to 1,793.
  pub read_answers : {s t r : List ℕ} {a : ℕ} → ReadTablesCall s t a r
      → Memᴰ (no_in a) (refusal.accepted ∷ refusal.bad_length ∷ refusal.not_well_formed ∷ refusal.not_a_request ∷ [])
  pub number_of_read : {s t r : List ℕ} {a : ℕ} → ReadTablesCall s t a r → no_in a ≢ refusal.not_a_request → number_in a ≡ 0
  pub line_of_read : {s t r : List ℕ} {a : ℕ} → ReadTablesCall s t a r → no_in a ≡ refusal.not_a_request → (1 ≤ number_in a) × (number_in a ≤ line_most)
  -- After any refusal of the writer the room is as it was, and after any of the reader the tables are.
  pub write_unchanged : {t room r : List ℕ} {a : ℕ} → WriteTablesCall t room a r → no_in a ≢ refusal.accepted → r ≡ room
  pub read_unchanged : {s t r : List ℕ} {a : ℕ} → ReadTablesCall s t a r → no_in a ≢ refusal.accepted → r ≡ t

-- Demand 2, of the writer and the reader of tables.
pub record TablesAsText : Type 0 where
  -- Well-formed tables, secure or not, have a text, and one only, since it is defined by what they are;
  pub has_text : (t : List ℕ) → length t ≡ word_count → Small t → WellFormed (tables_of t) → (s : List ℕ) × TextOf s t
  pub one_text : {s r t : List ℕ} → TextOf s t → TextOf r t → s ≡ r
  -- and a text has one table, which is what reading it is good for.
  pub one_table : {s t u : List ℕ} → TextOf s t → TextOf s u → t ≡ u
  -- The text is written where it fits; where it does not, the answer is 17. The number is that of its bytes either way.
  pub written : {s t room r : List ℕ} {b : ℕ} → TextOf s t → WriteTablesCall t room b r → TextWritten s room b r
  -- The writer answers 1 exactly where the words are not 2,304, and 2 exactly where they are and the tables are not well-formed.
  pub write_length : {t room r : List ℕ} {b : ℕ} → WriteTablesCall t room b r → (no_in b ≡ refusal.bad_length) ↔ (length t ≢ word_count)
  pub write_refuses : {t room r : List ℕ} {b : ℕ} → length t ≡ word_count → WriteTablesCall t room b r
      → (no_in b ≡ refusal.not_well_formed) ↔ (WellFormed (tables_of t) → ⊥)
  -- The reader, lent 2,304 words, answers 0 exactly where some well-formed tables have this text.
  pub read_accepts : {s v w : List ℕ} {a : ℕ} → length v ≡ word_count → ReadTablesCall s v a w → (no_in a ≡ refusal.accepted) ↔ ((t : List ℕ) × TextOf s t)
  -- The text of well-formed tables is read, and gives their words;
  pub read : {s t v w : List ℕ} {a : ℕ} → TextOf s t → length v ≡ word_count → ReadTablesCall s v a w → (no_in a ≡ refusal.accepted) × (w ≡ t)
  -- and whatever is read is the text of the words that it gives.
  pub only_read : {s v w : List ℕ} {a : ℕ} → ReadTablesCall s v a w → no_in a ≡ refusal.accepted → TextOf s w
  -- The reader answers 1 exactly where the words to write to are not 2,304.
  pub read_length : {s v w : List ℕ} {a : ℕ} → ReadTablesCall s v a w → (no_in a ≡ refusal.bad_length) ↔ (length v ≢ word_count)
  -- Lent 2,304, it answers 18 exactly where the bytes break the line rules, whatever the tables would be,
  pub read_breaks : {s v w : List ℕ} {a : ℕ} → length v ≡ word_count → ReadTablesCall s v a w → (no_in a ≡ refusal.not_a_request) ↔ (Whole at_first s → ⊥)
  -- and the number is the first line that is bad or missing: the bytes alone settle it.
  pub read_refuses : {s v w : List ℕ} {a : ℕ} → ReadTablesCall s v a w → no_in a ≡ refusal.not_a_request → FirstBad at_first s (number_in a)
  pub read_names : {s v w : List ℕ} {a k : ℕ} → FirstBad at_first s k → length v ≡ word_count → ReadTablesCall s v a w
      → (no_in a ≡ refusal.not_a_request) × (number_in a ≡ k)
  -- It answers 2 exactly where the bytes keep the line rules and no well-formed tables have this text: so the tables that they tell are not well-formed.
  pub read_unformed : {s v w : List ℕ} {a : ℕ} → length v ≡ word_count → ReadTablesCall s v a w
      → (no_in a ≡ refusal.not_well_formed) ↔ (Whole at_first s × ((t : List ℕ) → TextOf s t → ⊥))
  -- A text that is read is written again, byte for byte, from the words that were read, in any room that it fits.
  pub read_then_write : {s v w room r : List ℕ} {a b : ℕ} → ReadTablesCall s v a w → no_in a ≡ refusal.accepted → WriteTablesCall w room b r
      → TextWritten s room b r
  -- Words of 32 bits that are written are read again, word for word, from the bytes that were written.
  pub write_then_read : {t room r v u : List ℕ} {a b : ℕ} → Small t → WriteTablesCall t room b r → no_in b ≡ refusal.accepted → length v ≡ word_count
      → ReadTablesCall (take (number_in b) r) v a u → (no_in a ≡ refusal.accepted) × (u ≡ t)
  -- No text is longer than 17,721 bytes, and one has as many.
  pub longest : {s t : List ℕ} → TextOf s t → length s ≤ longest_text
  pub longest_met : (s t : List ℕ) × TextOf s t × (length s ≡ longest_text)
