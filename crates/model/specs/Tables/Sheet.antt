-- A sheet: tables written as short lists, each the first words of a record in the order of the layout; the rest is zero.
use Rattle.std.specs.Prelude.{List, [], ◌++◌, ◌∷◌, ◌-◌, suc, zero, ℕ, get_or}
use Rattle.model.specs.Basics.Choice.{pick}
use Rattle.model.specs.Tables.Layout.{entity_in, entity_width, offset, user_in, user_offset, user_width}
use Rattle.model.specs.Tables.Words.{Tables, entity_count, user_count}

pub record Sheet : Type 0 where
  pub users : List (List ℕ)
  pub entities : List (List ℕ)

-- word j of record x, of records numbered from 1
abbrev pub record_word : List (List ℕ) → ℕ → ℕ → ℕ
record_word l x j = get_or (get_or l (x - 1) []) j 0

-- the tables of a sheet
unfoldable pub sheet_tables : Sheet → Tables
sheet_tables s = record {
  user = λ u f. pick (user_in u f) (record_word s.users u (user_offset f)) 0;
  entity = λ e f. pick (entity_in e f) (record_word s.entities e (offset f)) 0;
}

-- exactly n words: the first n of the list, zeros after it
unfoldable pub padded : ℕ → List ℕ → List ℕ
padded zero l = []
padded (suc n) [] = 0 ∷ padded n []
padded (suc n) (x ∷ l) = x ∷ padded n l

-- n records of w words, one after the other
unfoldable pub padded_records : ℕ → ℕ → List (List ℕ) → List ℕ
padded_records zero w l = []
padded_records (suc n) w [] = padded w [] ++ padded_records n w []
padded_records (suc n) w (r ∷ l) = padded w r ++ padded_records n w l

-- the 2,304 words of a sheet: its users', then its entities'
abbrev pub sheet_users : Sheet → List ℕ
sheet_users s = padded_records user_count user_width s.users

abbrev pub sheet_entities : Sheet → List ℕ
sheet_entities s = padded_records entity_count entity_width s.entities

unfoldable pub sheet_words : Sheet → List ℕ
sheet_words s = sheet_users s ++ sheet_entities s
