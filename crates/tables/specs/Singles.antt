-- The single words of a record by their place, and what a reader asks of the words and of a number.
use Rattle.std.specs.Prelude.{Bool, ◌&&◌, not, List, [], ◌∷◌, ◌≡◌, ◌≤◌, ℕ, eqb, leb, get_or, length}
use Rattle.names.specs.declared.row.Row.{Row}
use Rattle.names.specs.declared.row.Row.TheVariants.{Places, Sums, Triples}
use Rattle.model.specs.Tables.Layout.{word_count}
use Rattle.model.specs.Tables.Words.{EntityWord, Tables, UserWord, authorised, clearance, used, current, device, entity_count, held, held_op, kind}
use Rattle.model.specs.Tables.Words.{level, mark, maximum, missed, place, present, releaser, shown, triple, type, user_count, value}

-- as many words of a record stand alone, before its rows
abbrev pub single_count : ℕ
single_count = 8

-- word i of a row of an entity
abbrev pub row_word : Row → ℕ → EntityWord
row_word Places i = place i
row_word Sums i = shown i
row_word Triples i = triple i

-- the first eight words of a user
abbrev pub user_single : ℕ → UserWord
user_single f = get_or (present ∷ clearance ∷ authorised ∷ current ∷ device ∷ held ∷ held_op ∷ missed ∷ []) f present

-- the first eight words of an entity
abbrev pub entity_single : ℕ → EntityWord
entity_single f = get_or (kind ∷ type ∷ level ∷ mark ∷ value ∷ releaser ∷ maximum ∷ used ∷ []) f kind

-- n is the number of one of so many records
abbrev pub has_record : (count n : ℕ) → Bool
has_record count n = leb 1 n && leb n count

-- the tables are whole, and n is such a number
abbrev pub RecordIn : ℕ → List ℕ → ℕ → Type 0
RecordIn count t n = (length t ≡ word_count) × (1 ≤ n) × (n ≤ count)

-- the tables are whole, and u is the number of a user's record
abbrev pub UserIn : List ℕ → ℕ → Type 0
UserIn = RecordIn user_count

-- the tables are whole, and e is the number of an entity's record
abbrev pub EntityIn : List ℕ → ℕ → Type 0
EntityIn = RecordIn entity_count

-- Rule 7.4: n is the number of a user who is there
unfoldable pub known : Tables → ℕ → Bool
known d n = has_record user_count n && not (eqb (d.user n present) 0)
