-- Document 01, "The request and its operations"; rules 6.1 to 6.3: the effects on what stands in containers.
use Rattle.std.specs.Prelude.{suc, ℕ, eqb}
use Rattle.model.specs.Basics.Choice.{pick}
use Rattle.model.specs.Tables.Edits.{Edit, ◌and◌, blank, on_entities, on_entity, row, word}
use Rattle.model.specs.Tables.Rows.{left, replace, seek, without}
use Rattle.model.specs.Tables.Words.{EntityWord, Tables, absent_kind, container_kind, draft_type, entity_count, kind, kinds, level}
use Rattle.model.specs.Tables.Words.{object_kind, place, places, plain_type, shown, sums, triple, triples, type, used, used_places}

-- Rule 6, put last: e stands in the next place of c, with the sum s shown of it.
abbrev pub putting : ℕ → ℕ → ℕ → Tables → Edit EntityWord
putting c e s d = word used (suc (used_places d c)) and row place (replace (used_places d c) e (places d c)) and row shown
    (replace (used_places d c) s (sums d c))

abbrev pub put : ℕ → ℕ → ℕ → Tables → Tables
put c e s d = on_entity c (putting c e s d) d

-- Rule 6, closing up: e leaves the container that it is in.
abbrev pub leaving : ℕ → Tables → ℕ → Edit EntityWord
leaving e d x = word used (left e (places d x) (used_places d x)) and row place (without e (places d x) (used_places d x))

abbrev pub leave : ℕ → Tables → Tables
leave e d = on_entities (λ x. eqb (kinds d x) container_kind) (leaving e d) d

-- Rule 6.1: a record at the number e: kind k, type t, level l, and the access of c; all else is zero there.
abbrev pub bearing : ℕ → ℕ → ℕ → ℕ → Tables → Edit EntityWord
bearing c k t l d = word kind k and word type t and word level l and row triple (triples d c)

abbrev pub fresh : ℕ → ℕ → ℕ → ℕ → ℕ → Tables → Tables
fresh e c k t l d = on_entity e (bearing c k t l d) d

-- Rule 6.1: the lowest absent number; 65 where there is none.
abbrev pub vacant : Tables → ℕ
vacant d = suc (seek absent_kind (λ i. kinds d (suc i)) entity_count)

-- Rule 6.1: the sorts 1 object, 2 container, 3 draft, as kinds and types.
abbrev pub object_sort : ℕ
object_sort = 1

abbrev pub draft_sort : ℕ
draft_sort = 3

abbrev pub sort_kind : ℕ → ℕ
sort_kind s = pick (eqb s object_sort) object_kind container_kind

abbrev pub sort_type : ℕ → ℕ
sort_type s = pick (eqb s draft_sort) draft_type plain_type

-- Rule 6.1: a new entity at the number e, last in c.
abbrev pub create : ℕ → ℕ → ℕ → ℕ → ℕ → Tables → Tables
create e c k t l d = put c e 0 (fresh e c k t l d)

-- Rule 6.2: the record of e is zeroed.
abbrev pub erase : ℕ → Tables → Tables
erase e = on_entity e blank

-- Rule 6.2: e is gone, and later places close up.
abbrev pub delete : ℕ → Tables → Tables
delete e d = erase e (leave e d)

-- Rule 6.3: e is taken out where it stands, and put last in c.
abbrev pub move : ℕ → ℕ → Tables → Tables
move e c d = put c e 0 (leave e d)
