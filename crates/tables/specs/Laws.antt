-- A word is read where it stands, and stored where it stands.
use Rattle.std.specs.Prelude.{Bool, ◌&&◌, false, true, List, ◌≡◌, ◌*◌, ◌+◌, ◌-◌, ◌<◌, ℕ, eqb, leb, ltb, set}
use Rattle.std.proofs.Common.{◌∙◌, arith, eqb→eq}
use Rattle.std.proofs.Math.Path.{ap, refl, sym}
use Rattle.std.proofs.Math.ListN.{get_or}
use Rattle.model.specs.Basics.Agree.{every_at}
use Rattle.model.specs.Basics.Choice.{pick}
use Rattle.model.specs.Basics.Tests.{every}
use Rattle.names.specs.declared.row.Row.{Row}
use Rattle.names.specs.declared.row.Row.TheVariants.{Places, Sums, Triples}
use Rattle.names.specs.Rows.{row_number}
use Rattle.model.specs.Tables.Edits.{on_entity, on_user, user_word, word}
use Rattle.model.specs.Tables.Layout.{entities_from, entity_at, entity_in, entity_width, offset, tables_of, user_at, user_in, user_offset, user_width}
use Rattle.model.specs.Tables.LayoutLaws.{entity_set, user_set}
use Rattle.model.specs.Tables.RangeLaws.{guard_in, in_entity, in_user}
use Rattle.model.specs.Tables.WordAt.{entity_word_at, user_word_at}
use Rattle.model.specs.Tables.WordAtLaws.{entity_word_back, index_below, offset_at, user_offset_at, user_word_back}
use Rattle.model.specs.Tables.Words.{EntityWord, entity_count, index, place_count, user_count}
use Rattle.tables.specs.Records.{RecordLaws, spot}
use Rattle.tables.specs.Singles.{EntityIn, UserIn, entity_single, has_record, row_word, single_count, user_single}

-- the single words are the first ones
user_single_at : (f : ℕ) → f < single_count → user_word_at f ≡ user_single f
unfolding every
user_single_at f h =
    let e : user_offset (user_single f) ≡ f = eqb→eq _ _ (every_at single_count (λ i. eqb (user_offset (user_single i)) i) tt f h) in
    ap user_word_at (sym e) ∙ user_word_back (user_single f)

entity_single_at : (f : ℕ) → f < single_count → entity_word_at f ≡ entity_single f
unfolding every
entity_single_at f h =
    let e : offset (entity_single f) ≡ f = eqb→eq _ _ (every_at single_count (λ i. eqb (offset (entity_single i)) i) tt f h) in
    let z : index (entity_single f) ≡ 0 = eqb→eq _ _ (every_at single_count (λ i. eqb (index (entity_single i)) 0) tt f h) in
    ap entity_word_at (sym e) ∙ entity_word_back (entity_single f) (omega (arith, z))

-- the words of a row stand after the single ones, row after row
row_offset : (r : Row) (i : ℕ) → offset (row_word r i) ≡ single_count + row_number r * place_count + i
row_offset Places i = omega arith
row_offset Sums i = omega arith
row_offset Triples i = omega arith

row_index : (r : Row) (i : ℕ) → index (row_word r i) ≡ i
row_index Places i = refl
row_index Sums i = refl
row_index Triples i = refl

pub row_at : (r : Row) (i : ℕ) → i < place_count → entity_word_at (single_count + row_number r * place_count + i) ≡ row_word r i
row_at r i l = rw (← row_offset r i) (entity_word_back (row_word r i) (omega (arith, row_index r i)))

-- any of the words of a user stands at its place, is read there and is stored there
user_spot : (u f : ℕ) → f < user_width → user_at u (user_word_at f) ≡ spot 0 user_width u f
user_spot u f h = omega (arith, user_offset_at f h)

user_read : (t : List ℕ) (u f : ℕ) → UserIn t u → f < user_width → get_or t (spot 0 user_width u f) 0 ≡ (tables_of t).user u (user_word_at f)
unfolding tables_of
user_read t u f i h = rw (← user_spot u f h)
    (sym (guard_in (user_in u (user_word_at f)) _ (in_user u (user_word_at f) (omega (arith, user_offset_at f h)) i.1 i.2)))

user_store : (t : List ℕ) (u f v : ℕ) → UserIn t u → f < user_width
    → tables_of (set t (spot 0 user_width u f) v) ≡ on_user u (user_word (user_word_at f) v) (tables_of t)
user_store t u f v i h = rw (← user_spot u f h) (user_set t i.0 u (user_word_at f) v i.1 i.2 (omega (arith, user_offset_at f h)))

-- and so of an entity
entity_spot : (e f : ℕ) → f < entity_width → entity_at e (entity_word_at f) ≡ spot entities_from entity_width e f
entity_spot e f h = ap (λ (k : ℕ). entities_from + (e - 1) * entity_width + k) (offset_at f h)

entity_read : (t : List ℕ) (e f : ℕ) → EntityIn t e → f < entity_width
    → get_or t (spot entities_from entity_width e f) 0 ≡ (tables_of t).entity e (entity_word_at f)
unfolding tables_of
entity_read t e f i h = rw (← entity_spot e f h)
    (sym (guard_in (entity_in e (entity_word_at f)) _ (in_entity e (entity_word_at f) i.1 i.2 (index_below f h))))

entity_store : (t : List ℕ) (e f v : ℕ) → EntityIn t e → f < entity_width
    → tables_of (set t (spot entities_from entity_width e f) v) ≡ on_entity e (word (entity_word_at f) v) (tables_of t)
entity_store t e f v i h = rw (← entity_spot e f h) (entity_set t i.0 e (entity_word_at f) v i.1 i.2 (index_below f h))

-- what the two kinds of record prove
pub user_laws : RecordLaws 0 user_width user_count user_word_at user_single (λ d. d.user) (λ u f v. on_user u (user_word f v))
user_laws = record {
  inside = λ n f l m h. omega arith;
  reads = user_read;
  stores = user_store;
  singles = λ f h. (omega arith, user_single_at f h);
}

pub entity_laws : RecordLaws entities_from entity_width entity_count entity_word_at entity_single (λ d. d.entity) (λ e f v. on_entity e (word f v))
entity_laws = record {
  inside = λ n f l m h. omega arith;
  reads = entity_read;
  stores = entity_store;
  singles = λ f h. (omega arith, entity_single_at f h);
}

-- the words of an entity of any other number are zero
pub entity_absent : (t : List ℕ) (e : ℕ) (f : EntityWord) → has_record entity_count e ≡ false → 0 ≡ (tables_of t).entity e f
unfolding tables_of
entity_absent t e f h = go (leb 1 e) (leb e entity_count) h
  where
    go : (a b : Bool) → (a && b) ≡ false → 0 ≡ pick (a && (b && ltb (index f) place_count)) (get_or t (entity_at e f) 0) 0
    go true true q = cc
    go true false q = refl
    go false b q = refl
