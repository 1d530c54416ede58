-- The three rows of an entity, which words are theirs, and what stands in them.
use Rattle.std.proofs.Common.{◌∙◌, sym, arith}
use Rattle.std.specs.Prelude.{◌≡◌, refl, ◌<◌, ◌≤◌, ℕ}
use Rattle.model.specs.State.WellFormed.{WellFormed}
use Rattle.model.specs.Tables.Layout.{Bounded}
use Rattle.model.specs.Tables.WordAtLaws.{entity_word_same}
use Rattle.model.specs.Tables.Words.{EntityWord, Tables, entity_count, index, place, place_count, places, shown, tag, triple, used_places}
use Rattle.names.specs.declared.row.Row.{Row}
use Rattle.names.specs.declared.row.Row.TheVariants.{Places, Sums, Triples}
use Rattle.rows.specs.Rows.{RowName, row_in}
use Rattle.tables.specs.Singles.{row_word}

-- places, what is shown of them, and triples
pub place_row : RowName place
place_row = record { one_tag = λ k. refl; counted = λ k. refl }

pub shown_row : RowName shown
shown_row = record { one_tag = λ k. refl; counted = λ k. refl }

pub triple_row : RowName triple
triple_row = record { one_tag = λ k. refl; counted = λ k. refl }

-- any of the three, and that they are zero after their last word
pub row_name : (r : Row) → RowName (row_word r)
row_name Places = place_row
row_name Sums = shown_row
row_name Triples = triple_row

pub row_out : (r : Row) (d : Tables) → Bounded d → (e i : ℕ) → place_count ≤ i → row_in (row_word r) d e i ≡ 0
row_out Places d b = b.places_out
row_out Sums d b = b.shown_out
row_out Triples d b = b.triples_out

-- a place that is used holds the number of an entity
pub place_inside : (d : Tables) → WellFormed d → (e i : ℕ) → i < used_places d e → (1 ≤ places d e i) × (places d e i ≤ entity_count)
place_inside d w e i h = let k = w.links.contents e (places d e i) (i, h, refl) in w.entity_numbers (places d e i) (λ q. omega (arith, k))

-- a word of the row's tag is the one of the row at its place
pub row_word_lem : (f : ℕ → EntityWord) → RowName f → (g : EntityWord) → tag g ≡ tag (f 0) → f (index g) ≡ g
row_word_lem f n g q = sym (entity_word_same g (f (index g)) (q ∙ sym (n.one_tag (index g))) (sym (n.counted (index g))))
