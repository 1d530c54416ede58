-- A row of triples that is copied word by word.
use Rattle.std.proofs.Common.{◌∙◌, ap, sym, arith}
use Rattle.std.specs.Prelude.{◌≡◌, ◌+◌, ◌≤◌, ℕ}
use Rattle.model.specs.Tables.Edits.{on_entity, row, word}
use Rattle.model.specs.Tables.Layout.{Bounded}
use Rattle.model.specs.Tables.Words.{Tables, place_count, triple, triples}
use Rattle.op_places.specs.Stored.{copied_to}
use Rattle.rows.specs.NameLaws.{triple_row}
use Rattle.rows.specs.StoreLaws.{stored_more, stored_none, stored_read, stored_whole}

module _ (e c : ℕ) (d : Tables) where
  -- nothing is stored yet
  pub copying_none : d ≡ copied_to e c d 0
  copying_none = stored_none triple triple_row e (triples d c) d 0 (λ j l. absurd (omega arith))

  -- one turn of the loop: a triple is read, as it was, and stored
  pub copying_step : (i x : ℕ) (s n : Tables) → s ≡ copied_to e c d i → x ≡ s.entity c (triple i)
      → n ≡ on_entity e (word (triple i) x) s → n ≡ copied_to e c d (i + 1)
  copying_step i x s n q r z = z ∙ ap (on_entity e (word (triple i) x)) q ∙ stored_more triple triple_row e (triples d c) d i x
      (r ∙ ap (λ (y : Tables). y.entity c (triple i)) q ∙ stored_read triple triple_row e (triples d c) d i c i (omega arith))

  -- the row is copied
  pub copying_done : Bounded d → (i : ℕ) → place_count ≤ i → copied_to e c d i ≡ on_entity e (row triple (triples d c)) d
  copying_done o i h = stored_whole triple triple_row e (triples d c) d i (λ j l. o.triples_out c j (omega arith) ∙ sym (o.triples_out e j (omega arith)))
