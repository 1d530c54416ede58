-- The stages of the model's reading, cut where code cuts them: the lines of an entity from that of its places on, those from that of its triples on,
-- and the records of users and of entities in one form.
use Rattle.std.specs.Prelude.{List, suc, zero, ℕ}
use Rattle.model.specs.Tables.Edits.{on_entity, word}
use Rattle.model.specs.Tables.Words.{Tables, used}
use Rattle.model.specs.Text.Lines.{behind}
use Rattle.tables_text.specs.Keys.{places_field, triples_field}
use Rattle.tables_text.specs.Stages.{Stage, either, onward, or_stuck, past, places_stage, triples_stage}
use Rattle.tables_text.specs.Values.{number_line, read_field}

unfoldable pub access_rest : ℕ → Tables → List ℕ → Stage
access_rest e d s = or_stuck s (read_field triples_field s) (λ n x. triples_stage e n 0 d x)

unfoldable pub places_rest : ℕ → Tables → List ℕ → Stage
places_rest e d s = or_stuck s (read_field places_field s) (λ n x. onward (places_stage e n 0 (on_entity e (word used n) d) x) (access_rest e))

-- k records from number n on, each behind the line of its number; `one` reads the rest of a record
unfoldable pub records_stage : List ℕ → (ℕ → Tables → List ℕ → Stage) → ℕ → ℕ → Tables → List ℕ → Stage
records_stage key one zero n d s = past d s
records_stage key one (suc k) n d s =
    either (behind (number_line key n) s) (λ _ x. onward (one n d x) (records_stage key one k (suc n))) (records_stage key one k (suc n) d s)
