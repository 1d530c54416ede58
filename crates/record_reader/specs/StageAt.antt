-- What a reading of some lines answers, and the tables that it leaves, in the terms of the model's stages.
use Rattle.std.specs.Prelude.{List, ◌≡◌, Result, Ok, Err, ◌≤◌, ℕ, drop, length}
use Rattle.model.specs.Tables.Layout.{tables_of}
use Rattle.model.specs.Tables.Words.{Tables}
use Rattle.record_reader.specs.declared.records.Stuck.{Stuck}
use Rattle.tables_text.specs.Stages.{Stage, past, stuck}

-- what an answer says of the bytes s, with the tables d
abbrev pub stage_of : List ℕ → Tables → Result ℕ Stuck → Stage
stage_of s d (Ok i) = past d (drop i s)
stage_of s d (Err k) = stuck (drop k.0 s)

-- where reading goes on, or has stopped
abbrev pub index_of : Result ℕ Stuck → ℕ
index_of (Ok i) = i
index_of (Err k) = k.0

-- Rule 16.5: the answer r of a reading g of the bytes s, which has left the words t, and it leads no further than to the end of the bytes.
pub record StageAt (s : List ℕ) (g : Stage) (t : List ℕ) (r : Result ℕ Stuck) : Type 0 where
  pub is : g ≡ stage_of s (tables_of t) r
  pub within : index_of r ≤ length s
