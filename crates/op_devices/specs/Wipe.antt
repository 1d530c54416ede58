-- A screen that is emptied place by place.
use Rattle.std.specs.Prelude.{ℕ}
use Rattle.model.specs.Tables.Words.{Tables, place, shown}
use Rattle.rows.specs.Rows.{stored_to}

-- what stands on the device v and how much of it is shown, zero in the places before i
abbrev pub wiped_to : ℕ → Tables → ℕ → Tables
wiped_to v d i = stored_to place v (λ j. 0) (stored_to shown v (λ j. 0) d i) i
