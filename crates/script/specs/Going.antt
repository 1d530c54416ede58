-- What a run keeps while it goes: the reports so far are written, and with the run of what is left they are the run of the whole window.
use Rattle.std.specs.Prelude.{Bool, List, ◌++◌, ◌≡◌, ◌-◌, ◌≤◌, ℕ, drop, length}
use Rattle.lines.specs.Onto.{Wrote}
use Rattle.model.specs.Script.Reports.{Report, output}
use Rattle.model.specs.Script.Windows.{Ran, ran}

-- a run after the reports rs
abbrev pub after : List Report → Ran → Ran
after rs n = record { reports = rs ++ n.reports; tables = n.tables; rest = n.rest; line = n.line }

-- The window is s and the tables were t₀; now they are t, the place is at, and n bytes of reports are in the room, which is now out.
pub record Going (t₀ s : List ℕ) (last : Bool) (room t : List ℕ) (at : ℕ) (out : List ℕ) (n : ℕ) : Type 0 where
  pub within : at ≤ length s
  pub fits : n ≤ length room
  pub reports : List Report
  pub so_far : ran t₀ s last (length room) ≡ after reports (ran t (drop at s) last (length room - n))
  pub wrote : Wrote (output reports) room out n
