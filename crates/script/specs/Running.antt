-- What the run of a window promises: it is the model's (`Script/Windows`), its reports stand at the front of the room, and its place is where
-- the model's run leaves off.
use Rattle.std.specs.Prelude.{Bool, ◌&&◌, false, not, true, List, ◌≡◌, ◌-◌, ℕ, drop, length}
use Rattle.lines.specs.Onto.{Puts, Wrote}
use Rattle.model.specs.Script.Reports.{output, report_text}
use Rattle.model.specs.Script.Windows.{ran}
use Rattle.model.specs.Text.Unfinished.{unfinished}
use Rattle.script.specs.Reported.{from_code}
use Rattle.script.specs.declared.runs.Ran.{Ran}
use Rattle.script.specs.declared.turns.Turned.{Turned}

-- Rules 12.2 to 12.4: the run r of the script s on the tables t, which are now u, with its reports in the room, which is now out.
pub record RunsOn (t s : List ℕ) (last : Bool) (room : List ℕ) (r : Ran) (u out : List ℕ) : Type 0 where
  pub tables : u ≡ (ran t s last (length room)).tables
  pub place : r.place ≡ record { at = length s - length (ran t s last (length room)).rest; line = (ran t s last (length room)).line }
  pub wrote : Wrote (output (ran t s last (length room)).reports) room out r.bytes

-- The end of a run at a request that could not be read, at an index of s, with n bytes of reports in the room: nothing more where it may be
-- unfinished, and else the report of the turn x.
pub record Halts (s : List ℕ) (last : Bool) (room : List ℕ) (n at : ℕ) (x : Turned) (r : Ran) (out : List ℕ) : Type 0 where
  pub waits : (not last && unfinished (drop at s)) ≡ true → (r ≡ record { place = record { at = at; line = 0 }; bytes = n }) × (out ≡ room)
  pub stops : (not last && unfinished (drop at s)) ≡ false → (r.place ≡ x.place) × Puts (report_text (from_code x.report)) room n out r.bytes
