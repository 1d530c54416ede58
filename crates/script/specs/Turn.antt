-- Rules 12.2 to 12.4: one turn of a script s at a place, on the tables t.
use Rattle.std.specs.Prelude.{List, ◌≡◌, ◌-◌, ◌≤◌, ℕ, drop, length}
use Rattle.model.specs.Request.Step.{after_of}
use Rattle.model.specs.Script.Reports.{report, unread}
use Rattle.model.specs.State.Check.{check}
use Rattle.model.specs.Text.Wording.{Lines, bad_line, lines, read_seven, sixteen}
use Rattle.script.specs.Reported.{in_code}
use Rattle.script.specs.declared.reports.Report.{Report}
use Rattle.script.specs.declared.turns.Place.{Place}
use Rattle.script.specs.declared.turns.Turned.{Turned}

-- What reading the next seven lines gives, as a turn: n is the script's length, of which x is left.
abbrev pub turned_by : List ℕ → ℕ → Place → Lines → Turned
turned_by t n p (lines m x) = record { place = record { at = n - length x; line = 0 }; report = in_code (report t (sixteen m)) }
turned_by t n p (bad_line k) = record { place = record { at = p.at; line = k }; report = in_code unread }

-- The tables afterwards: those after this one request, and no other.
abbrev pub left_by : List ℕ → Lines → List ℕ
left_by t (lines m x) = after_of t (sixteen m)
left_by t (bad_line k) = t

abbrev pub turned_of : List ℕ → List ℕ → Place → Turned
turned_of t s p = turned_by t (length s) p (read_seven (drop p.at s))

abbrev pub left_of : List ℕ → List ℕ → Place → List ℕ
left_of t s p = left_by t (read_seven (drop p.at s))

-- What a turn asks: the place is within the script, and c is what the check says of the tables. So the turn need not check them again.
pub record TurnReady (t s : List ℕ) (p : Place) (c : ℕ) : Type 0 where
  pub within : p.at ≤ length s
  pub said : c ≡ check t

-- A turn by value gives r, and leaves the tables u.
pub record Turns (t s : List ℕ) (p : Place) (r : Turned) (u : List ℕ) : Type 0 where
  pub turned : r ≡ turned_of t s p
  pub left : u ≡ left_of t s p

-- The same turn on a lent place gives the report r, and leaves the place q and the tables u.
pub record TurnsLent (t s : List ℕ) (p : Place) (r : Report) (q : Place) (u : List ℕ) : Type 0 where
  pub told : r ≡ (turned_of t s p).report
  pub place : q ≡ (turned_of t s p).place
  pub left : u ≡ left_of t s p

-- The request q was read up to the index i: its turn gives r, and leaves the tables u.
pub record SettledTo (t q : List ℕ) (i : ℕ) (r : Turned) (u : List ℕ) : Type 0 where
  pub turned : r ≡ record { place = record { at = i; line = 0 }; report = in_code (report t q) }
  pub left : u ≡ after_of t q
