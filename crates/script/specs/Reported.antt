-- A report of the code and a report of the model are the same three numbers.
use Rattle.std.specs.Prelude.{List, ◌≡◌, ℕ}
use Rattle.model.specs.Request.Step.{after_of}
use Rattle.model.specs.Script.Reports as model
use Rattle.model.specs.Tables.Layout.{tables_of}
use Rattle.model.specs.Tables.Words.{held, missed}
use Rattle.script.specs.declared.reports.Report.{Report}

abbrev pub in_code : model.Report → Report
in_code r = record { answer = r.answer; held = r.held; missed = r.missed }

abbrev pub from_code : Report → model.Report
from_code r = record { answer = r.answer; held = r.held; missed = r.missed }

-- the report of the answer a, and of what the user u holds in the tables t
abbrev pub holding : List ℕ → ℕ → ℕ → Report
holding t u a = record { answer = a; held = (tables_of t).user u held; missed = (tables_of t).user u missed }

-- Rule 12.3: r reports the request q on the tables t, which are now n.
pub record Settled (t q : List ℕ) (r : Report) (n : List ℕ) : Type 0 where
  pub reported : r ≡ in_code (model.report t q)
  pub words : n ≡ after_of t q
