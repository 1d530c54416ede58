use Rattle.tables_writer.specs.EndLaws.{form_fine, form_insecure, form_other}
use Rattle.tables_writer.proofs.formed.Goals as goal

pub returns-in_default : goal.returns-in_default
returns-in_default c = form_fine _ c.in_default.ensures

pub returns-in-NotSecure : goal.returns-in-NotSecure
returns-in-NotSecure c = form_insecure _ (rw c.in-NotSecure.is at c.in-Err.ensures)

pub returns-in_default-refusal : goal.returns-in_default-refusal
returns-in_default-refusal c = form_other _ _ c.in_default-refusal.not-NotSecure c.in-Err.ensures
