-- Document 01, "The refusal ladder"; rule 10.3 in the words of the rules: what holds where a user could read what a reference names. No ladder
-- and no walk is in it.
use Rattle.std.specs.Prelude.{List, ℕ}
use Rattle.model.specs.Level.{AtMost}
use Rattle.model.specs.List.Admitted.{Admitted}
use Rattle.model.specs.Request.Allowed.{Open, Permitted}
use Rattle.model.specs.Request.Conditions.{level_of}
use Rattle.model.specs.Request.Operations.{number_of, to_show}
use Rattle.model.specs.Request.Reference.{Leads}
use Rattle.model.specs.State.WellFormed.{Thing}
use Rattle.model.specs.Tables.Layout.{tables_of}
use Rattle.model.specs.Tables.Words.{clearance, devices}

pub record Readable (t : List ℕ) (u : ℕ) (r : List ℕ) : Type 0 where
  -- rule 10.2: the tables are good, and the user is there and on a device
  pub admitted : Admitted t u
  -- rule 7.7: the names lead by the entities of a way to the entity x
  pub x : ℕ
  pub way : List ℕ
  pub leads : Leads (tables_of t) r way x
  -- rule 7.8: x permits the user to show it
  pub permitted : Permitted (tables_of t) u (number_of to_show) 1 x
  -- rule 7.9: every marked entity on the way is at most the user's clearance
  pub clear : Open (tables_of t) u way
  -- rule 7.10: x is an object or a container
  pub thing : Thing (tables_of t) x
  -- rule 6.10: its level is at most the user's clearance, and at most the level of the user's device
  pub cleared : AtMost (level_of (tables_of t) x) ((tables_of t).user u clearance)
  pub screen : AtMost (level_of (tables_of t) x) (level_of (tables_of t) (devices (tables_of t) u))
