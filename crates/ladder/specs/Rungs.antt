-- Rungs that several operations on words have alike.
use Rattle.std.specs.Prelude.{[], ◌≡◌, ◌+◌, suc, T}
use Rattle.ladder.specs.JudgeLaws.{free}
use Rattle.model.specs.Basics.Tests.{every}
use Rattle.model.specs.Level.{officer}
use Rattle.model.specs.Request.Asked.{Asked}
use Rattle.model.specs.Request.Conditions.{insecure, lacks, user_absent}
use Rattle.model.specs.Request.Ladder.{refused}
use Rattle.model.specs.Request.Operations.{Op, row_of}
use Rattle.model.specs.Tables.Words.{Tables}
use Rattle.model.specs.Request.Refusals as refusal

-- Rules 6.15 and 6.16: no operands; 11 says that user a is absent, 12 that the requester is no officer
pub record OfOfficers (o : Op) : Type 0 where
  pub bare : (row_of o).operands ≡ []
  pub eleven : (d : Tables) (s : Asked) → refused refusal.no_such_user (row_of o).conditions d s ≡ user_absent d s
  pub twelve : (d : Tables) (s : Asked) → refused refusal.role_missing (row_of o).conditions d s ≡ lacks officer d s

-- Rules 6.6, 6.15 and 6.18: 13, the last condition, says that the tables with the effect are not secure
pub record OnTrial (o : Op) : Type 0 where
  pub thirteen : (d : Tables) (s : Asked) → refused refusal.level_or_roles (row_of o).conditions d s ≡ insecure (row_of o).effect d s
  pub last : T (every 3 (λ j. free (suc (refusal.level_or_roles + j)) (row_of o).conditions))
