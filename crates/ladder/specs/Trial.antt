-- What a trial of new tables answers and leaves.
use Rattle.std.specs.Prelude.{List, ◌≡◌, ℕ}
use Rattle.model.specs.Basics.Choice.{pick}
use Rattle.model.specs.Request.Refusals as refusal
use Rattle.model.specs.State.Check.{secure_test}
use Rattle.model.specs.Tables.Layout.{tables_of}
use Rattle.model.specs.Tables.Words.{Tables}

-- Rule 7.13: of the words t the tables `new` were tried. The answer r refuses them unless they are secure, and n are the words afterwards.
pub record Tried (new : Tables) (t : List ℕ) (r : ℕ) (n : List ℕ) : Type 0 where
  pub answer : r ≡ pick (secure_test new) refusal.accepted refusal.level_or_roles
  pub kept : r ≡ refusal.accepted → tables_of n ≡ new
  pub unchanged : r ≡ refusal.level_or_roles → n ≡ t
