use Rattle.std.proofs.Common.{refl, rules}
use Rattle.laws.specs.Ranges.{each_all}
use Rattle.model.specs.State.Tests.{user_test}
use Rattle.model.specs.Tables.Layout.{tables_of}
use Rattle.state.proofs.users.users_fine.Goals as goal

pub returns : goal.returns
returns c = each_all _ _ _ _ _ (λ u. user_test ((tables_of c.args.t.now).user u)) c.all.ensures.ran refl (λ x b q k. search rules)
