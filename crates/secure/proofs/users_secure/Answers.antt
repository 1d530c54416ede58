use Rattle.std.proofs.Common.{refl, rules}
use Rattle.laws.specs.Ranges.{each_all}
use Rattle.model.specs.Tables.Layout.{tables_of}
use Rattle.secure.specs.Secured.{user_secure}
use Rattle.secure.proofs.users_secure.Goals as goal

pub returns : goal.returns
returns c = each_all _ _ _ _ _ (user_secure (tables_of c.args.t.now)) c.all.ensures.ran refl (λ x b q k. search rules)
