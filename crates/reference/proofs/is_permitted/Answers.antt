use Rattle.std.proofs.Common.{rules, tests, refl, Bool, ℕ, ◌∙◌}
use Rattle.std.proofs.lemmas.Iterator.{YieldsList-from_range}
use Rattle.std.proofs.lemmas.Iterator.Search.{any_from_yields_List}
use Rattle.model.specs.Tables.Layout.{tables_of}
use Rattle.model.specs.Tables.Words.{place_count, triples}
use Rattle.reference.specs.ChainLaws.{some_chain}
use Rattle.reference.specs.TripleLaws.{permits_some}
use Rattle.reference.specs.Ways.{admits}
use Rattle.reference.proofs.is_permitted.Goals as goal

pub returns : goal.returns
returns c =
    let a = c.args in
    let d = tables_of a.t.now in
    let admitting : ℕ → Bool = λ i. admits a.u.0 c.current-roles.result c.key_of-key.result (triples d a.e.0 i) in
    any_from_yields_List admitting _ _ _ c.any.ensures.ran (YieldsList-from_range 0 place_count place_count refl refl)
    (λ x b q k. search (rules, tests))
    ∙ some_chain place_count admitting
    ∙ rw (c.key_of-key.ensures, c.current-roles.ensures) (permits_some d a.u.0 a.op a.position a.e.0 c.requires.2 c.requires.3)
