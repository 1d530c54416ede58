use Rattle.model.specs.Tables.Layout.{tables_of}
use Rattle.model.specs.Tables.Words.{triples}
use Rattle.state.specs.RowLaws.{triple_last, triple_named, triple_next, triple_unnamed}
use Rattle.state.proofs.access.triple_fine.Goals as goal

pub returns-then-i-ge-LAST_TRIPLE : goal.returns-then-i-ge-LAST_TRIPLE
returns-then-i-ge-LAST_TRIPLE c =
    triple_last (triples (tables_of c.args.t.now) c.args.e.0) _ _ c.triple-x.ensures c.if-x-eq0.true
    c.if-i-ge-LAST_TRIPLE.true

pub returns-then-x-eq0 : goal.returns-then-x-eq0
returns-then-x-eq0 c =
    triple_next (triples (tables_of c.args.t.now) c.args.e.0) _ _ c.triple-x.ensures
    c.if-x-eq0.true c.if-i-ge-LAST_TRIPLE.false _ c.triple.ensures

pub returns-then-not-named : goal.returns-then-not-named
returns-then-not-named c =
    triple_unnamed (triples (tables_of c.args.t.now) c.args.e.0) _ _ c.triple-x.ensures
    c.if-x-eq0.false _ c.named.ensures c.if-not-named.true

pub returns : goal.returns
returns c =
    triple_named (triples (tables_of c.args.t.now) c.args.e.0) _ _ c.triple-x.ensures c.if-x-eq0.false _
    c.named.ensures c.if-not-named.false _ c.triple_unlike.ensures
