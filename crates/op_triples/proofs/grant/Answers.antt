use Rattle.std.proofs.Common.{arith}
use Rattle.op_triples.specs.GrantLaws.{grant_full_lem, grant_new, grant_there, grant_wrong}
use Rattle.op_triples.specs.NamedLaws.{grant_named}
use Rattle.op_triples.proofs.grant.Goals as goal

pub returns-then-not-is_any : goal.returns-then-not-is_any
returns-then-not-is_any c = grant_wrong _ _ _ _ c.requires _ c.is_any.ensures c.if-not-is_any.true

pub named_triple-x-requires : goal.named_triple-x-requires
named_triple-x-requires c = grant_named _ _ _ c.requires.0

pub returns-then-triple_place-lt-TRIPLES : goal.returns-then-triple_place-lt-TRIPLES
returns-then-triple_place-lt-TRIPLES c =
    grant_there _ _ _ _ c.requires _ c.is_any.ensures c.if-not-is_any.false _ _ c.named_triple-x.ensures
    c.triple_place.ensures (omega arith)

pub returns-then-n-ge-TRIPLES : goal.returns-then-n-ge-TRIPLES
returns-then-n-ge-TRIPLES c =
    grant_full_lem _ _ _ _ c.requires _ c.is_any.ensures c.if-not-is_any.false _ _ c.named_triple-x.ensures
    c.triple_place.ensures (omega arith) _ c.triple_place-n.ensures (omega arith)

pub returns : goal.returns
returns c =
    grant_new _ _ _ _ c.requires _ c.is_any.ensures c.if-not-is_any.false _ _ c.named_triple-x.ensures
    c.triple_place.ensures (omega arith) _ c.triple_place-n.ensures _ (omega arith) c.set_triple.ensures
