use Rattle.std.proofs.Common.{arith}
use Rattle.op_triples.specs.NamedLaws.{revoke_named}
use Rattle.op_triples.specs.RevokeLaws.{revoke_none, revoke_out, revoke_wrong}
use Rattle.op_triples.proofs.revoke.Goals as goal

pub returns-then-not-is_any : goal.returns-then-not-is_any
returns-then-not-is_any c = revoke_wrong _ _ _ _ c.requires _ c.is_any.ensures c.if-not-is_any.true

pub named_triple-requires : goal.named_triple-requires
named_triple-requires c = revoke_named _ _ _ c.requires.0

pub returns-then-k-ge-TRIPLES : goal.returns-then-k-ge-TRIPLES
returns-then-k-ge-TRIPLES c =
    revoke_none _ _ _ _ c.requires _ c.is_any.ensures c.if-not-is_any.false _ _ c.named_triple.ensures
    c.triple_place-k.ensures (omega arith)

pub returns : goal.returns
returns c =
    revoke_out _ _ _ _ c.requires _ c.is_any.ensures c.if-not-is_any.false _ _ c.named_triple.ensures c.triple_place-k.ensures _
    c.close_triples.ensures
