use Rattle.std.proofs.Common.{sym, ◌∙◌}
use Rattle.model.specs.Tables.Layout.{tables_of}
use Rattle.record_writer.specs.ChainLaws.{entity_puts, entity_room, entity_room2, entity_room3, entity_room4, entity_room5}
use Rattle.model.specs.Tables.Words.{triples}
use Rattle.tables_text.proofs.EntityLaws.{count_most}
use Rattle.tables_text.proofs.ToldLaws.{entity_absent}
use Rattle.lines.specs.AddsLaws.{adds_none}
use Rattle.record_writer.proofs.entities.put_entity.Goals as goal

pub returns-then-kind-eq-ABSENT : goal.returns-then-kind-eq-ABSENT
returns-then-kind-eq-ABSENT c =
    rw (entity_absent (tables_of c.args.tables.now) c.args.e.0 (sym c.kind.ensures ∙ c.if-kind-eq-ABSENT.true))
    (adds_none c.args.out.now)

pub put_line-requires : goal.put_line-requires
put_line-requires c =
    entity_room (tables_of c.args.tables.now) c.args.e.0 c.args.out.now
    (λ q. c.if-kind-eq-ABSENT.false (c.kind.ensures ∙ q)) c.requires.2

pub put_entity_lines-requires : goal.put_entity_lines-requires
put_entity_lines-requires c = (
  c.requires.0,
  entity_room2 (tables_of c.args.tables.now) c.args.e.0 c.args.out.now
      (λ q. c.if-kind-eq-ABSENT.false (c.kind.ensures ∙ q)) c.requires.2 c.put_line.ensures,
)

pub put_places-requires : goal.put_places-requires
put_places-requires c = (
  c.requires.0,
  rw c.used.ensures c.requires.1,
  rw c.used.ensures (entity_room3 (tables_of c.args.tables.now) c.args.e.0
      c.args.out.now (λ q. c.if-kind-eq-ABSENT.false (c.kind.ensures ∙ q)) c.requires.2 c.put_line.ensures
      c.put_entity_lines.ensures),
)

pub put_line-requires-2 : goal.put_line-requires-2
put_line-requires-2 c =
    rw c.triple_place-n.ensures (entity_room4 (tables_of c.args.tables.now) c.args.e.0 c.args.out.now
    (λ q. c.if-kind-eq-ABSENT.false (c.kind.ensures ∙ q)) c.requires.2 c.put_line.ensures c.put_entity_lines.ensures
    (rw c.used.ensures at c.put_places.ensures))

pub put_triples-requires : goal.put_triples-requires
put_triples-requires c = (
  c.requires.0,
  rw c.triple_place-n.ensures (count_most (triples (tables_of c.args.tables.now) c.args.e.0)),
  rw c.triple_place-n.ensures
      (entity_room5 (tables_of c.args.tables.now) c.args.e.0 c.args.out.now
      (λ q. c.if-kind-eq-ABSENT.false (c.kind.ensures ∙ q)) c.requires.2 c.put_line.ensures c.put_entity_lines.ensures
      (rw c.used.ensures at c.put_places.ensures) (rw c.triple_place-n.ensures at c.put_line-2.ensures)),
)

pub returns : goal.returns
returns c =
    entity_puts (tables_of c.args.tables.now) c.args.e.0 c.args.out.now
    (λ q. c.if-kind-eq-ABSENT.false (c.kind.ensures ∙ q)) c.requires.2 c.put_line.ensures c.put_entity_lines.ensures
    (rw c.used.ensures at c.put_places.ensures) (rw c.triple_place-n.ensures at c.put_line-2.ensures)
    (rw c.triple_place-n.ensures at c.put_triples.ensures)
