use Rattle.std.proofs.lemmas.Grind.{common_steps}
use Rattle.std.proofs.Common.{arith, ℕ, sym, ◌≡◌, ◌∙◌}
use Rattle.tables_reader.specs.WholeLaws.{blank_is, line_small, reads_formed, reads_length, reads_stuck, reads_unformed, refused_formed}
use Rattle.std.specs.Prelude.{Err, true, false}
use Rattle.names.specs.declared.refusal.Refusal.TheVariants.{NotWellFormed}
use Rattle.tables_reader.proofs.read_tables.Goals.{Then-eq}
use Rattle.tables_reader.proofs.read_tables.Goals as goal

pub returns-then-tables-ne-TABLE_WORDS : goal.returns-then-tables-ne-TABLE_WORDS
returns-then-tables-ne-TABLE_WORDS c = rw c.from.ensures (reads_length _ _ c.if-tables-ne-TABLE_WORDS.true)

pub fill-requires : goal.fill-requires
fill-requires c = blank_is

pub line_at-requires : goal.line_at-requires
line_at-requires c = (c.in-Err.ensures.within, line_small c.in-Err.ensures)

pub returns-in-Err : goal.returns-in-Err
returns-in-Err c = reads_stuck c.if-tables-ne-TABLE_WORDS.false c.in-Err.ensures c.line_at.ensures

pub returns-then-eq : goal.returns-then-eq
returns-then-eq c =
    let e : c.judged.result ≡ Err NotWellFormed = grind (arith, common_steps) in
    rw c.from-then-eq.ensures (reads_unformed c.if-tables-ne-TABLE_WORDS.false c.in_default.ensures (sym (rw e at c.judged.ensures)))

pub returns : goal.returns
returns c =
    rw c.copy_words.ensures (reads_formed c.if-tables-ne-TABLE_WORDS.false c.fill.auto.t c.in_default.ensures
    (λ q.
    let e = refused_formed c.judged.result (c.judged.ensures ∙ q) in
    let f = rw e at c.eq.ensures in
    let z : true ≡ false = sym f ∙ c.if-eq.false in
    let y : ◌≡◌ {A = ℕ} 0 1 = cc in absurd (omega arith)))
