use Rattle.std.proofs.Common.{eq-eqb, le-leb, ne_eqb}
use borrow.Author.Tests.{lt-leb}
use Rattle.model.specs.Tables.Words.{who_most, who_role}
use Rattle.reference.specs.Ways.{admits}
use Rattle.reference.proofs.is_admitted.Goals as goal

pub returns-then-key : goal.returns-then-key
unfolding admits
returns-then-key c =
    rw (← c.key.ensures, ne_eqb c.key.result c.args.key c.if-key.true)

pub returns-then-who-u : goal.returns-then-who-u
unfolding admits
returns-then-who-u c =
    let a = c.args in
    rw (← c.key.ensures, eq-eqb c.key.result a.key c.if-key.false, ← c.who-who.ensures, eq-eqb c.who-who.result a.u.0 c.if-who-u.true)

pub returns-then-who-lt-FIRST_ROLE : goal.returns-then-who-lt-FIRST_ROLE
unfolding admits
returns-then-who-lt-FIRST_ROLE c =
    let a = c.args in
    rw (
      ← c.key.ensures,
      eq-eqb c.key.result a.key c.if-key.false,
      ← c.who-who.ensures,
      ne_eqb c.who-who.result a.u.0 c.if-who-u.false,
      lt-leb
          (who_role 0) c.who-who.result c.if-who-lt-FIRST_ROLE.true,
    )

pub returns-then-who-gt-WHO_MOST : goal.returns-then-who-gt-WHO_MOST
unfolding admits
returns-then-who-gt-WHO_MOST c =
    let a = c.args in
    rw (
      ← c.key.ensures,
      eq-eqb c.key.result a.key c.if-key.false,
      ← c.who-who.ensures,
      ne_eqb c.who-who.result a.u.0 c.if-who-u.false,
      le-leb
          (who_role 0) c.who-who.result c.if-who-lt-FIRST_ROLE.false,
      lt-leb c.who-who.result who_most c.if-who-gt-WHO_MOST.true,
    )

pub returns : goal.returns
unfolding admits
returns c =
    let a = c.args in
    rw (
      c.has_bit.ensures,
      ← c.key.ensures,
      eq-eqb c.key.result a.key c.if-key.false,
      ← c.who-who.ensures,
      ne_eqb c.who-who.result a.u.0
          c.if-who-u.false,
      le-leb (who_role 0) c.who-who.result c.if-who-lt-FIRST_ROLE.false,
      le-leb c.who-who.result who_most
          c.if-who-gt-WHO_MOST.false,
    )
