use Rattle.std.proofs.Common.{eq-eqb, ne_eqb}
use Rattle.ladder.specs.RungLaws.{by_officer, no_officer, user_absent_lem}
use Rattle.op_users.proofs.named_user.Goals as goal

pub present-requires : goal.present-requires
present-requires c = rw c.a.ensures c.requires.named

pub returns-then-present-eq0 : goal.returns-then-present-eq0
returns-then-present-eq0 c =
    user_absent_lem _ c.requires.rungs _ _ _ c.requires.taking _ _ c.a.ensures c.present.ensures
    (eq-eqb _ _ c.if-present-eq0.true)

pub returns-then-not-has_role : goal.returns-then-not-has_role
returns-then-not-has_role c =
    no_officer _ c.requires.rungs _ _ _ c.requires.taking _ _ c.a.ensures c.present.ensures (ne_eqb _ _ c.if-present-eq0.false) _
    c.has_role.ensures c.if-not-has_role.true

pub returns : goal.returns
returns c = record {
  is = c.a.ensures;
  passed = by_officer _ c.requires.rungs _ _ _ c.requires.taking _ _ c.a.ensures c.present.ensures
      (ne_eqb _ _ c.if-present-eq0.false) _ c.has_role.ensures c.if-not-has_role.false;
}
