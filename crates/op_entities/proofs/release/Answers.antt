use Rattle.std.proofs.Common.{◌∙◌}
use Rattle.op_entities.specs.EntityLaws.{release_10, release_12, release_done}
use Rattle.model.specs.Tables.StoreLaws.{twice}
use Rattle.model.specs.Tables.Edits.{word}
use Rattle.model.specs.Tables.Words.{releaser, type}
use Rattle.op_entities.proofs.release.Goals as goal

pub returns-then-not-is_draft : goal.returns-then-not-is_draft
returns-then-not-is_draft c =
    release_10 _ _ _ _ c.requires.0 c.requires.1 _ c.is_draft.ensures c.if-not-is_draft.true

pub returns-then-not-has_role : goal.returns-then-not-has_role
returns-then-not-has_role c =
    release_12 _ _ _ _ c.requires.0 c.requires.1 _ c.is_draft.ensures c.if-not-is_draft.false _
    c.has_role.ensures c.if-not-has_role.true

pub returns : goal.returns
returns c =
    release_done _ _ _ _ c.requires.0 c.requires.1 _ c.is_draft.ensures c.if-not-is_draft.false _ c.has_role.ensures
    c.if-not-has_role.false _ (c.set_type.ensures ∙ rw c.set_releaser.ensures
    (twice _ (word type 2) (word releaser _) _))
