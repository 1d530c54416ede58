use Rattle.state.proofs.entities.words_fine.Goals as goal

pub returns : goal.returns
returns c =
    rw (
      c.shape_fine.ensures,
      c.requires.1,
      c.type_of.ensures,
      c.level.ensures,
      c.mark.ensures,
      c.value.ensures,
      c.releaser.ensures,
      c.maximum.ensures,
    )
