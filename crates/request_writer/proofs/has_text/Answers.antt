use Rattle.model.specs.Request.Words.{request_of}
use Rattle.model.specs.Text.Writing.{has_text}
use Rattle.request_writer.proofs.has_text.Goals as goal

pub returns : goal.returns
unfolding has_text request_of
returns c =
    rw (
      c.first_length.ensures,
      c.second_length.ensures,
      c.names_fit.ensures,
      c.names_fit-2.ensures,
      c.spare.ensures,
    )
