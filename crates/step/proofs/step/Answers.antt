use Rattle.step.specs.FirstLaws.{other_length}
use Rattle.step.proofs.step.Goals as goal

pub returns-then-q-ne-REQUEST_WORDS : goal.returns-then-q-ne-REQUEST_WORDS
returns-then-q-ne-REQUEST_WORDS c = other_length _ _ c.if-q-ne-REQUEST_WORDS.true
