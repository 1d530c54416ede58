use Rattle.secure.specs.SecureLaws.{place_secure_lem}
use Rattle.secure.proofs.place_secure.Goals as goal

pub returns : goal.returns
returns c =
    place_secure_lem _ _ _ _ _ _ _ _ _ _ c.place.ensures c.level_or_zero.ensures c.requires.1.0
    c.at_most.ensures c.shown.ensures c.is_labelled.ensures c.requires.1.1
