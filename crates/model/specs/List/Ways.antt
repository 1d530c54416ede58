-- Document 01, "The refusal ladder"; rule 10.6 in the tables: what the walk of a user asks of an entity, the same for every reference that comes
-- by it.
use Rattle.std.specs.Prelude.{Bool, ◌&&◌, List, [], ◌∷◌, pred, ℕ}
use Rattle.model.specs.Basics.Choice.{pick}
use Rattle.model.specs.Level.{at_most}
use Rattle.model.specs.List.Walk.{walk}
use Rattle.model.specs.Request.Conditions.{is_entity, level_of}
use Rattle.model.specs.Request.Ladder.{bars, permits}
use Rattle.model.specs.Request.Operations.{number_of, to_show}
use Rattle.model.specs.Request.Reference.{standing}
use Rattle.model.specs.Request.Words.{name_count}
use Rattle.model.specs.Tables.Words.{Tables, clearance, devices, entity_count, used_places}

-- Rules 7.7 and 7.9: the places of e by which a reference of user u leads on; none where e is marked and its level is not at most the clearance.
unfoldable pub ways : Tables → ℕ → ℕ → ℕ
ways d u e = pick (bars d (d.user u clearance) (e ∷ [])) 0 (used_places d e)

-- Rules 6.10, 7.8 and 7.10: what show asks of the entity itself.
unfoldable pub showable : Tables → ℕ → ℕ → Bool
showable d u e = is_entity d e && (at_most (level_of d e) (d.user u clearance) && (at_most (level_of d e) (level_of d (devices d u))
    && permits d u (number_of to_show) 1 e))

-- the walk of user u over the tables
unfoldable pub found : Tables → ℕ → List (List ℕ)
found d u = walk (ways d u) (standing d) (showable d u) (pred name_count) entity_count
