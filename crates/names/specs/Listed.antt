-- The numbers of the operations and of the answers, each as one list.
use Rattle.std.specs.Prelude.{List, [], ◌∷◌, ℕ}
use Rattle.model.specs.Request.Operations.{Op, number_of}
use Rattle.model.specs.Request.Refusals as refusal

abbrev pub numbers : List Op → List ℕ
numbers [] = []
numbers (o ∷ os) = number_of o ∷ numbers os

abbrev pub answers : List ℕ
answers =
    refusal.accepted ∷ refusal.bad_length ∷ refusal.not_well_formed ∷ refusal.not_secure ∷ refusal.unknown_requester ∷ refusal.bad_request
    ∷ refusal.not_logged_on ∷ refusal.no_such_name ∷ refusal.no_access ∷ refusal.marked ∷ refusal.wrong_kind ∷ refusal.no_such_user
    ∷ refusal.role_missing ∷ refusal.level_or_roles ∷ refusal.no_room ∷ refusal.arrangement ∷ refusal.not_acknowledged ∷ refusal.too_short
    ∷ refusal.not_a_request ∷ []
