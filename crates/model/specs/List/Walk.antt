-- Document 01, "The refusal ladder"; rule 10.6: the walk, over any number of ways that lead on from an entity, any entity at the end of each, and
-- any test of an entity.
use Rattle.std.specs.Prelude.{Bool, ◌&&◌, false, List, [], ◌++◌, ◌∷◌, map, suc, zero, ℕ, leb}
use Rattle.model.specs.Basics.Choice.{pick}

-- the continuation by no name, where the entity itself is to be listed
abbrev pub here : Bool → List (List ℕ)
here b = pick b ([] ∷ []) []

-- the continuations that begin with one of the names 1 to n, where f has what follows each
unfoldable pub through : ℕ → (ℕ → List (List ℕ)) → List (List ℕ)
through zero f = []
through (suc n) f = through n f ++ map (λ r. suc n ∷ r) (f (suc n))

module _ (ways : ℕ → ℕ) (next : ℕ → ℕ → ℕ) (good : ℕ → Bool) where
  -- The continuations from e by at most k names: e itself, then what each of its ways leads to by at most k - 1.
  unfoldable pub visit : ℕ → ℕ → List (List ℕ)
  visit zero e = here (good e)
  visit (suc k) e = here (good e) ++ through (ways e) (λ p. visit k (next e p))

  -- The walk's own question to the names that are left, from e on.
  unfoldable pub arrives : ℕ → List ℕ → Bool
  arrives e [] = good e
  arrives e (p ∷ ps) = (leb 1 p && leb p (ways e)) && arrives (next e p) ps

  -- The references that the walk lists, with a first name 1 to n and at most k names after it; and its question to a whole reference.
  unfoldable pub walk : ℕ → ℕ → List (List ℕ)
  walk k n = through n (visit k)

  unfoldable pub reached : ℕ → List ℕ → Bool
  reached n [] = false
  reached n (e ∷ ps) = (leb 1 e && leb e n) && arrives e ps
