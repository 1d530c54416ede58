-- Document 01, "The request and its operations"; rules 5.2 and 5.3: where a list of names leads, one name after another; 0 where one of them
-- leads nowhere.
use Rattle.std.specs.Prelude.{Bool, ◌&&◌, false, not, true, List, [], ◌∷◌, ◌≢◌, ◌≤◌, pred, ℕ, eqb, leb}
use Rattle.model.specs.Tables.Words.{Tables, absent_kind, entity_count, kind, kinds, places, used_places}

-- e is one of the entities that are there
unfoldable pub present_test : Tables → ℕ → Bool
present_test d e = (leb 1 e && leb e entity_count) && not (eqb (kinds d e) absent_kind)

-- p is a used place of e, counted from 1
unfoldable pub place_test : Tables → ℕ → ℕ → Bool
place_test d e p = leb 1 p && leb p (used_places d e)

-- what stands in place p of e, counted from 1
abbrev pub standing : Tables → ℕ → ℕ → ℕ
standing d e p = places d e (pred p)

-- the names left, read from e on
unfoldable pub follow : Tables → ℕ → List ℕ → ℕ
follow d e [] = e
follow d e (p ∷ ps) = elim (place_test d e p) [ true ↦ follow d (standing d e p) ps | false ↦ 0 ]

-- the entity that a reference names, or 0
unfoldable pub resolve : Tables → List ℕ → ℕ
resolve d [] = 0
resolve d (e ∷ ps) = elim (present_test d e) [ true ↦ follow d e ps | false ↦ 0 ]

-- the entities that are passed from e on, all but the last
unfoldable pub passed : Tables → ℕ → List ℕ → List ℕ
passed d e [] = []
passed d e (p ∷ ps) = e ∷ passed d (standing d e p) ps

-- a reference's basis: its path but the last, the operand
unfoldable pub basis : Tables → List ℕ → List ℕ
basis d [] = []
basis d (e ∷ ps) = passed d e ps

-- Rule 5.3 as a relation: from e, the names ps pass by the entities w and end at x.
pub data Follows (d : Tables) : ℕ → List ℕ → List ℕ → ℕ → Type 0 where
  here : {e : ℕ} → Follows d e [] [] e
  further : {e p : ℕ} {ps w : List ℕ} {x : ℕ} → 1 ≤ p → p ≤ used_places d e → Follows d (standing d e p) ps w x → Follows d e (p ∷ ps) (e ∷ w) x

pub record Present (d : Tables) (e : ℕ) : Type 0 where
  pub low : 1 ≤ e
  pub high : e ≤ entity_count
  pub there : d.entity e kind ≢ absent_kind

-- The names ns lead by the entities w to x.
pub data Leads (d : Tables) : List ℕ → List ℕ → ℕ → Type 0 where
  begins : {e : ℕ} {ps w : List ℕ} {x : ℕ} → Present d e → Follows d e ps w x → Leads d (e ∷ ps) w x
