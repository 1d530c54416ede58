-- What the resolver answers, and on what tables; what makes a container a bar, and what a triple admits.
use Rattle.std.specs.Prelude.{Bool, ◌&&◌, ◌||◌, not, List, ◌%◌, ◌-◌, ◌<◌, ◌≤◌, suc, zero, ℕ, eqb, leb}
use Rattle.model.specs.Level.{at_most, bit}
use Rattle.model.specs.Request.Ladder.{bars}
use Rattle.model.specs.Request.Reference.{basis, follow, passed, resolve}
use Rattle.model.specs.Request.Refusals as refusal
use Rattle.model.specs.Tables.Words.{Tables, used_places, entity_count, level, mark, place_count, places, who_most, who_of, who_role, who_weight}
use Rattle.reference.specs.declared.Found.{Found}
use Rattle.reference.specs.declared.Found.TheVariants.{At, Nowhere}

-- Tables in which every used place is one of its row and holds the number of an entity, as in well-formed ones.
pub record Ranged (d : Tables) : Type 0 where
  pub room : (e : ℕ) → used_places d e ≤ place_count
  pub low : (e i : ℕ) → i < used_places d e → 1 ≤ places d e i
  pub high : (e i : ℕ) → i < used_places d e → places d e i ≤ entity_count

-- The resolver's answer for an entity number, 0 where the reference leads nowhere, and whether the way is open.
abbrev pub leading : ℕ → Bool → Found
leading zero o = Nowhere
leading (suc e) o = At (record { 0 = suc e }) o

-- Rule 7.7: the refusal that each answer of the resolver means, or none.
abbrev pub refusal_of : Found → ℕ
refusal_of (At e o) = refusal.accepted
refusal_of Nowhere = refusal.no_such_name

-- Rule 7.9: e is marked, and the level l is not at least its level.
unfoldable pub bar : Tables → ℕ → ℕ → Bool
bar d l e = not (eqb (d.entity e mark) 0) && not (at_most (d.entity e level) l)

-- Rule 7.8: the triple x has this key, an operation and a position, and names the user u, or a role among these.
unfoldable pub admits : ℕ → ℕ → ℕ → ℕ → Bool
admits u roles key x = eqb (x % who_weight) key && (eqb (who_of x) u ||
    (leb (who_role 0) (who_of x) && (leb (who_of x) who_most && bit (who_of x - who_role 0) roles)))

-- The resolver's answer from e on by these names, for the clearance l, where o says whether the way so far is open.
abbrev pub onward : Tables → ℕ → ℕ → Bool → List ℕ → Found
onward d l e o ns = leading (follow d e ns) (o && not (bars d l (passed d e ns)))

-- The resolver's answer for a whole reference.
abbrev pub found : Tables → ℕ → List ℕ → Found
found d l ns = leading (resolve d ns) (not (bars d l (basis d ns)))
