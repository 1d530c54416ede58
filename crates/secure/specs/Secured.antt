-- What the passes ask of rule 4, record by record. The model asks sentence by sentence; the laws beside show that all of it together is what all sentences
-- ask.
use Rattle.std.specs.Prelude.{Bool, ◌&&◌, ◌≡◌, suc, ℕ, eqb, ltb}
use Rattle.model.specs.Basics.Choice.{pick}
use Rattle.model.specs.Basics.Tests.{every, imp}
use Rattle.model.specs.Level.{at_most}
use Rattle.model.specs.State.Check.{ceiling_test, contained_test, labelled_test, roles_test, seen_test}
use Rattle.model.specs.State.Secure.{labelled}
use Rattle.model.specs.Tables.Words.{Tables, device_kind, entity_count, kinds, level, place_count, places, sums}

-- a number, or that of the places of a row where it is more
unfoldable pub capped : ℕ → ℕ
capped n = pick (ltb place_count n) place_count n

-- what is known of entity e before its places are looked at: l is its level, and s whether it shows what stands in them
abbrev pub Graded : Tables → ℕ → ℕ → Bool → Type 0
Graded d e l s = (l ≡ d.entity e level) × (s ≡ eqb (kinds d e) device_kind)

-- place i of entity e keeps rules 4.1 and 4.3
unfoldable pub place_secure : Tables → ℕ → ℕ → Bool
place_secure d e i = at_most (d.entity (places d e i) level) (d.entity e level) && imp (eqb (kinds d e) device_kind) (labelled (sums d e i))

-- entity e keeps rules 4.1, 4.3 and 4.5
unfoldable pub entity_secure : Tables → ℕ → Bool
entity_secure d e = contained_test d e && (labelled_test d e && ceiling_test d e)

-- every entity does
abbrev pub all_secure : Tables → Bool
all_secure d = every entity_count (λ e. entity_secure d (suc e))

-- user u keeps rules 4.2 and 4.4
unfoldable pub user_secure : Tables → ℕ → Bool
user_secure d u = seen_test d u && roles_test d u
