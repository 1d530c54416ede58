-- What each pass of the state check asks, record by record. The model asks sentence by sentence; the laws beside show that all passes
-- together ask what all sentences do.
use Rattle.std.specs.Prelude.{Bool, ◌&&◌, ◌||◌, not, ◌≡◌, ◌+◌, ◌-◌, pred, suc, ℕ, eqb, leb, ltb}
use Rattle.model.specs.Basics.Choice.{pick}
use Rattle.model.specs.Basics.Tests.{every, imp}
use Rattle.model.specs.Level.{level_count, role_sets}
use Rattle.model.specs.State.Check.{loop_test, one_test}
use Rattle.model.specs.State.Tests.{entity_test, shape_test, triple_test}
use Rattle.model.specs.Tables.Layout.{entity_width, offset, user_width}
use Rattle.model.specs.Tables.WordAt.{entity_word_at, user_word_at}
use Rattle.model.specs.Tables.Words.{Tables, container_kind, used_places, device_kind, devices, entity_count, kinds, level, object_kind, place_count, places}
use Rattle.model.specs.Tables.Words.{mark, maximum, plain_type, releaser, sum_most, sums, type, user_count, value}

-- ---- users

-- every word of user u is zero
unfoldable pub user_blank : Tables → ℕ → Bool
user_blank d u = every user_width (λ f. eqb (d.user u (user_word_at f)) 0)

-- the words before the notice of a user who is there
unfoldable pub user_head : (p c a r v : ℕ) → Bool
user_head p c a r v = leb p 1 && (ltb c level_count && (ltb a role_sets && (ltb r role_sets && imp (eqb v 0) (eqb r 0))))

-- user u is off, or on a device on which no user of a lower number is
unfoldable pub on_device : Tables → ℕ → Bool
on_device d u = imp (not (eqb (devices d u) 0))
    (eqb (kinds d (devices d u)) device_kind && every (pred u) (λ v. not (eqb (devices d (suc v)) (devices d u))))

-- ---- entities

-- every word of entity e is zero
unfoldable pub entity_blank : Tables → ℕ → Bool
entity_blank d e = every entity_width (λ f. eqb (d.entity e (entity_word_at f)) 0)

-- the single words of entity e but for the last are in order
abbrev pub shape_at : Tables → ℕ → Bool
shape_at d e = shape_test (kinds d e) (d.entity e type) (d.entity e level) (d.entity e mark) (d.entity e value) (d.entity e releaser) (d.entity e maximum)

-- how many places an entity of kind k may use
unfoldable pub used_test : ℕ → ℕ → Bool
used_test k n = leb n place_count && imp (eqb k object_kind) (eqb n 0)

-- what is known of entity e before its places are looked at: n is how many it uses, and s whether it shows what stands in them
abbrev pub Counted : Tables → ℕ → ℕ → Bool → Type 0
Counted d e n s = (n ≡ used_places d e) × (s ≡ eqb (kinds d e) device_kind)

-- place i of entity e: beyond the places used there is nothing; in them stands what may, and only a device shows some of it
unfoldable pub place_test : Tables → ℕ → ℕ → Bool
place_test d e i = pick (leb (used_places d e) i) (eqb (places d e i) 0 && eqb (sums d e i) 0)
    (leb object_kind (kinds d (places d e i)) && (leb (kinds d (places d e i)) container_kind
    && (imp (eqb (kinds d e) device_kind) (leb 1 (sums d e i) && leb (sums d e i) sum_most) && imp (not (eqb (kinds d e) device_kind)) (eqb (sums d e i) 0))))

-- what stands at i of a row stands nowhere before it
unfoldable pub unlike : (ℕ → ℕ) → ℕ → Bool
unlike row i = every i (λ j. not (eqb (row j) (row i)))

-- what stands at i of a row is nothing, or stands nowhere before it
unfoldable pub new_at : (ℕ → ℕ) → ℕ → Bool
new_at row i = eqb (row i) 0 || unlike row i

-- the place of the last triple
abbrev pub last_triple : ℕ
last_triple = place_count - 1

-- triple i of a row: zero, and then the next one too; else it names what it may, and is none of those before it
unfoldable pub triple_new : (ℕ → ℕ) → ℕ → Bool
triple_new row i = pick (eqb (row i) 0) (leb last_triple i || eqb (row (i + 1)) 0) (triple_test (row i) && unlike row i)

-- only objects and containers stand in the places of e
unfoldable pub contents_at : Tables → ℕ → Bool
contents_at d e = every place_count (λ i. imp (ltb i (used_places d e))
    (leb object_kind (kinds d (places d e i)) && leb (kinds d (places d e i)) container_kind))

-- a device that nobody is on shows nothing
unfoldable pub idle_at : Tables → ℕ → Bool
idle_at d e = imp (eqb (kinds d e) device_kind) (imp (every user_count (λ u. not (eqb (devices d (suc u)) e))) (eqb (used_places d e) 0))

-- all that is asked of what stands in entity e, of its single words and of its screen
unfoldable pub holding_test : Tables → ℕ → Bool
holding_test d e = shape_at d e && (used_test (kinds d e) (used_places d e) && (every place_count (place_test d e)
    && (every (used_places d e) (unlike (places d e)) && idle_at d e)))

-- the words from the releaser to the last that is shown: how many there are, and that they are zero
abbrev pub bare_width : ℕ
bare_width = entity_width - place_count - offset releaser

unfoldable pub bare : Tables → ℕ → Bool
bare d e = every bare_width (λ i. eqb (d.entity e (entity_word_at (offset releaser + i))) 0)

-- the same as `holding_test` of an object, which has a level, a value and triples only
unfoldable pub object_test : Tables → ℕ → Bool
object_test d e = ltb (d.entity e level) level_count && (eqb (d.entity e type) plain_type && (eqb (d.entity e mark) 0 && bare d e))

-- all that is asked of entity e but for what it stands in
unfoldable pub own_test : Tables → ℕ → Bool
own_test d e = entity_test (d.entity e) && (contents_at d e && idle_at d e)

-- no entity stands in two containers, and none lies in itself
abbrev pub tree_test : Tables → Bool
tree_test d = one_test (kinds d) (used_places d) (places d) (devices d) && loop_test (kinds d) (used_places d) (places d) (devices d)

-- every entity is in order but for what it stands in
abbrev pub all_own : Tables → Bool
all_own d = every entity_count (λ e. own_test d (suc e))
