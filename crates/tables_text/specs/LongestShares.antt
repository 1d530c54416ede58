-- Rule 16.7: to whom the bytes of a text are charged. A line of what is in a container is charged to the entity that it names, and what a user has more by
-- being on, to the device. So each number is charged once, and the charges can be bounded one by one.
use Rattle.std.specs.Prelude.{◌*◌, ◌+◌, ◌-◌, ℕ, eqb}
use Rattle.model.specs.Basics.Choice.{pick}
use Rattle.model.specs.Tables.Kinds.{screen}
use Rattle.model.specs.Tables.Words.{Tables, absent_kind, container_kind, devices, entity_count, kinds, place_count, places, used_places, user_count}
use Rattle.tables_text.specs.Longest.{device_size, on_size, place_size, second, thing_size}
use Rattle.tables_text.specs.Total.{one, total}

-- what being on a device with number e adds, and being in a container with the number c
abbrev pub on_bytes : ℕ → ℕ
on_bytes e = on_size + second e

abbrev pub in_bytes : ℕ → ℕ
in_bytes c = place_size + second c

-- what user u has more by being on
unfoldable pub user_on : Tables → ℕ → ℕ
user_on d u = pick (eqb (devices d u) 0) 0 (on_bytes (devices d u))

-- the lines of what is in a container
unfoldable pub content_bytes : Tables → ℕ → ℕ
content_bytes d e = pick (eqb (kinds d e) container_kind) (total (used_places d e) 0 (λ i. in_bytes (places d e i))) 0

-- all other lines of an entity
unfoldable pub own_bytes : Tables → ℕ → ℕ
own_bytes d e =
    pick (eqb (kinds d e) absent_kind) 0
    (pick (screen (kinds d e)) (device_size + second e + used_places d e * (place_size + 1)) (thing_size + second e))

-- how many users are on e
unfoldable pub users_on : Tables → ℕ → ℕ
users_on d e = total user_count 1 (λ u. one (devices d u) e)

-- how often c stands in the container b, and in containers
unfoldable pub times_in : Tables → ℕ → ℕ → ℕ
times_in d b c = pick (eqb (kinds d b) container_kind) (total (used_places d b) 0 (λ i. one (places d b i) c)) 0

unfoldable pub times_held : Tables → ℕ → ℕ
times_held d c = total entity_count 1 (λ b. times_in d b c)

-- what is charged to the entity e in all
unfoldable pub charged : Tables → ℕ → ℕ
charged d e = own_bytes d e + (times_held d e * in_bytes e + users_on d e * on_bytes e)

-- what a device has more than a thing that is in a container, if there is a user on it
abbrev pub more_on : ℕ
more_on = device_size + place_count * (place_size + 1) + on_size - (thing_size + place_size)

-- the most that can be charged to e
unfoldable pub most_charged : Tables → ℕ → ℕ
most_charged d e = thing_size + place_size + (second e + second e) + users_on d e * more_on
