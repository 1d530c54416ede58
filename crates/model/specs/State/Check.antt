-- Document 01, "The tables" and "The refusal ladder"; rules 3.6, 3.13 to 3.16 and 3.18, the tests of what records say of one another; rule 3 as one test;
-- rules 4.1 to 4.5, the tests of secure tables, and rule 4 as one; rule 8.5, the answer of the state check.
use Rattle.std.specs.Prelude.{Bool, ◌&&◌, not, List, suc, ℕ, eqb, leb, ltb, length}
use Rattle.model.specs.Basics.Choice.{pick}
use Rattle.model.specs.Basics.Tests.{every, imp}
use Rattle.model.specs.Level.{at_most, role_count, subset}
use Rattle.model.specs.State.Climb.{up}
use Rattle.model.specs.State.Secure.{labelled}
use Rattle.model.specs.State.Tests.{entity_test, user_test}
use Rattle.model.specs.Tables.Kinds.{screen, terminal}
use Rattle.model.specs.Tables.Layout.{tables_of, word_count}
use Rattle.model.specs.Tables.Rows.{seek}
use Rattle.model.specs.Tables.Words.{Tables, authorised, clearance, container_kind, current, devices, entity_count, kinds, level}
use Rattle.model.specs.Tables.Words.{maximum, object_kind, place_count, places, sums, used_places, user_count}
use Rattle.model.specs.Request.Refusals as refusal

-- a stands directly in the container b
unfoldable pub in_test : (ℕ → ℕ) → (ℕ → ℕ) → (ℕ → ℕ → ℕ) → ℕ → ℕ → Bool
in_test k n at b a = eqb (k b) container_kind && ltb (seek a (at b) (n b)) (n b)

-- the place, from 0, of the first container that a stands in; 64 where there is none
unfoldable pub spot_of : (ℕ → ℕ) → (ℕ → ℕ) → (ℕ → ℕ → ℕ) → ℕ → ℕ
spot_of k n at a = seek 1 (λ i. pick (in_test k n at (suc i) a) 1 0) entity_count

-- that container's number, or 0
unfoldable pub parent : (ℕ → ℕ) → (ℕ → ℕ) → (ℕ → ℕ → ℕ) → ℕ → ℕ
parent k n at a = pick (ltb (spot_of k n at a) entity_count) (suc (spot_of k n at a)) 0

-- Rule 3.6: only objects and containers stand in places.
unfoldable pub contents_test : (k n : ℕ → ℕ) (at : ℕ → ℕ → ℕ) (dev : ℕ → ℕ) → Bool
contents_test k n at dev = every entity_count (λ e. every place_count (λ i. imp (ltb i (n (suc e)))
    (leb object_kind (k (at (suc e) i)) && leb (k (at (suc e) i)) container_kind)))

-- Rule 3.13: one container at most.
unfoldable pub one_test : (k n : ℕ → ℕ) (at : ℕ → ℕ → ℕ) (dev : ℕ → ℕ) → Bool
one_test k n at dev = every entity_count (λ a. imp (eqb (k (suc a)) container_kind) (every entity_count (λ b. imp (eqb (k (suc b)) container_kind)
    (every place_count (λ i. every place_count (λ j. imp (ltb i (n (suc a))) (imp (ltb j (n (suc b)))
    (imp (eqb (at (suc a) i) (at (suc b) j)) (eqb (suc a) (suc b))))))))))

-- Rule 3.14: the way up from every entity ends.
unfoldable pub loop_test : (k n : ℕ → ℕ) (at : ℕ → ℕ → ℕ) (dev : ℕ → ℕ) → Bool
loop_test k n at dev = every entity_count (λ e. up (parent k n at) (suc entity_count) (suc e))

-- Rule 3.15: who is on is on a terminal.
unfoldable pub device_test : (k n : ℕ → ℕ) (at : ℕ → ℕ → ℕ) (dev : ℕ → ℕ) → Bool
device_test k n at dev = every user_count (λ u. imp (not (eqb (dev (suc u)) 0)) (terminal (k (dev (suc u)))))

-- Rule 3.16: one user to a terminal.
unfoldable pub alone_test : (k n : ℕ → ℕ) (at : ℕ → ℕ → ℕ) (dev : ℕ → ℕ) → Bool
alone_test k n at dev = every user_count (λ u. every user_count (λ v. imp (not (eqb (dev (suc u)) 0))
    (imp (eqb (dev (suc u)) (dev (suc v))) (eqb (suc u) (suc v)))))

-- Rule 3.18: a terminal without a user shows nothing.
unfoldable pub idle_test : (k n : ℕ → ℕ) (at : ℕ → ℕ → ℕ) (dev : ℕ → ℕ) → Bool
idle_test k n at dev = every entity_count (λ e. imp (terminal (k (suc e)))
    (imp (every user_count (λ u. not (eqb (dev (suc u)) (suc e)))) (eqb (n (suc e)) 0)))

-- Rules 3.6, 3.13 to 3.16 and 3.18 together.
unfoldable pub links_test : (k n : ℕ → ℕ) (at : ℕ → ℕ → ℕ) (dev : ℕ → ℕ) → Bool
links_test k n at dev = contents_test k n at dev && (one_test k n at dev && (loop_test k n at dev
    && (device_test k n at dev && (alone_test k n at dev && idle_test k n at dev))))

-- Rule 3, all of it.
unfoldable pub well_formed_test : Tables → Bool
well_formed_test d = every user_count (λ u. user_test (d.user (suc u)))
    && (every entity_count (λ e. entity_test (d.entity (suc e))) && links_test (kinds d) (used_places d) (places d) (devices d))

-- Rule 4.1: nothing stands in or on what is not at least its level.
unfoldable pub contained_test : Tables → ℕ → Bool
contained_test d e = every place_count (λ i. imp (ltb i (used_places d e)) (at_most (d.entity (places d e i) level) (d.entity e level)))

-- Rule 4.2: nobody is shown what they are not cleared for.
unfoldable pub seen_test : Tables → ℕ → Bool
seen_test d u = imp (not (eqb (devices d u) 0))
    (every place_count (λ i. imp (ltb i (used_places d (devices d u))) (at_most (d.entity (places d (devices d u) i) level) (d.user u clearance))))

-- Rule 4.3: no value without its label.
unfoldable pub labelled_test : Tables → ℕ → Bool
labelled_test d e = imp (screen (kinds d e)) (every place_count (λ i. imp (ltb i (used_places d e)) (labelled (sums d e i))))

-- Rule 4.4: nobody acts with a role that is not authorised.
unfoldable pub roles_test : Tables → ℕ → Bool
roles_test d u = subset role_count (d.user u current) (d.user u authorised)

-- Rule 4.5: no screen is set above its maximum.
unfoldable pub ceiling_test : Tables → ℕ → Bool
ceiling_test d e = imp (screen (kinds d e)) (at_most (d.entity e level) (d.entity e maximum))

-- Rule 4, all of it.
unfoldable pub secure_test : Tables → Bool
secure_test d = every entity_count (λ e. contained_test d (suc e)) && (every user_count (λ u. seen_test d (suc u))
    && (every entity_count (λ e. labelled_test d (suc e)) && (every user_count (λ u. roles_test d (suc u))
    && every entity_count (λ e. ceiling_test d (suc e)))))

-- Rule 8.5: 2 where the tables are not well-formed, else 3 where they are not secure, else 0.
unfoldable pub judge : Tables → ℕ
judge d = pick (well_formed_test d) (pick (secure_test d) refusal.accepted refusal.not_secure) refusal.not_well_formed

-- Rule 8.5 of any words: 1 where they are not 2,304.
unfoldable pub check : List ℕ → ℕ
check t = pick (eqb (length t) word_count) (judge (tables_of t)) refusal.bad_length
