-- A guarded word, and what the two guards say: that a record and a place in it are there.
use Rattle.std.specs.Prelude.{Bool, false, true, ◌≡◌, refl, ◌<◌, ◌≤◌, suc, ℕ, T}
use Rattle.std.proofs.Common.{sym}
use Rattle.model.specs.Basics.Agree.{Agrees, agrees_and, agrees_le}
use Rattle.model.specs.Basics.Choice.{pick}
use Rattle.model.specs.Tables.Layout.{entity_in, user_in, user_offset, user_width}
use Rattle.model.specs.Tables.Words.{EntityWord, UserWord, entity_count, index, place_count, user_count}

-- where the guard passes, the word
pub guard_in : (b : Bool) (v : ℕ) → T b → pick b v 0 ≡ v
guard_in true v t = refl
guard_in false v t = absurd t

-- where it fails, zero
pub guard_out : (b : Bool) (v : ℕ) → ¬ T b → pick b v 0 ≡ 0
guard_out true v t = absurd (t tt)
guard_out false v t = refl

-- two words under one guard are the same, if they are where it passes
pub guard_same : (b : Bool) (v w : ℕ) → (T b → v ≡ w) → pick b v 0 ≡ pick b w 0
guard_same true v w h = h tt
guard_same false v w h = refl

-- a word under a guard is w, if it is where the guard passes and w is zero where it fails
pub guard_is : (b : Bool) (v w : ℕ) → (T b → v ≡ w) → (¬ T b → w ≡ 0) → pick b v 0 ≡ w
guard_is true v w h k = h tt
guard_is false v w h k = sym (k (λ t. t))

-- the guard of a user's word: the word lies in a record, and there is such a user
user_guard : (u : ℕ) (f : UserWord) → Agrees (user_in u f) ((user_offset f < user_width) × ((1 ≤ u) × (u ≤ user_count)))
user_guard u f = agrees_and (agrees_le (suc (user_offset f)) user_width) (agrees_and (agrees_le 1 u) (agrees_le u user_count))

pub user_in_lem : (u : ℕ) (f : UserWord) → T (user_in u f) → (user_offset f < user_width) × (1 ≤ u) × (u ≤ user_count)
user_in_lem u f t = let p = (user_guard u f).to t in (p.0, p.1.0, p.1.1)

pub in_user : (u : ℕ) (f : UserWord) → user_offset f < user_width → 1 ≤ u → u ≤ user_count → T (user_in u f)
in_user u f h a b = (user_guard u f).from (h, (a, b))

-- the guard of an entity's word: there is such an entity, and such a place in the row
entity_guard : (e : ℕ) (f : EntityWord) → Agrees (entity_in e f) ((1 ≤ e) × ((e ≤ entity_count) × (index f < place_count)))
entity_guard e f = agrees_and (agrees_le 1 e) (agrees_and (agrees_le e entity_count) (agrees_le (suc (index f)) place_count))

pub entity_in_lem : (e : ℕ) (f : EntityWord) → T (entity_in e f) → (1 ≤ e) × (e ≤ entity_count) × (index f < place_count)
entity_in_lem e f t = let p = (entity_guard e f).to t in (p.0, p.1.0, p.1.1)

pub in_entity : (e : ℕ) (f : EntityWord) → 1 ≤ e → e ≤ entity_count → index f < place_count → T (entity_in e f)
in_entity e f a b h = (entity_guard e f).from (a, (b, h))
