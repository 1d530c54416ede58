-- Document 01, "The request and its operations"; rule 8.4: the words that each operation may change at all.
use Rattle.std.specs.Prelude.{Bool, ◌&&◌, ◌||◌, false, not, ◌≡◌, ℕ, T, eqb}
use Rattle.model.specs.Effect.Places.{vacant}
use Rattle.model.specs.Request.Asked.{Asked, own}
use Rattle.model.specs.Request.Operations.{Op, to_acknowledge, to_authorised, to_clear, to_clearance, to_copy, to_create, to_current}
use Rattle.model.specs.Request.Operations.{to_delete, to_device_level, to_edit, to_grant, to_level, to_login, to_logout, to_mark, to_maximum}
use Rattle.model.specs.Request.Operations.{to_move, to_release, to_revoke, to_show}
use Rattle.model.specs.State.Check.{in_test}
use Rattle.model.specs.Tables.Words.{EntityWord, Tables, UserWord, authorised, clearance, current, device, held, held_op, kind, kinds}
use Rattle.model.specs.Tables.Words.{level, mark, maximum, missed, place, places, releaser, shown, tag, triple, type, used}
use Rattle.model.specs.Tables.Words.{used_places, user_tag, value}

-- e stands in the container x
abbrev pub holder : Tables → ℕ → ℕ → Bool
holder d e x = in_test (kinds d) (used_places d) (places d) x e

-- the places of a record and their number; also what is shown
abbrev pub content_word : EntityWord → Bool
content_word f = eqb (tag f) (tag used) || eqb (tag f) (tag (place 0))

abbrev pub screen_word : EntityWord → Bool
screen_word f = content_word f || eqb (tag f) (tag (shown 0))

abbrev pub word_or_row : EntityWord → EntityWord → Bool
word_or_row g f = eqb (tag f) (tag g)

abbrev pub user_word_is : UserWord → UserWord → Bool
user_word_is g f = eqb (user_tag f) (user_tag g)

-- word f of user x
abbrev pub user_may : Op → Asked → Tables → ℕ → UserWord → Bool
user_may to_create s d x f = false
user_may to_delete s d x f = false
user_may to_move s d x f = false
user_may to_edit s d x f = false
user_may to_copy s d x f = false
user_may to_level s d x f = false
user_may to_mark s d x f = false
user_may to_grant s d x f = false
user_may to_revoke s d x f = false
user_may to_show s d x f = false
user_may to_clear s d x f = false
user_may to_login s d x f = eqb x s.user && user_word_is device f
user_may to_logout s d x f = eqb x s.user && (user_word_is device f || user_word_is current f)
user_may to_current s d x f = eqb x s.a && user_word_is current f
user_may to_clearance s d x f = eqb x s.a && user_word_is clearance f
user_may to_authorised s d x f = eqb x s.a && user_word_is authorised f
user_may to_maximum s d x f = false
user_may to_device_level s d x f = false
user_may to_release s d x f = false
user_may to_acknowledge s d x f = eqb x s.user && (user_word_is held f || (user_word_is held_op f || user_word_is missed f))

-- word f of entity x
abbrev pub entity_may : Op → Asked → Tables → ℕ → EntityWord → Bool
entity_may to_create s d x f =
    (eqb x (vacant d) && (word_or_row kind f || (word_or_row type f || (word_or_row level f || word_or_row (triple 0) f)))) || (eqb x s.first && content_word f)
entity_may to_delete s d x f = eqb x s.first || (holder d s.first x && content_word f)
entity_may to_move s d x f = (eqb x s.second || holder d s.first x) && content_word f
entity_may to_edit s d x f = eqb x s.first && word_or_row value f
entity_may to_copy s d x f = eqb x s.second && word_or_row value f
entity_may to_level s d x f = eqb x s.first && word_or_row level f
entity_may to_mark s d x f = eqb x s.first && word_or_row mark f
entity_may to_grant s d x f = eqb x s.first && word_or_row (triple 0) f
entity_may to_revoke s d x f = eqb x s.first && word_or_row (triple 0) f
entity_may to_show s d x f = eqb x (own d s) && screen_word f
entity_may to_clear s d x f = eqb x (own d s) && screen_word f
entity_may to_login s d x f = false
entity_may to_logout s d x f = eqb x (own d s) && screen_word f
entity_may to_current s d x f = false
entity_may to_clearance s d x f = false
entity_may to_authorised s d x f = false
entity_may to_maximum s d x f = eqb x s.first && word_or_row maximum f
entity_may to_device_level s d x f = eqb x s.first && word_or_row level f
entity_may to_release s d x f = eqb x s.first && (word_or_row type f || word_or_row releaser f)
entity_may to_acknowledge s d x f = false

-- Every word outside is as before.
pub record Frame (o : Op) (s : Asked) (d d' : Tables) : Type 0 where
  pub users : (x : ℕ) (f : UserWord) → T (not (user_may o s d x f)) → d'.user x f ≡ d.user x f
  pub entities : (x : ℕ) (f : EntityWord) → T (not (entity_may o s d x f)) → d'.entity x f ≡ d.entity x f
