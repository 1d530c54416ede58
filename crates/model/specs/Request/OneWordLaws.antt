-- Tables with one word set are one thing: what `WithEntity` and `WithUser` say of them is the edit of that word.
use Rattle.std.specs.Prelude.{Bool, ◌&&◌, false, true, ◌≡◌, refl, ℕ, eqb}
use Rattle.std.proofs.Common.{◌∙◌, ap₂, subst}
use Rattle.std.proofs.Math.Path.{fun_ext}
use Rattle.model.specs.Basics.Choice.{Same, it, other, pick, same}
use Rattle.model.specs.Request.Applies.{WithEntity, WithUser}
use Rattle.model.specs.State.Secure.{Secure}
use Rattle.model.specs.Tables.Edits.{on_entity, on_user, user_word, word}
use Rattle.model.specs.Tables.WordAtLaws.{entity_word_same, user_word_same}
use Rattle.model.specs.Tables.Words.{EntityWord, Tables, UserWord, index, tag, user_index, user_tag}

-- Words W of numbered records, told apart by a tag and a place: word f of record e is set to v.
module _ {W : Type 0} (tag_of place_of : W → ℕ) (named : (g f : W) → tag_of g ≡ tag_of f → place_of g ≡ place_of f → g ≡ f) (e : ℕ) (f : W) (v : ℕ)
    (r : ℕ → W → ℕ) where
  abbrev set_word : ℕ → W → ℕ
  set_word x g = pick (eqb (tag_of g) (tag_of f) && eqb (place_of g) (place_of f)) (pick (eqb x e) v (r x g)) (r x g)

  -- it is v,
  set_here : set_word e f ≡ v
  set_here = go (eqb (tag_of f) (tag_of f)) (eqb (place_of f) (place_of f)) (eqb e e) (same (tag_of f) (tag_of f)) (same (place_of f) (place_of f)) (same e e)
    where
      go : (a b c : Bool) → Same (tag_of f) (tag_of f) a → Same (place_of f) (place_of f) b → Same e e c → pick (a && b) (pick c v (r e f)) (r e f) ≡ v
      go true true true p q s = refl
      go true true false p q (other s) = absurd (s refl)
      go true false c p (other q) s = absurd (q refl)
      go false b c (other p) q s = absurd (p refl)

  -- every other word is as it was,
  set_away : (x : ℕ) (g : W) → (x ≡ e → g ≡ f → ⊥) → set_word x g ≡ r x g
  set_away x g n = go (eqb (tag_of g) (tag_of f)) (eqb (place_of g) (place_of f)) (eqb x e) (same (tag_of g) (tag_of f)) (same (place_of g) (place_of f))
      (same x e)
    where
      go : (a b c : Bool) → Same (tag_of g) (tag_of f) a → Same (place_of g) (place_of f) b → Same x e c → pick (a && b) (pick c v (r x g)) (r x g) ≡ r x g
      go true true true (it p) (it q) (it s) = absurd (n s (named g f p q))
      go true true false p q s = refl
      go true false c p q s = refl
      go false b c p q s = refl

  -- and of nothing else can both be said.
  set_only : (r' : ℕ → W → ℕ) → r' e f ≡ v → ((x : ℕ) (g : W) → (x ≡ e → g ≡ f → ⊥) → r' x g ≡ r x g) → (x : ℕ) (g : W) → r' x g ≡ set_word x g
  set_only r' h o x g =
      go (eqb (tag_of g) (tag_of f)) (eqb (place_of g) (place_of f)) (eqb x e) (same (tag_of g) (tag_of f)) (same (place_of g) (place_of f)) (same x e)
    where
      go : (a b c : Bool) → Same (tag_of g) (tag_of f) a → Same (place_of g) (place_of f) b → Same x e c → r' x g ≡ pick (a && b) (pick c v (r x g)) (r x g)
      go true true true (it p) (it q) (it s) = ap₂ r' s (named g f p q) ∙ h
      go true true false p q (other s) = o x g (λ y z. s y)
      go true false c p (other q) s = o x g (λ y z. q (ap₂ (λ (i : ℕ) (w : W). place_of w) y z))
      go false b c (other p) q s = o x g (λ y z. p (ap₂ (λ (i : ℕ) (w : W). tag_of w) y z))

-- An entity's word.
with_entity_lem : (e : ℕ) (f : EntityWord) (v : ℕ) (d : Tables) → WithEntity e f v d (on_entity e (word f v) d)
with_entity_lem e f v d = record {
  set = set_here tag index entity_word_same e f v d.entity;
  others = set_away tag index entity_word_same e f v d.entity;
  users = λ x g. refl;
}

entity_only : (e : ℕ) (f : EntityWord) (v : ℕ) (d d' : Tables) → WithEntity e f v d d' → d' ≡ on_entity e (word f v) d
entity_only e f v d d' h = λ i. record {
  user = fun_ext (λ x. fun_ext (λ g. h.users x g)) i;
  entity = fun_ext (λ x. fun_ext (λ g. set_only tag index entity_word_same e f v d.entity d'.entity h.set h.others x g)) i;
}

-- A user's.
with_user_lem : (u : ℕ) (f : UserWord) (v : ℕ) (d : Tables) → WithUser u f v d (on_user u (user_word f v) d)
with_user_lem u f v d = record {
  set = set_here user_tag user_index user_word_same u f v d.user;
  others = set_away user_tag user_index user_word_same u f v d.user;
  entities = λ x g. refl;
}

user_only : (u : ℕ) (f : UserWord) (v : ℕ) (d d' : Tables) → WithUser u f v d d' → d' ≡ on_user u (user_word f v) d
user_only u f v d d' h = λ i. record {
  user = fun_ext (λ x. fun_ext (λ g. set_only user_tag user_index user_word_same u f v d.user d'.user h.set h.others x g)) i;
  entity = fun_ext (λ x. fun_ext (λ g. h.entities x g)) i;
}

-- So the tables with that word set are not secure exactly where the edited ones are not.
pub entity_insecure : (e : ℕ) (f : EntityWord) (v : ℕ) (d : Tables) → (Secure (on_entity e (word f v) d) → ⊥)
    → (d' : Tables) → WithEntity e f v d d' → Secure d' → ⊥
entity_insecure e f v d n d' h s = n (subst Secure (entity_only e f v d d' h) s)

pub insecure_entity : (e : ℕ) (f : EntityWord) (v : ℕ) (d : Tables) → ((d' : Tables) → WithEntity e f v d d' → Secure d' → ⊥)
    → Secure (on_entity e (word f v) d) → ⊥
insecure_entity e f v d n s = n (on_entity e (word f v) d) (with_entity_lem e f v d) s

pub user_insecure : (u : ℕ) (f : UserWord) (v : ℕ) (d : Tables) → (Secure (on_user u (user_word f v) d) → ⊥)
    → (d' : Tables) → WithUser u f v d d' → Secure d' → ⊥
user_insecure u f v d n d' h s = n (subst Secure (user_only u f v d d' h) s)

pub insecure_user : (u : ℕ) (f : UserWord) (v : ℕ) (d : Tables) → ((d' : Tables) → WithUser u f v d d' → Secure d' → ⊥)
    → Secure (on_user u (user_word f v) d) → ⊥
insecure_user u f v d n s = n (on_user u (user_word f v) d) (with_user_lem u f v d) s
