-- Definitions 8 to 11 hold where the words that they speak of are as they were, or changed at one record by who may.
use Rattle.std.specs.Prelude.{Bool, false, true, ◌≢◌, ◌⊎◌, ◌≡◌, refl, ℕ, eqb}
use Rattle.std.proofs.Common.{inl, inr, ◌∙◌, ap, subst, sym}
use Rattle.model.specs.Basics.Choice.{Same, it, other, pick, same}
use Rattle.model.specs.Effect.Places.{erase}
use Rattle.model.specs.Level.{Drops, downgrader, officer}
use Rattle.model.proofs.LevelLaws.{drops_differs}
use Rattle.model.specs.Request.Asked.{HasRole}
use Rattle.model.specs.Request.Conditions.{level_of}
use Rattle.model.specs.Request.Words.{Request}
use Rattle.model.specs.Tables.EditLaws.{case, elsewhere}
use Rattle.model.specs.Tables.Words.{Tables, absent_kind, authorised, clearance, current, devices, kinds, maximum, releaser, type}
use Rattle.model.specs.Theorem.Definitions.{Both, DowngradeSecure, ReleaseSecure, SetSecure, ShowsId}
use Rattle.model.specs.Theorem.Statements.{Ids}

-- two columns agree on every entity that is present before and after
abbrev pub AsWas : Tables → Tables → (ℕ → ℕ) → (ℕ → ℕ) → Type 0
AsWas d d' f g = (x : ℕ) → Both d d' x → f x ≡ g x

-- Rules 9.8 to 9.11, by what has changed; rule 9.8 of every device.
pub record Changes (d : Tables) (q : Request) (d' : Tables) : Type 0 where
  pub ids : Ids d q d'
  pub setting : SetSecure d q d'
  pub downgrade : DowngradeSecure d q d'
  pub release : ReleaseSecure d q d'

-- Rule 9.8 holds if no device shows an ID that it did not show.
pub ids_same : (q : Request) (d d' : Tables) → ((v x : ℕ) → ShowsId d' v x → ShowsId d v x) → Ids d q d'
ids_same q d d' f v x b h = inl (f v x h)

-- Rule 9.9 holds if maxima, clearances, authorised and current roles are as they were.
pub set_same : (q : Request) (d d' : Tables) → AsWas d d' (λ x. d'.entity x maximum) (λ x. d.entity x maximum)
    → ((x : ℕ) → d'.user x clearance ≡ d.user x clearance)
    → ((x : ℕ) → d'.user x authorised ≡ d.user x authorised) → ((x : ℕ) → d'.user x current ≡ d.user x current) → SetSecure d q d'
set_same q d d' m c a r = record {
  maximum = λ x b n. absurd (n (m x b));
  clearance = λ x n. absurd (n (c x));
  authorised = λ x n. absurd (n (a x));
  current = λ x n. absurd (n (r x));
}

-- Rule 9.10 holds if levels are as they were.
pub downgrade_same : (q : Request) (d d' : Tables) → AsWas d d' (level_of d') (level_of d) → DowngradeSecure d q d'
downgrade_same q d d' e x b o l = absurd (drops_differs (level_of d' x) (level_of d x) l (e x b))

-- Rule 9.11 holds if types and releasers are as they were.
pub release_same : (q : Request) (d d' : Tables) → AsWas d d' (λ x. d'.entity x type) (λ x. d.entity x type)
    → AsWas d d' (λ x. d'.entity x releaser) (λ x. d.entity x releaser) → ReleaseSecure d q d'
release_same q d d' e f = record { stays = λ x b h. (e x b ∙ h, f x b); becomes = λ x b n h. absurd (n (sym (e x b) ∙ h)) }

-- the four laws of what is as it was, for `search`
pub ruleset sames = (ids_same, set_same, downgrade_same, release_same)

-- Rule 9.9 holds of whatever the officer does.
pub set_officer : (q : Request) (d d' : Tables) → HasRole d q.user officer → SetSecure d q d'
set_officer q d d' h = record { maximum = λ x b n. h; clearance = λ x n. h; authorised = λ x n. h; current = λ x n. inr h }

-- Rule 9.9 holds where the current roles of one user are all that has changed, by that user or the officer.
pub set_current_lem : (q : Request) (d d' : Tables) (u v : ℕ) → AsWas d d' (λ x. d'.entity x maximum) (λ x. d.entity x maximum)
    → ((x : ℕ) → d'.user x clearance ≡ d.user x clearance)
    → ((x : ℕ) → d'.user x authorised ≡ d.user x authorised) → ((x : ℕ) → d'.user x current ≡ pick (eqb x u) v (d.user x current))
    → (u ≢ q.user → HasRole d q.user officer) → SetSecure d q d'
set_current_lem q d d' u v m c a r h = record {
  maximum = λ x b n. absurd (n (m x b));
  clearance = λ x n. absurd (n (c x));
  authorised = λ x n. absurd (n (a x));
  current = λ x n. theirs x (eqb x u) (same x u) (λ e. n (r x ∙ e));
}
  where
    mine : (x : ℕ) → x ≡ u → (b : Bool) → Same u q.user b → (x ≡ q.user) ⊎ HasRole d q.user officer
    mine x e true (it z) = inl (e ∙ z)
    mine x e false (other z) = inr (h z)

    theirs : (x : ℕ) (b : Bool) → Same x u b → pick b v (d.user x current) ≢ d.user x current → (x ≡ q.user) ⊎ HasRole d q.user officer
    theirs x true (it e) n = mine x e (eqb u q.user) (same u q.user)
    theirs x false (other e) n = absurd (n refl)

-- Rule 9.10 holds where the level of e is all that has changed, and who lets it drop has the role, but on the own device.
pub downgrade_one : (q : Request) (d d' : Tables) (e l : ℕ) → ((x : ℕ) → level_of d' x ≡ pick (eqb x e) l (level_of d x))
    → (Drops l (level_of d e) → e ≢ devices d q.user → HasRole d q.user downgrader) → DowngradeSecure d q d'
downgrade_one q d d' e l c h x b o low =
    case (λ (y : ℕ). Drops y (level_of d x) → HasRole d q.user downgrader) x e l (level_of d x)
    (λ r z. h (subst (λ (y : ℕ). Drops l (level_of d y)) r z) (λ z. o (r ∙ z)))
    (λ r z. absurd (drops_differs (level_of d x) (level_of d x) z refl))
    (rw (c x) at low)

-- A record that was zeroed is not present afterwards, and every other word is as it was.
pub erased : (e : ℕ) (d : Tables) (x a : ℕ) → kinds (erase e d) x ≢ absent_kind → pick (eqb x e) 0 a ≡ a
erased e d x a = go (eqb x e)
  where
    go : (b : Bool) → pick b 0 (kinds d x) ≢ absent_kind → pick b 0 a ≡ a
    go true h = absurd (h refl)
    go false h = refl

-- A word set at a number that was absent is no change of an entity that was present.
pub unborn : (e : ℕ) (d : Tables) (x a v : ℕ) → kinds d e ≡ absent_kind → kinds d x ≢ absent_kind → pick (eqb x e) v a ≡ a
unborn e d x a v gone there = elsewhere x e v a (λ r. there (ap (kinds d) r ∙ gone))
