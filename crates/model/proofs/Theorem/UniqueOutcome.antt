-- The rules leave no choice: no two tables are both the outcome of one allowed operation. So the effect of each is the only tables that
-- section 3, its rule in section 6 and rule 8.4 allow, and a reader needs no definition of an effect.
use Rattle.std.specs.Prelude.{Bool, ◌&&◌, ◌||◌, false, true, ◌≢◌, ◌⊎◌, ◌≡◌, ◌<◌, ◌≤◌, ℕ, T, eqb}
use mathlib.Core.List.{Memᴰ}
use Rattle.std.proofs.Common.{inl, inr, ◌∙◌, ap, sym, arith}
use Rattle.model.specs.Basics.Cases.{cases, lt_or_le}
use Rattle.model.specs.Basics.Choice.{Same, it, other, same}
use Rattle.model.specs.Request.Allowed.{Allowed}
use Rattle.model.specs.Request.Asked.{Asked, named_triple, own}
use Rattle.model.specs.Request.Operations.{Op, row_of, to_acknowledge, to_authorised, to_clear, to_clearance, to_copy, to_create, to_current}
use Rattle.model.specs.Request.Operations.{to_delete, to_device_level, to_edit, to_grant, to_level, to_login, to_logout, to_mark, to_maximum}
use Rattle.model.specs.Request.Operations.{to_move, to_release, to_revoke, to_show}
use Rattle.model.specs.State.Secure.{Good}
use Rattle.model.specs.Tables.Contents.{access_list, contents}
use Rattle.model.specs.Tables.ContentsLaws.{listed_or_not, taken_unique, values_each}
use Rattle.model.specs.Tables.Words.{EntityWord, Tables, UserWord, authorised, clearance, current, device, held, held_op, level, mark}
use Rattle.model.specs.Tables.Words.{maximum, missed, place, places, present, releaser, spare, sums, tag, triple, type, used_places}
use Rattle.model.specs.Tables.Words.{user_tag, value}
use Rattle.model.specs.Tables.WordsOf.{first_values}
use Rattle.model.specs.Theorem.Done.{Emptied, Outcome}
use Rattle.model.proofs.Theorem.DoneLaws.{effect_done}
use Rattle.model.proofs.Theorem.Framed.{framed}
use Rattle.model.proofs.Theorem.Kept.{effect_good}
use Rattle.model.specs.Theorem.MayChange.{screen_word, user_word_is, word_or_row}
use Rattle.model.specs.Theorem.SameWords.{access_same, at_entity, at_user, contents_same, frame_same, one_of, same_number}
use Rattle.model.specs.Theorem.SameWords.{same_user_word, same_word, screen_same, triples_same}
use Rattle.model.proofs.Theorem.UniquePlaces.{create_unique, delete_unique, move_unique}

-- One word of an entity, or of a user, that both tables have the same.
entity_word : (a b : Tables) (e : ℕ) (g : EntityWord) → tag g < tag (place 0) → a.entity e g ≡ b.entity e g → (x : ℕ) (f : EntityWord)
    → T (eqb x e && word_or_row g f) → a.entity x f ≡ b.entity x f
entity_word a b e g h q = at_entity a b e (word_or_row g) (same_word g h (a.entity e) (b.entity e) q)

user_word_lem : (a b : Tables) (u : ℕ) (g : UserWord) → user_tag g < user_tag (spare 0) → a.user u g ≡ b.user u g → (x : ℕ) (f : UserWord)
    → T (eqb x u && user_word_is g f) → a.user x f ≡ b.user x f
user_word_lem a b u g h q = at_user a b u (user_word_is g) (same_user_word g h (a.user u) (b.user u) q)

-- a number is another or is not
is_or_not : (x e : ℕ) → (x ≡ e) ⊎ (x ≢ e)
is_or_not x e = go (eqb x e) (same x e)
  where
    go : (t : Bool) → Same x e t → (x ≡ e) ⊎ (x ≢ e)
    go true (it q) = inl q
    go false (other q) = inr q

module _ (s : Asked) (d a b : Tables) where
  -- the triples of both are one list
  grant_unique : Outcome to_grant s d a → Outcome to_grant s d b → a ≡ b
  grant_unique p q = frame_same to_grant s d a b p.framed q.framed (λ x f t. absurd t)
      (at_entity a b e (word_or_row (triple 0))
      (triples_same (a.entity e) (b.entity e) (access_same a b p.well_formed q.well_formed e list_same)))
    where
      e : ℕ
      e = s.first

      list_same : access_list a e ≡ access_list b e
      list_same = cases (listed_or_not (named_triple s) (access_list d e)) (λ m. p.done.again m ∙ sym (q.done.again m))
          (λ m. p.done.last m ∙ sym (q.done.last m))

  revoke_unique : Outcome to_revoke s d a → Outcome to_revoke s d b → a ≡ b
  revoke_unique p q = frame_same to_revoke s d a b p.framed q.framed (λ x f t. absurd t)
      (at_entity a b e (word_or_row (triple 0))
      (triples_same (a.entity e) (b.entity e) (access_same a b p.well_formed q.well_formed e
      (taken_unique (named_triple s) (access_list d e) (access_list a e) (access_list b e) p.done q.done))))
    where
      e : ℕ
      e = s.first

  show_unique : Outcome to_show s d a → Outcome to_show s d b → a ≡ b
  show_unique p q = frame_same to_show s d a b p.framed q.framed (λ x f t. absurd t)
      (at_entity a b v screen_word (screen_same (a.entity v) (b.entity v) places_same sums_same))
    where
      v : ℕ
      v = own d s

      e : ℕ
      e = s.first

      shows : Memᴰ e (contents d v) ⊎ (Memᴰ e (contents d v) → ⊥)
      shows = listed_or_not e (contents d v)

      places_same : (used_places a v ≡ used_places b v) × ((i : ℕ) → places a v i ≡ places b v i)
      places_same = contents_same a b p.well_formed q.well_formed v
          (cases shows (λ m. p.done.again m ∙ sym (q.done.again m)) (λ m. p.done.last m ∙ sym (q.done.last m)))

      -- behind the used places there are no sums
      behind : (i : ℕ) → used_places a v ≤ i → sums a v i ≡ sums b v i
      behind i h = (p.well_formed.entities v).filled.rest_sums i h ∙ sym ((q.well_formed.entities v).filled.rest_sums i (omega (arith, places_same.0)))

      known : (i : ℕ) → i < used_places d v → sums a v i ≡ sums b v i
      known i h = cases (is_or_not (places d v i) e) (λ z. p.done.sum i h z ∙ sym (q.done.sum i h z))
          (λ z. p.done.others i h z ∙ sym (q.done.others i h z))

      sums_same : (i : ℕ) → sums a v i ≡ sums b v i
      sums_same i = cases shows
          (λ m.
          let n : used_places a v ≡ used_places d v = same_number (used_places a v) (used_places d v) (places a v) (places d v) (p.done.again m) in
          cases (lt_or_le i (used_places d v)) (known i) (λ h. behind i (omega arith)))
          (λ m. cases (lt_or_le i (used_places a v))
          (values_each (used_places a v) (sums a v) (sums b v) (p.done.last_sum m ∙ sym (q.done.last_sum m)
          ∙ ap (λ (n : ℕ). first_values n (sums b v)) (sym places_same.0)) i)
          (behind i))

  -- two emptied screens
  emptied_same : Emptied (own d s) a → Emptied (own d s) b → (x : ℕ) (f : EntityWord) → T (eqb x (own d s) && screen_word f) → a.entity x f ≡ b.entity x f
  emptied_same p q = at_entity a b v screen_word (screen_same (a.entity v) (b.entity v) (p.none ∙ sym q.none, λ i. p.no_place i ∙ sym (q.no_place i))
      (λ i. p.no_sum i ∙ sym (q.no_sum i)))
    where
      v : ℕ
      v = own d s

  logout_unique : Outcome to_logout s d a → Outcome to_logout s d b → a ≡ b
  logout_unique p q = frame_same to_logout s d a b p.framed q.framed
      (at_user a b u (λ f. user_word_is device f || user_word_is current f) (λ f t. cases (one_of (user_word_is device f) (user_word_is current f) t)
      (same_user_word device (omega arith) (a.user u) (b.user u) (p.done.off ∙ sym q.done.off) f)
      (same_user_word current (omega arith) (a.user u) (b.user u) (p.done.no_roles ∙ sym q.done.no_roles) f)))
      (emptied_same p.done.screen q.done.screen)
    where
      u : ℕ
      u = s.user

  release_unique : Outcome to_release s d a → Outcome to_release s d b → a ≡ b
  release_unique p q = frame_same to_release s d a b p.framed q.framed (λ x f t. absurd t)
      (at_entity a b e (λ f. word_or_row type f || word_or_row releaser f) (λ f t. cases (one_of (word_or_row type f) (word_or_row releaser f) t)
      (same_word type (omega arith) (a.entity e) (b.entity e) (p.done.released ∙ sym q.done.released) f)
      (same_word releaser (omega arith) (a.entity e) (b.entity e) (p.done.by ∙ sym q.done.by) f)))
    where
      e : ℕ
      e = s.first

  acknowledge_unique : Outcome to_acknowledge s d a → Outcome to_acknowledge s d b → a ≡ b
  acknowledge_unique p q = frame_same to_acknowledge s d a b p.framed q.framed
      (at_user a b u (λ f. user_word_is held f || (user_word_is held_op f || user_word_is missed f)) (λ f t.
      cases (one_of (user_word_is held f) (user_word_is held_op f || user_word_is missed f) t)
      (same_user_word held (omega arith) (a.user u) (b.user u) (p.done.no_refusal ∙ sym q.done.no_refusal) f)
      (λ t₁. cases (one_of (user_word_is held_op f) (user_word_is missed f) t₁)
      (same_user_word held_op (omega arith) (a.user u) (b.user u) (p.done.no_operation ∙ sym q.done.no_operation) f)
      (same_user_word missed (omega arith) (a.user u) (b.user u) (p.done.none_missed ∙ sym q.done.none_missed) f))))
      (λ x f t. absurd t)
    where
      u : ℕ
      u = s.user

  -- Of all twenty: two outcomes are one.
  pub outcome_unique : (o : Op) → Allowed o s d → Outcome o s d a → Outcome o s d b → a ≡ b
  outcome_unique to_create h p q = create_unique s d a b h p q
  outcome_unique to_delete h p q = delete_unique s d a b p q
  outcome_unique to_move h p q = move_unique s d a b p q
  outcome_unique to_edit h p q =
      frame_same to_edit s d a b p.framed q.framed (λ x f t. absurd t) (entity_word a b s.first value (omega arith) (p.done ∙ sym q.done))
  outcome_unique to_copy h p q =
      frame_same to_copy s d a b p.framed q.framed (λ x f t. absurd t) (entity_word a b s.second value (omega arith) (p.done ∙ sym q.done))
  outcome_unique to_level h p q =
      frame_same to_level s d a b p.framed q.framed (λ x f t. absurd t) (entity_word a b s.first level (omega arith) (p.done ∙ sym q.done))
  outcome_unique to_mark h p q =
      frame_same to_mark s d a b p.framed q.framed (λ x f t. absurd t) (entity_word a b s.first mark (omega arith) (p.done ∙ sym q.done))
  outcome_unique to_grant h p q = grant_unique p q
  outcome_unique to_revoke h p q = revoke_unique p q
  outcome_unique to_show h p q = show_unique p q
  outcome_unique to_clear h p q = frame_same to_clear s d a b p.framed q.framed (λ x f t. absurd t) (emptied_same p.done q.done)
  outcome_unique to_login h p q =
      frame_same to_login s d a b p.framed q.framed (user_word_lem a b s.user device (omega arith) (p.done ∙ sym q.done)) (λ x f t. absurd t)
  outcome_unique to_logout h p q = logout_unique p q
  outcome_unique to_current h p q =
      frame_same to_current s d a b p.framed q.framed (user_word_lem a b s.a current (omega arith) (p.done ∙ sym q.done)) (λ x f t. absurd t)
  outcome_unique to_clearance h p q =
      frame_same to_clearance s d a b p.framed q.framed (user_word_lem a b s.a clearance (omega arith) (p.done ∙ sym q.done)) (λ x f t. absurd t)
  outcome_unique to_authorised h p q =
      frame_same to_authorised s d a b p.framed q.framed (user_word_lem a b s.a authorised (omega arith) (p.done ∙ sym q.done)) (λ x f t. absurd t)
  outcome_unique to_maximum h p q =
      frame_same to_maximum s d a b p.framed q.framed (λ x f t. absurd t) (entity_word a b s.first maximum (omega arith) (p.done ∙ sym q.done))
  outcome_unique to_device_level h p q =
      frame_same to_device_level s d a b p.framed q.framed (λ x f t. absurd t) (entity_word a b s.first level (omega arith) (p.done ∙ sym q.done))
  outcome_unique to_release h p q = release_unique p q
  outcome_unique to_acknowledge h p q = acknowledge_unique p q

module _ (d : Tables) (g : Good d) (s : Asked) (there : d.user s.user present ≢ 0) where
  -- The effect of an allowed operation is its outcome,
  pub effect_outcome : (o : Op) → Allowed o s d → Outcome o s d ((row_of o).effect s d)
  effect_outcome o h = record {
    well_formed = (effect_good d g.0 g.1 s there o h).0;
    done = effect_done o d g.0 s h;
    framed = framed o d g.0 s h;
  }

  -- and every outcome of it is the effect.
  pub done_exact : (o : Op) → Allowed o s d → (d' : Tables) → Outcome o s d d' → d' ≡ (row_of o).effect s d
  done_exact o h d' p = outcome_unique s d d' ((row_of o).effect s d) o h p (effect_outcome o h)
