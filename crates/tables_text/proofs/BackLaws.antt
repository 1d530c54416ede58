-- Rule 16.6, from the text: what a reading gives is told by this text and by no other. Nothing is asked of the tables.
use Rattle.std.specs.Prelude.{List, [], ◌++◌, ◌∷◌, ◌⊎◌, ◌≡◌, refl, ◌+◌, ◌<◌, ◌≤◌, suc, zero, ℕ}
use Rattle.std.proofs.Common.{append-nil, ◌∙◌, sym}
use Rattle.std.proofs.Math.Logic.{inl, inr}
use Rattle.std.proofs.Math.Path.{ap, subst}
use native.Mathlib.Omega.{arith}
use Rattle.model.specs.Basics.Cases.{cases, lt_or_le}
use Rattle.model.specs.Tables.Layout.{Bounded}
use Rattle.model.specs.Tables.WordAt.{user_word_at}
use Rattle.model.specs.Tables.Words.{EntityWord, Tables, UserWord, entity_count, kind, present, user_count}
use Rattle.model.specs.Text.LineLaws.{behind_back}
use Rattle.model.specs.Text.Lines.{behind}
use Rattle.model.specs.Text.Wording.{user_key}
use Rattle.tables_text.proofs.EntityLaws.{entity_record_back, entity_rest, rest_same}
use Rattle.tables_text.specs.Keys.{entity_key, user_fields}
use Rattle.tables_text.specs.StageLaws.{either_back, lines_onto, onward_back}
use Rattle.tables_text.specs.Stages.{at_end, entities_stage, entity_record, no_tables, past, reading, user_record, users_stage}
use Rattle.tables_text.specs.TextOf.{entity_text, field_lines, series, tables_text, user_lines, user_text, user_words}
use Rattle.tables_text.specs.Told.{Blank, EntityTold, SmallTables, TablesTold, UserTold}
use Rattle.tables_text.proofs.ToldLaws.{entity_absent, entity_present, told_bounded, told_kind, told_small, user_absent_lem, user_present}
use Rattle.tables_text.proofs.UserLaws.{user_record_back}
use Rattle.tables_text.specs.Values.{number_line}

-- k users from u on were read: those before are as they were, those after k are blank, and these have these lines
record UsersRead (k u : ℕ) (d : Tables) (s : List ℕ) (d' : Tables) (x : List ℕ) : Type 0 where
  entities : d'.entity ≡ d.entity
  before : (v : ℕ) → v < u → d'.user v ≡ d.user v
  told : (v : ℕ) → u ≤ v → Blank (d'.user v) ⊎ UserTold (d'.user v)
  after : (v : ℕ) → u + k ≤ v → Blank (d'.user v)
  text : s ≡ series k u (user_text d') ++ x

module _ (k u : ℕ) (d : Tables) (s : List ℕ) (d' : Tables) (x : List ℕ) where
  -- user u was told, and k after it were read
  user_told : (c : Tables) (y t : List ℕ) → s ≡ number_line user_key u ++ y → c.entity ≡ d.entity → ((v : ℕ) → (v ≡ u → ⊥) → c.user v ≡ d.user v)
      → UserTold (c.user u) → y ≡ field_lines user_fields 1 (user_words c u) ++ t → UsersRead k (suc u) c t d' x → UsersRead (suc k) u d s d' x
  unfolding series
  user_told c y t h e o w l i =
      let q : d'.user u ≡ c.user u = i.before u (omega arith) in
      let p : UserTold (d'.user u) = subst UserTold (sym q) w in
      let f : y ≡ field_lines user_fields 1 (user_words d' u) ++ t =
      l ∙ ap (λ (g : UserWord → ℕ). field_lines user_fields 1 (λ j. g (user_word_at j)) ++ t) (sym q) in
      let g : s ≡ user_text d' u ++ t =
      lines_onto (number_line user_key u) (field_lines user_fields 1 (user_words d' u)) s y t h f
      ∙ ap (λ m. m ++ t) (sym (user_present d' u (omega (arith, p.present)))) in
      record {
        entities = i.entities ∙ e;
        before = λ v a. i.before v (omega arith) ∙ o v (λ z. omega arith);
        told = λ v a. cases (lt_or_le u v) (λ b. i.told v b) (λ b. let z : u ≡ v = omega arith in inr (subst (λ (n : ℕ). UserTold (d'.user n)) z p));
        after = λ v a. i.after v (omega arith);
        text = lines_onto (user_text d' u) (series k (suc u) (user_text d')) s t x g i.text;
      }

  -- user u is absent, and k after it were read
  user_none : Blank (d.user u) → UsersRead k (suc u) d s d' x → UsersRead (suc k) u d s d' x
  unfolding series
  user_none z i =
      let q : d'.user u ≡ d.user u = i.before u (omega arith) in
      let b : Blank (d'.user u) = subst Blank (sym q) z in
      record {
        entities = i.entities;
        before = λ v a. i.before v (omega arith);
        told = λ v a. cases (lt_or_le u v) (λ l. i.told v l) (λ l. let y : u ≡ v = omega arith in inl (subst (λ (n : ℕ). Blank (d'.user n)) y b));
        after = λ v a. i.after v (omega arith);
        text = i.text ∙ ap (λ m. (m ++ series k (suc u) (user_text d')) ++ x) (sym (user_absent_lem d' u (b present)));
      }

users_back : (k u : ℕ) (d : Tables) (s : List ℕ) (d' : Tables) (x : List ℕ) → ((v : ℕ) → u ≤ v → Blank (d.user v)) → users_stage k u d s ≡ past d' x
    → UsersRead k u d s d' x
unfolding users_stage series
users_back zero u d s d' x z e =
    let p : d ≡ d' = cc in
    let q : s ≡ x = cc in
    let r : UsersRead 0 u d s d s =
    record { entities = refl; before = λ v a. refl; told = λ v a. inl (z v a); after = λ v a. z v (omega arith); text = refl } in
    subst (λ (c : Tables). UsersRead 0 u d s c x) p (subst (λ (y : List ℕ). UsersRead 0 u d s d y) q r)
users_back (suc k) u d s d' x z e =
    either_back (behind (number_line user_key u) s) _ _ d' x e
    (λ y ey e₁. onward_back (user_record u d y) _ d' x e₁ λ c t p q.
    let b = user_record_back u d y c t (z u (omega arith)) p in
    let i : UsersRead k (suc u) c t d' x =
    users_back k (suc u) c t d' x (λ v a. subst Blank (sym (b.1 v (λ h. omega arith))) (z v (omega arith))) q in
    user_told k u d s d' x c y t (behind_back (number_line user_key u) s y ey) b.0 b.1 b.2 b.3 i)
    (λ n e₁. user_none k u d s d' x (z u (omega arith)) (users_back k (suc u) d s d' x (λ v a. z v (omega arith)) e₁))

-- the same of entities
record EntitiesRead (k e : ℕ) (d : Tables) (s : List ℕ) (d' : Tables) (x : List ℕ) : Type 0 where
  users : d'.user ≡ d.user
  before : (v : ℕ) → v < e → d'.entity v ≡ d.entity v
  told : (v : ℕ) → e ≤ v → Blank (d'.entity v) ⊎ EntityTold (d'.entity v)
  after : (v : ℕ) → e + k ≤ v → Blank (d'.entity v)
  text : s ≡ series k e (entity_text d') ++ x

module _ (k e : ℕ) (d : Tables) (s : List ℕ) (d' : Tables) (x : List ℕ) where
  entity_told : (c : Tables) (y t : List ℕ) → s ≡ number_line entity_key e ++ y → c.user ≡ d.user → ((v : ℕ) → (v ≡ e → ⊥) → c.entity v ≡ d.entity v)
      → EntityTold (c.entity e) → y ≡ entity_rest c e ++ t → EntitiesRead k (suc e) c t d' x → EntitiesRead (suc k) e d s d' x
  unfolding series
  entity_told c y t h p o w l i =
      let q : d'.entity e ≡ c.entity e = i.before e (omega arith) in
      let r : EntityTold (d'.entity e) = subst EntityTold (sym q) w in
      let f : y ≡ entity_rest d' e ++ t = l ∙ ap (λ m. m ++ t) (rest_same c d' e (sym q)) in
      let g : s ≡ entity_text d' e ++ t =
      lines_onto (number_line entity_key e) (entity_rest d' e) s y t h f
      ∙ ap (λ m. m ++ t) (sym (entity_present d' e (told_kind (d'.entity e) r))) in
      record {
        users = i.users ∙ p;
        before = λ v a. i.before v (omega arith) ∙ o v (λ z. omega arith);
        told = λ v a. cases (lt_or_le e v) (λ b. i.told v b) (λ b. let z : e ≡ v = omega arith in inr (subst (λ (n : ℕ). EntityTold (d'.entity n)) z r));
        after = λ v a. i.after v (omega arith);
        text = lines_onto (entity_text d' e) (series k (suc e) (entity_text d')) s t x g i.text;
      }

  entity_none : Blank (d.entity e) → EntitiesRead k (suc e) d s d' x → EntitiesRead (suc k) e d s d' x
  unfolding series
  entity_none z i =
      let q : d'.entity e ≡ d.entity e = i.before e (omega arith) in
      let b : Blank (d'.entity e) = subst Blank (sym q) z in
      record {
        users = i.users;
        before = λ v a. i.before v (omega arith);
        told = λ v a. cases (lt_or_le e v) (λ l. i.told v l) (λ l. let y : e ≡ v = omega arith in inl (subst (λ (n : ℕ). Blank (d'.entity n)) y b));
        after = λ v a. i.after v (omega arith);
        text = i.text ∙ ap (λ m. (m ++ series k (suc e) (entity_text d')) ++ x) (sym (entity_absent d' e (b kind)));
      }

entities_back : (k e : ℕ) (d : Tables) (s : List ℕ) (d' : Tables) (x : List ℕ) → ((v : ℕ) → e ≤ v → Blank (d.entity v)) → entities_stage k e d s ≡ past d' x
    → EntitiesRead k e d s d' x
unfolding entities_stage series
entities_back zero e d s d' x z h =
    let p : d ≡ d' = cc in
    let q : s ≡ x = cc in
    let r : EntitiesRead 0 e d s d s =
    record { users = refl; before = λ v a. refl; told = λ v a. inl (z v a); after = λ v a. z v (omega arith); text = refl } in
    subst (λ (c : Tables). EntitiesRead 0 e d s c x) p (subst (λ (y : List ℕ). EntitiesRead 0 e d s d y) q r)
entities_back (suc k) e d s d' x z h =
    either_back (behind (number_line entity_key e) s) _ _ d' x h
    (λ y ey e₁. onward_back (entity_record e d y) _ d' x e₁ λ c t p q.
    let b = entity_record_back e d y c t (z e (omega arith)) p in
    let i : EntitiesRead k (suc e) c t d' x =
    entities_back k (suc e) c t d' x (λ v a. subst Blank (sym (b.1 v (λ h. omega arith))) (z v (omega arith))) q in
    entity_told k e d s d' x c y t (behind_back (number_line entity_key e) s y ey) b.0 b.1 b.2 b.3 i)
    (λ n e₁. entity_none k e d s d' x (z e (omega arith)) (entities_back k (suc e) d s d' x (λ v a. z v (omega arith)) e₁))

-- ---- a whole text

-- the users' part of a text is settled by the users
users_same : (c d : Tables) → c.user ≡ d.user → series user_count 1 (user_text c) ≡ series user_count 1 (user_text d)
unfolding user_text user_lines
users_same c d q = ap (λ (r : ℕ → UserWord → ℕ). series user_count 1 (user_text (record { user = r; entity = d.entity }))) q

-- what is read to its end
end_back : (c : Tables) (y : List ℕ) (d : Tables) (x : List ℕ) → at_end c y ≡ past d x → (y ≡ []) × (c ≡ d) × (x ≡ [])
end_back c [] d x e = (refl, cc, cc)
end_back c (b ∷ y) d x e = let z : ◌≡◌ {A = ℕ} 0 1 = cc in absurd (omega arith)

-- the numbers outside
outside : {C : Type 0} (x n : ℕ) → (x ≡ 0) ⊎ (n < x) → (x < 1 → C) → (1 + n ≤ x → C) → C
outside x n (inl q) f g = f (omega arith)
outside x n (inr q) f g = g (omega arith)

both_parts : (c d : Tables) (s y : List ℕ) → UsersRead user_count 1 no_tables s c y → EntitiesRead entity_count 1 c y d [] → (s ≡ tables_text d) × TablesTold d
unfolding tables_text
both_parts c d s y u e = (
  u.text ∙ ap (λ l. l ++ y) (users_same c d (sym e.users))
      ∙ ap (λ l. series user_count 1 (user_text d) ++ l) (e.text ∙ append-nil (series entity_count 1 (entity_text d))),
  record { users = users; entities = entities; users_out = users_out; entities_out = entities_out },
)
  where
    blank_user : (v : ℕ) → Blank (c.user v) → Blank (d.user v)
    blank_user v b f = ap (λ (r : ℕ → UserWord → ℕ). r v f) e.users ∙ b f

    users : (v : ℕ) → Blank (d.user v) ⊎ UserTold (d.user v)
    users v =
        cases (lt_or_le v 1)
        (λ l. inl (blank_user v (λ f. ap (λ (w : UserWord → ℕ). w f) (u.before v l))))
        (λ l. cases (u.told v l) (λ b. inl (blank_user v b)) (λ t. inr (subst (λ (r : ℕ → UserWord → ℕ). UserTold (r v)) (sym e.users) t)))

    users_out : (v : ℕ) → (v ≡ 0) ⊎ (user_count < v) → Blank (d.user v)
    users_out v q =
        outside v user_count q
        (λ l. blank_user v (λ f. ap (λ (w : UserWord → ℕ). w f) (u.before v l)))
        (λ l. blank_user v (u.after v l))

    blank_entity : (v : ℕ) → v < 1 → Blank (d.entity v)
    blank_entity v l f = ap (λ (w : EntityWord → ℕ). w f) (e.before v l) ∙ ap (λ (r : ℕ → EntityWord → ℕ). r v f) u.entities

    entities : (v : ℕ) → Blank (d.entity v) ⊎ EntityTold (d.entity v)
    entities v = cases (lt_or_le v 1) (λ l. inl (blank_entity v l)) (λ l. e.told v l)

    entities_out : (v : ℕ) → (v ≡ 0) ⊎ (entity_count < v) → Blank (d.entity v)
    entities_out v q = outside v entity_count q (λ l. blank_entity v l) (λ l. e.after v l)

-- Rule 16.6: a text that is read is read to its end, it is the text of what it gave, and that can be told.
pub reading_back : (s : List ℕ) (d : Tables) (x : List ℕ) → reading s ≡ past d x → (x ≡ []) × (s ≡ tables_text d) × TablesTold d
unfolding reading
reading_back s d x h =
    onward_back (users_stage user_count 1 no_tables s) _ d x h λ c y p q.
    onward_back (entities_stage entity_count 1 c y) _ d x q λ b z p₁ q₁.
    let u : UsersRead user_count 1 no_tables s c y = users_back user_count 1 no_tables s c y (λ v a f. refl) p in
    let e : EntitiesRead entity_count 1 c y b z =
    entities_back entity_count 1 c y b z (λ v a f. ap (λ (r : ℕ → EntityWord → ℕ). r v f) u.entities) p₁ in
    let n : (z ≡ []) × (b ≡ d) × (x ≡ []) = end_back b z d x q₁ in
    let e₁ : EntitiesRead entity_count 1 c y d [] =
    subst (λ (k : Tables). EntitiesRead entity_count 1 c y k []) n.1 (subst (λ (l : List ℕ). EntitiesRead entity_count 1 c y b l) n.0 e) in
    let r : (s ≡ tables_text d) × TablesTold d = both_parts c d s y u e₁ in
    (n.2, r.0, r.1)

-- So what a reading gives has words of 32 bits, and nothing outside the users, the entities and their rows.
pub reading_bounded : (s : List ℕ) (d : Tables) (x : List ℕ) → reading s ≡ past d x → SmallTables d × Bounded d
reading_bounded s d x e = let t : TablesTold d = (reading_back s d x e).2 in (told_small d t, told_bounded d t)
