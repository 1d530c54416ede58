-- Two records, or two tables, with the same words: what their lists and the words that an operation may change say of them.
use Rattle.std.specs.Prelude.{Bool, ◌&&◌, ◌||◌, false, not, true, List, ◌⊎◌, ◌≡◌, refl, ◌<◌, ℕ, T, eqb, length}
use Rattle.std.proofs.Common.{◌∙◌, ap, subst, sym, arith, eqb→eq}
use Rattle.std.proofs.Math.Path.{fun_ext}
use Rattle.model.specs.Basics.Agree.{agrees_T, agrees_or}
use Rattle.model.specs.Basics.Cases.{cases, lt_or_le}
use Rattle.model.specs.Basics.TestLaws.{T-l, T-r}
use Rattle.model.specs.Request.Asked.{Asked}
use Rattle.model.specs.Request.Operations.{Op}
use Rattle.model.specs.State.WellFormed.{WellFormed}
use Rattle.model.specs.Tables.Contents.{access_list, contents}
use Rattle.model.specs.Tables.ContentsLaws.{packed_list, values_each}
use Rattle.model.specs.Tables.Rows.{Packed}
use Rattle.model.specs.Tables.WordAtLaws.{entity_word_same, user_word_same}
use Rattle.model.specs.Tables.Words.{EntityWord, Tables, UserWord, authorised, clearance, current, device, held, held_op, index, kind}
use Rattle.model.specs.Tables.Words.{level, mark, maximum, missed, place, places, present, releaser, shown, spare, tag, triple}
use Rattle.model.specs.Tables.Words.{triples, type, used, used_places, user_index, user_tag, value}
use Rattle.model.specs.Tables.WordsOf.{first_values}
use Rattle.model.specs.Tables.WordsOfLaws.{values_length}
use Rattle.model.specs.Theorem.MayChange.{Frame, content_word, entity_may, screen_word, user_may, user_word_is, word_or_row}

-- one of two tests holds
pub one_of : (a b : Bool) → T (a || b) → T a ⊎ T b
one_of a b = (agrees_or (agrees_T a) (agrees_T b)).to

-- tables with the same words are the same tables
pub tables_same : (a b : Tables) → ((x : ℕ) (f : UserWord) → a.user x f ≡ b.user x f) → ((x : ℕ) (f : EntityWord) → a.entity x f ≡ b.entity x f) → a ≡ b
tables_same a b u e = λ i. record { user = fun_ext (λ x. fun_ext (u x)) i; entity = fun_ext (λ x. fun_ext (e x)) i }

-- two numbers are the same, if they are where a test holds and both are a third where it does not
where_both : (b : Bool) (x y z : ℕ) → (T b → x ≡ y) → (T (not b) → x ≡ z) → (T (not b) → y ≡ z) → x ≡ y
where_both true x y z f g h = f tt
where_both false x y z f g h = g tt ∙ sym (h tt)

-- Two tables in one frame are the same, if they are in the words that the operation may change.
pub frame_same : (o : Op) (s : Asked) (d a b : Tables) → Frame o s d a → Frame o s d b
    → ((x : ℕ) (f : UserWord) → T (user_may o s d x f) → a.user x f ≡ b.user x f)
    → ((x : ℕ) (f : EntityWord) → T (entity_may o s d x f) → a.entity x f ≡ b.entity x f) → a ≡ b
frame_same o s d a b p q u e = tables_same a b
    (λ x f. where_both (user_may o s d x f) (a.user x f) (b.user x f) (d.user x f) (u x f) (p.users x f) (q.users x f))
    (λ x f. where_both (entity_may o s d x f) (a.entity x f) (b.entity x f) (d.entity x f) (e x f) (p.entities x f) (q.entities x f))

-- a word outside the rows has no place
single_index : (f : EntityWord) → tag f < tag (place 0) → index f ≡ 0
single_index kind h = refl
single_index type h = refl
single_index level h = refl
single_index mark h = refl
single_index value h = refl
single_index releaser h = refl
single_index maximum h = refl
single_index used h = refl
single_index (place i) h = absurd (omega (arith, h))
single_index (shown i) h = absurd (omega (arith, h))
single_index (triple i) h = absurd (omega (arith, h))

single_user_index : (f : UserWord) → user_tag f < user_tag (spare 0) → user_index f ≡ 0
single_user_index present h = refl
single_user_index clearance h = refl
single_user_index authorised h = refl
single_user_index current h = refl
single_user_index device h = refl
single_user_index held h = refl
single_user_index held_op h = refl
single_user_index missed h = refl
single_user_index (spare i) h = absurd (omega (arith, h))

-- Two records are the same in every word of a tag, if they are in the one word that has it.
pub same_word : (g : EntityWord) → tag g < tag (place 0) → (w v : EntityWord → ℕ) → w g ≡ v g → (f : EntityWord) → T (word_or_row g f) → w f ≡ v f
same_word g h w v e f t =
    let q : tag f ≡ tag g = eqb→eq (tag f) (tag g) t in
    let z : f ≡ g = entity_word_same f g q (single_index f (omega arith) ∙ sym (single_index g h)) in
    subst (λ (k : EntityWord). w k ≡ v k) (sym z) e

pub same_user_word : (g : UserWord) → user_tag g < user_tag (spare 0) → (w v : UserWord → ℕ) → w g ≡ v g → (f : UserWord) → T (user_word_is g f) → w f ≡ v f
same_user_word g h w v e f t =
    let q : user_tag f ≡ user_tag g = eqb→eq (user_tag f) (user_tag g) t in
    let z : f ≡ g = user_word_same f g q (single_user_index f (omega arith) ∙ sym (single_user_index g h)) in
    subst (λ (k : UserWord). w k ≡ v k) (sym z) e

-- The same of a row.
pub row_same : (g : ℕ → EntityWord) → ((i : ℕ) → (tag (g i) ≡ tag (g 0)) × (index (g i) ≡ i)) → (w v : EntityWord → ℕ) → ((i : ℕ) → w (g i) ≡ v (g i))
    → (f : EntityWord) → T (word_or_row (g 0) f) → w f ≡ v f
row_same g h w v e f t =
    let z : f ≡ g (index f) = entity_word_same f (g (index f)) (eqb→eq (tag f) (tag (g 0)) t ∙ sym (h (index f)).0) (sym (h (index f)).1) in
    subst (λ (k : EntityWord). w k ≡ v k) (sym z) (e (index f))

module _ (w v : EntityWord → ℕ) where
  pub triples_same : ((i : ℕ) → w (triple i) ≡ v (triple i)) → (f : EntityWord) → T (word_or_row (triple 0) f) → w f ≡ v f
  triples_same = row_same triple (λ i. (refl, refl)) w v

  -- The places and their number.
  pub content_same : (w used ≡ v used) × ((i : ℕ) → w (place i) ≡ v (place i)) → (f : EntityWord) → T (content_word f) → w f ≡ v f
  content_same e f t = cases (one_of (word_or_row used f) (word_or_row (place 0) f) t) (same_word used (omega arith) w v e.0 f)
      (row_same place (λ i. (refl, refl)) w v e.1 f)

  -- Also what is shown.
  pub screen_same : (w used ≡ v used) × ((i : ℕ) → w (place i) ≡ v (place i)) → ((i : ℕ) → w (shown i) ≡ v (shown i)) → (f : EntityWord)
      → T (screen_word f) → w f ≡ v f
  screen_same e h f t = cases (one_of (content_word f) (word_or_row (shown 0) f) t) (content_same e f) (row_same shown (λ i. (refl, refl)) w v h f)

-- Two tables are the same in some words of the record e, if their records e are.
pub at_entity : (a b : Tables) (e : ℕ) (words : EntityWord → Bool) → ((f : EntityWord) → T (words f) → a.entity e f ≡ b.entity e f)
    → (x : ℕ) (f : EntityWord) → T (eqb x e && words f) → a.entity x f ≡ b.entity x f
at_entity a b e words h x f t =
    subst (λ (y : ℕ). a.entity y f ≡ b.entity y f) (sym (eqb→eq x e (T-l (eqb x e) (words f) t))) (h f (T-r (eqb x e) (words f) t))

pub at_user : (a b : Tables) (u : ℕ) (words : UserWord → Bool) → ((f : UserWord) → T (words f) → a.user u f ≡ b.user u f) → (x : ℕ) (f : UserWord)
    → T (eqb x u && words f) → a.user x f ≡ b.user x f
at_user a b u words h x f t =
    subst (λ (y : ℕ). a.user y f ≡ b.user y f) (sym (eqb→eq x u (T-l (eqb x u) (words f) t))) (h f (T-r (eqb x u) (words f) t))

-- Lists of first values that are the same have the same number of them.
pub same_number : (n m : ℕ) (r q : ℕ → ℕ) → first_values n r ≡ first_values m q → n ≡ m
same_number n m r q e = sym (values_length n r) ∙ ap (λ (l : List ℕ). length l) e ∙ values_length m q

-- Two packed rows with one list are one row.
pub packed_same : (n m : ℕ) (r q : ℕ → ℕ) → Packed r n → Packed q m → first_values n r ≡ first_values m q → (n ≡ m) × ((i : ℕ) → r i ≡ q i)
packed_same n m r q x y e =
    let number = same_number n m r q e in (
      number,
      λ i. cases (lt_or_le i n)
          (λ l. values_each n r q (e ∙ ap (λ (k : ℕ). first_values k q) (sym number)) i l)
          (λ l. x.rest i l ∙ sym (y.rest i (omega (arith, number)))),
    )

module _ (a b : Tables) (p : WellFormed a) (q : WellFormed b) (x : ℕ) where
  -- So in well-formed tables a record is known by its list of contents,
  pub contents_same : contents a x ≡ contents b x → (used_places a x ≡ used_places b x) × ((i : ℕ) → places a x i ≡ places b x i)
  contents_same =
      packed_same (used_places a x) (used_places b x) (places a x) (places b x) (p.entities x).filled.packed (q.entities x).filled.packed

  -- and by its list of triples.
  pub access_same : access_list a x ≡ access_list b x → (i : ℕ) → triples a x i ≡ triples b x i
  access_same e =
      let n = (p.entities x).access in
      let m = (q.entities x).access in
      (packed_same n.0 m.0 (triples a x) (triples b x) n.1.packed m.1.packed
      (sym (packed_list (triples a x) n.0 n.1.packed) ∙ e ∙ packed_list (triples b x) m.0 m.1.packed)).1
