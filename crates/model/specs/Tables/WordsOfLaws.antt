-- Lists of 2,304 words and bounded tables are the same thing: `words_of` and `tables_of` undo one another.
use Rattle.std.specs.Prelude.{Bool, false, true, List, [], ◌++◌, ◌∷◌, ◌⊎◌, ◌≡◌, refl, ◌%◌, ◌*◌, ◌+◌, ◌-◌, ◌/◌, ◌<◌, ◌≤◌, suc, zero, ℕ, T, ltb, get_or, length}
use Rattle.std.proofs.Common.{inl, inr, ◌∙◌, ap, ap₂, sym, le_of_suc-le-suc, not-suc-le-zero, arith, lt→ltb, ext_get_or}
use Rattle.std.proofs.Math.Path.{fun_ext}
use Rattle.model.specs.Basics.Choice.{Below, below, over, pick, under}
use Rattle.model.specs.Basics.Fails.{fails_le}
use Rattle.model.specs.Basics.TestLaws.{pick_false, pick_true}
use Rattle.model.specs.Tables.Layout.{Bounded, entities_from, entity_at, entity_in, entity_width, offset, tables_of, user_at, user_in}
use Rattle.model.specs.Tables.Layout.{user_offset, user_width, word_count}
use Rattle.model.specs.Tables.RangeLaws.{entity_in_lem, guard_in, guard_is, in_entity, in_user, user_in_lem}
use Rattle.model.specs.Tables.WordAt.{entity_word_at, user_word_at}
use Rattle.model.specs.Tables.WordAtLaws.{entity_word_back, index_below, offset_at, offset_below, user_offset_at, user_word_back}
use Rattle.model.specs.Tables.Words.{EntityWord, Tables, UserWord, authorised, clearance, current, device, entity_count, held, held_op}
use Rattle.model.specs.Tables.Words.{index, kind, level, mark, maximum, missed, place, place_count, present, releaser, shown, spare}
use Rattle.model.specs.Tables.Words.{triple, type, used, user_count, value}
use Rattle.model.specs.Tables.WordsOf.{entity_at_index, first_values, user_at_index, word_at_index, words_of}

-- the first n values are n
pub values_length : (n : ℕ) (g : ℕ → ℕ) → length (first_values n g) ≡ n
unfolding first_values
values_length zero g = refl
values_length (suc n) g = ap suc (values_length n (λ i. g (suc i)))

-- one value more comes last
pub values_next : (n : ℕ) (g : ℕ → ℕ) → first_values (suc n) g ≡ first_values n g ++ (g n ∷ [])
unfolding first_values
values_next zero g = refl
values_next (suc n) g = ap {B = List ℕ} (λ l. g 0 ∷ l) (values_next n (λ i. g (suc i)))

-- and each is the value at its place
pub values_at : (n : ℕ) (g : ℕ → ℕ) (i : ℕ) → i < n → get_or (first_values n g) i 0 ≡ g i
unfolding first_values
values_at zero g i h = absurd (not-suc-le-zero h)
values_at (suc n) g zero h = refl
values_at (suc n) g (suc i) h = values_at n (λ j. g (suc j)) i (le_of_suc-le-suc h)

-- there are 2,304 words
pub words_of_length : (d : Tables) → length (words_of d) ≡ word_count
unfolding words_of
words_of_length d = values_length word_count (word_at_index d)

-- and each is the one at its index
pub words_of_at : (d : Tables) (i : ℕ) → i < word_count → get_or (words_of d) i 0 ≡ word_at_index d i
unfolding words_of
words_of_at d i h = values_at word_count (word_at_index d) i h

-- a choice by an order that is known
pick_under : (i k a b : ℕ) → i < k → pick (ltb i k) a b ≡ a
pick_under i k a b h = pick_true (ltb i k) a b (lt→ltb i k h)

pick_over : (i k a b : ℕ) → k ≤ i → pick (ltb i k) a b ≡ b
pick_over i k a b h = pick_false (ltb i k) a b ((fails_le (suc i) k).from (omega arith))

-- the word at the index of a user's word in range is that word
index_of_user : (d : Tables) (u : ℕ) (f : UserWord) → T (user_in u f) → (user_at u f < word_count) × (word_at_index d (user_at u f) ≡ d.user u f)
unfolding word_at_index
index_of_user d u f t =
    let r = user_in_lem u f t in
    let i : ℕ = user_at u f in
    let number : suc (user_at u f / user_width) ≡ u = omega arith in
    let rest : user_at u f % user_width ≡ user_offset f = omega arith in (
      omega arith,
      pick_under i entities_from (user_at_index d i) (entity_at_index d (i - entities_from)) (omega arith) ∙ ap₂ d.user number
          (ap user_word_at rest ∙ user_word_back f),
    )

-- the same of an entity's word
index_of_entity : (d : Tables) (e : ℕ) (f : EntityWord) → T (entity_in e f)
    → (entity_at e f < word_count) × (word_at_index d (entity_at e f) ≡ d.entity e f)
unfolding word_at_index
index_of_entity d e f t =
    let r = entity_in_lem e f t in
    let o = offset_below f r.2 in
    let i : ℕ = entity_at e f in
    let number : suc ((entity_at e f - entities_from) / entity_width) ≡ e = omega arith in
    let rest : (entity_at e f - entities_from) % entity_width ≡ offset f = omega arith in (
      omega arith,
      pick_over i entities_from (user_at_index d i) (entity_at_index d (i - entities_from)) (omega arith) ∙ ap₂ d.entity number
          (ap entity_word_at rest ∙ entity_word_back f r.2),
    )

-- a value is zero, if it is where the number is out of its range, and where the place is, and one of the two is
zero_outside : (x n o w v : ℕ) → ((x ≡ 0) ⊎ (n < x) → v ≡ 0) → (w ≤ o → v ≡ 0) → ¬ ((1 ≤ x) × (x ≤ n) × (o < w)) → v ≡ 0
zero_outside x n o w v f g k = go (ltb x 1) (ltb n x) (ltb o w) (below x 1) (below n x) (below o w)
  where
    go : (a b c : Bool) → Below x 1 a → Below n x b → Below o w c → v ≡ 0
    go true b c (under p) q r = f (inl (omega arith))
    go false true c (over p) (under q) r = f (inr q)
    go false false true (over p) (over q) (under r) = absurd (k (p, q, r))
    go false false false (over p) (over q) (over r) = g r

module _ (d : Tables) (b : Bounded d) where
  -- bounded tables are zero past the end of a user's record
  user_past : (u : ℕ) (f : UserWord) → user_width ≤ user_offset f → d.user u f ≡ 0
  user_past u present h = omega arith
  user_past u clearance h = omega arith
  user_past u authorised h = omega arith
  user_past u current h = omega arith
  user_past u device h = omega arith
  user_past u held h = omega arith
  user_past u held_op h = omega arith
  user_past u missed h = omega arith
  user_past u (spare i) h = b.spares_out u i (omega arith)

  -- and past the eighth place of an entity's row
  entity_past : (e : ℕ) (f : EntityWord) → place_count ≤ index f → d.entity e f ≡ 0
  entity_past e kind h = omega arith
  entity_past e type h = omega arith
  entity_past e level h = omega arith
  entity_past e mark h = omega arith
  entity_past e value h = omega arith
  entity_past e releaser h = omega arith
  entity_past e maximum h = omega arith
  entity_past e used h = omega arith
  entity_past e (place i) h = b.places_out e i h
  entity_past e (shown i) h = b.shown_out e i h
  entity_past e (triple i) h = b.triples_out e i h

  -- the words, read as tables, say of a user what the tables said
  user_told : (u : ℕ) (f : UserWord) → pick (user_in u f) (get_or (words_of d) (user_at u f) 0) 0 ≡ d.user u f
  user_told u f = guard_is (user_in u f) (get_or (words_of d) (user_at u f) 0) (d.user u f)
      (λ t. let r = index_of_user d u f t in words_of_at d (user_at u f) r.0 ∙ r.1)
      (λ k. zero_outside u user_count (user_offset f) user_width (d.user u f) (λ q. b.user_out u q f) (user_past u f) (λ r. k (in_user u f r.2 r.0 r.1)))

  -- and of an entity
  entity_told : (e : ℕ) (f : EntityWord) → pick (entity_in e f) (get_or (words_of d) (entity_at e f) 0) 0 ≡ d.entity e f
  entity_told e f = guard_is (entity_in e f) (get_or (words_of d) (entity_at e f) 0) (d.entity e f)
      (λ t. let r = index_of_entity d e f t in words_of_at d (entity_at e f) r.0 ∙ r.1)
      (λ k. zero_outside e entity_count (index f) place_count (d.entity e f) (λ q. b.entity_out e q f) (entity_past e f)
      (λ r. k (in_entity e f r.0 r.1 r.2)))

  -- the tables of the words of bounded tables are those tables
  pub tables_of_words_of : tables_of (words_of d) ≡ d
  unfolding tables_of
  tables_of_words_of = λ i. record { user = fun_ext (λ u. fun_ext (user_told u)) i; entity = fun_ext (λ e. fun_ext (entity_told e)) i }

-- every index of the users' part is that of a user's word
user_known : (t : List ℕ) (i : ℕ) → i < entities_from → user_at_index (tables_of t) i ≡ get_or t i 0
unfolding tables_of
user_known t i h =
    let u : ℕ = suc (i / user_width) in
    let f = user_word_at (i % user_width) in
    let o : user_offset f ≡ i % user_width = user_offset_at (i % user_width) (omega arith) in
    let s : user_at u f ≡ i = omega arith in
    guard_in (user_in u f) (get_or t (user_at u f) 0) (in_user u f (omega arith) (omega arith) (omega arith)) ∙ ap (λ (k : ℕ). get_or t k 0) s

-- every index of the entities' part is that of an entity's word
entity_known : (t : List ℕ) (i : ℕ) → i < entity_count * entity_width → entity_at_index (tables_of t) i ≡ get_or t (entities_from + i) 0
unfolding tables_of
entity_known t i h =
    let e : ℕ = suc (i / entity_width) in
    let f = entity_word_at (i % entity_width) in
    let o : offset f ≡ i % entity_width = offset_at (i % entity_width) (omega arith) in
    let s : entity_at e f ≡ entities_from + i = omega arith in
    guard_in (entity_in e f) (get_or t (entity_at e f) 0) (in_entity e f (omega arith) (omega arith) (index_below (i % entity_width) (omega arith))) ∙ ap
    (λ (k : ℕ). get_or t k 0) s

-- so every word of the list is told by its tables
index_known : (t : List ℕ) (i : ℕ) → i < word_count → word_at_index (tables_of t) i ≡ get_or t i 0
unfolding word_at_index
index_known t i h = go (ltb i entities_from) (below i entities_from)
  where
    go : (b : Bool) → Below i entities_from b → pick b (user_at_index (tables_of t) i) (entity_at_index (tables_of t) (i - entities_from)) ≡ get_or t i 0
    go true (under l) = user_known t i l
    go false (over l) =
        let s : entities_from + (i - entities_from) ≡ i = omega arith in
        entity_known t (i - entities_from) (omega arith) ∙ ap (λ (k : ℕ). get_or t k 0) s

-- the words of the tables of 2,304 words are those words
pub words_of_tables_of : (t : List ℕ) → length t ≡ word_count → words_of (tables_of t) ≡ t
words_of_tables_of t h = ext_get_or 0 (words_of (tables_of t)) t (words_of_length (tables_of t) ∙ sym h)
    (λ i l. let k : i < word_count = omega (arith, words_of_length (tables_of t)) in words_of_at (tables_of t) i k ∙ index_known t i k)

-- two lists of 2,304 words with the same tables are the same list
pub tables_of_injective : (s t : List ℕ) → length s ≡ word_count → length t ≡ word_count → tables_of s ≡ tables_of t → s ≡ t
tables_of_injective s t a b q = sym (words_of_tables_of s a) ∙ ap words_of q ∙ words_of_tables_of t b
