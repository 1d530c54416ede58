-- The passes over an entity's record ask what the model's tests of it ask.
use Rattle.std.specs.Prelude.{Bool, ◌&&◌, ◌||◌, false, not, true, ◌≢◌, ◌≡◌, refl, ◌<◌, ◌≤◌, suc, ℕ, T, leb, ltb}
use Rattle.std.proofs.Common.{inl, ◌∙◌, subst, arith, lit<}
use Rattle.std.proofs.Math.Path.{ap, fun_ext, sym}
use Rattle.std.proofs.Math.Dec.{eqb, eqb→eq}
use Rattle.laws.specs.Bools.{agrees_pick, and_T, or_imp, or_imp_not}
use Rattle.laws.specs.Loops.{every_of}
use Rattle.model.specs.Basics.Agree.{Agrees, agreement, agrees_T, agrees_and, agrees_eq, agrees_every, agrees_imp, agrees_le, agrees_not, every_at}
use Rattle.model.specs.Basics.Choice.{Below, below, over, under}
use Rattle.model.specs.Basics.TestLaws.{T-l, equal_bools}
use Rattle.model.specs.Basics.Tests.{every}
use Rattle.model.specs.Level.{level_count}
use Rattle.model.specs.State.Agree.{eights, zero_ok}
use Rattle.model.specs.State.AgreeRecords.{entity_agrees, filled_agrees}
use Rattle.model.specs.State.Tests.{entity_test, filled_test, shape_test}
use Rattle.model.specs.State.WellFormed.{EntityOk, Filled}
use Rattle.model.specs.Tables.Layout.{Bounded, entity_width, offset}
use Rattle.model.specs.Tables.WordAt.{entity_word_at}
use Rattle.model.specs.Tables.WordAtLaws.{entity_word_back, offset_below}
use Rattle.model.specs.Tables.Words.{EntityWord, Tables, absent_kind, container_kind, used, used_places, device_kind, index, kind, kinds, level, mark}
use Rattle.model.specs.Tables.Words.{maximum, object_kind, place, place_count, places, plain_type, released_type, releaser, shown, sum_most, sums, triple, type}
use Rattle.model.specs.Tables.Words.{user_count, value}
use Rattle.state.specs.Passes.{contents_at, used_test, entity_blank, idle_at, own_test, place_test, unlike}

-- ---- the single words, as the code asks for them

-- kind, type, level, mark, value, releaser and maximum; s says whether what is of kind k shows things
pub shape_form : (k y l m v b x : ℕ) (s : Bool) → s ≡ eqb k device_kind
    → (leb k device_kind && (leb y released_type && (ltb l level_count && (leb m 1 && (ltb x level_count
    && ((eqb y plain_type || eqb k container_kind) && ((eqb m 0 || eqb k container_kind)
    && ((not (eqb y released_type) || (leb 1 b && leb b user_count)) && ((eqb y released_type || eqb b 0)
    && ((s || eqb x 0) && (not s || eqb v 0)))))))))))
    ≡ shape_test k y l m v b x
unfolding shape_test
shape_form k y l m v b x s se = rw (
  se,
  or_imp_not (eqb y plain_type) (eqb k container_kind),
  or_imp_not (eqb m 0) (eqb k container_kind),
  or_imp (eqb y released_type) (leb 1 b && leb b user_count),
  or_imp_not (eqb y released_type) (eqb b 0),
  or_imp_not (eqb k device_kind) (eqb x 0),
  or_imp (eqb k device_kind) (eqb v 0),
)

-- how many places are used
pub used_form : (k n : ℕ) → (leb n place_count && (not (eqb k object_kind) || eqb n 0)) ≡ used_test k n
unfolding used_test
used_form k n = rw (or_imp (eqb k object_kind) (eqb n 0))

-- ---- a record of zeros

module _ (d : Tables) (o : Bounded d) (e : ℕ) where
  -- where all words are zero, each single word is, and each of a row as far as it goes
  blank_at : T (entity_blank d e) → (f : EntityWord) → index f < place_count → d.entity e f ≡ 0
  unfolding entity_blank
  blank_at t f h = ap (d.entity e) (sym (entity_word_back f h))
      ∙ eqb→eq (d.entity e (entity_word_at (offset f))) 0
      (every_at entity_width (λ i. eqb (d.entity e (entity_word_at i)) 0) t (offset f) (offset_below f h))

  -- a row that is zero after its last word is then zero
  blank_row : T (entity_blank d e) → (f : ℕ → EntityWord) → ((i : ℕ) → index (f i) ≡ i) → ((i : ℕ) → place_count ≤ i → d.entity e (f i) ≡ 0)
      → (i : ℕ) → d.entity e (f i) ≡ 0
  blank_row t f n out i = go (ltb i place_count) (below i place_count)
    where
      go : (b : Bool) → Below i place_count b → d.entity e (f i) ≡ 0
      go true (under h) = blank_at t (f i) (omega (arith, n i))
      go false (over h) = out i h

  -- every named word is zero
  blank_all : T (entity_blank d e) → (f : EntityWord) → d.entity e f ≡ 0
  blank_all t kind = blank_at t kind (lit< tt)
  blank_all t type = blank_at t type (lit< tt)
  blank_all t level = blank_at t level (lit< tt)
  blank_all t mark = blank_at t mark (lit< tt)
  blank_all t value = blank_at t value (lit< tt)
  blank_all t releaser = blank_at t releaser (lit< tt)
  blank_all t maximum = blank_at t maximum (lit< tt)
  blank_all t used = blank_at t used (lit< tt)
  blank_all t (place i) = blank_row t place (λ j. refl) (o.places_out e) i
  blank_all t (shown i) = blank_row t shown (λ j. refl) (o.shown_out e) i
  blank_all t (triple i) = blank_row t triple (λ j. refl) (o.triples_out e) i

  -- where all is zero nothing stands in a place, and nothing is a device
  none_joined : ((f : EntityWord) → d.entity e f ≡ 0) → T (contents_at d e && idle_at d e)
  unfolding contents_at idle_at
  none_joined z = and_T (contents_at d e) (idle_at d e)
      (every_of place_count _ (λ i h. (agrees_imp (agrees_le (suc i) (used_places d e)) (agrees_T _)).from (λ l. absurd (omega (arith, z used)))))
      ((agrees_imp (agrees_eq (kinds d e) device_kind) (agrees_T _)).from (λ q. absurd (omega (arith, z kind))))

  -- of an entity that is absent all words are asked to be zero
  pub own_absent : kinds d e ≡ absent_kind → entity_blank d e ≡ own_test d e
  unfolding entity_blank own_test
  own_absent q = equal_bools (entity_blank d e) (own_test d e)
      (λ t. let z = blank_all t in and_T (entity_test (d.entity e)) (contents_at d e && idle_at d e)
      ((entity_agrees (d.entity e) (eights d o e)).from (subst EntityOk (fun_ext (λ f. sym (z f))) zero_ok)) (none_joined z))
      (λ t. let z = ((entity_agrees (d.entity e) (eights d o e)).to (T-l (entity_test (d.entity e)) (contents_at d e && idle_at d e) t)).absent q in
      every_of entity_width (λ f. eqb (d.entity e (entity_word_at f)) 0) (λ f h. (agrees_eq (d.entity e (entity_word_at f)) 0).from (z (entity_word_at f))))

-- ---- places

-- what `place_test` says of place i
abbrev pub Placed : Tables → ℕ → ℕ → Type 0
Placed d e i = (used_places d e ≤ i → (places d e i ≡ 0) × (sums d e i ≡ 0))
    × ((used_places d e ≤ i → ⊥) → (object_kind ≤ kinds d (places d e i)) × ((kinds d (places d e i) ≤ container_kind)
    × ((kinds d e ≡ device_kind → (1 ≤ sums d e i) × (sums d e i ≤ sum_most)) × (kinds d e ≢ device_kind → sums d e i ≡ 0))))

-- the test says so
pub place_agrees : (d : Tables) (e i : ℕ) → Agrees (place_test d e i) (Placed d e i)
unfolding place_test
place_agrees d e i = agrees_pick (agrees_le (used_places d e) i) (search agreement) (search agreement depth 20)

-- what `unlike` says of place i
pub unlike_agrees : (row : ℕ → ℕ) (i : ℕ) → Agrees (unlike row i) ((j : ℕ) → j < i → row j ≡ row i → ⊥)
unfolding unlike
unlike_agrees row i = agrees_every i _ (λ j. row j ≡ row i → ⊥) (λ j. agrees_not (agrees_eq (row j) (row i)))

-- two places of a row in which none is like one before it
pub apart : (row : ℕ → ℕ) (n : ℕ) → ((i : ℕ) → i < n → (j : ℕ) → j < i → row j ≡ row i → ⊥) → (i j : ℕ) → i < n → j < n → row i ≡ row j → i ≡ j
apart row n f i j h l q = go (ltb i j) (below i j) (ltb j i) (below j i)
  where
    go : (a : Bool) → Below i j a → (b : Bool) → Below j i b → i ≡ j
    go true (under k) b m = absurd (f j l i k q)
    go false (over k) true (under m) = absurd (f i h j m (sym q))
    go false (over k) false (over m) = omega arith

module _ (d : Tables) (o : Bounded d) (e : ℕ) where
  -- a used place that is in order holds something, since nothing has no kind
  pub placed_used : (i : ℕ) → i < used_places d e → Placed d e i → places d e i ≢ 0
  placed_used i h p q = omega (arith, (p.1 (λ m. omega arith)).0, ap (kinds d) q, o.entity_out 0 (inl refl) kind)

  -- what the model's tests of contents say
  abbrev Left : Type 0
  Left = Filled (kinds d e) (used_places d e) (places d e) (sums d e)
      × ((i : ℕ) → i < place_count → i < used_places d e → (object_kind ≤ kinds d (places d e i)) × (kinds d (places d e i) ≤ container_kind))

  -- what the passes say
  abbrev Right : Type 0
  Right = ((used_places d e ≤ place_count) × (kinds d e ≡ object_kind → used_places d e ≡ 0))
      × (((i : ℕ) → i < place_count → Placed d e i) × ((i : ℕ) → i < used_places d e → (j : ℕ) → j < i → places d e j ≡ places d e i → ⊥))

  -- what the model asks, the passes ask
  to_right : Left → Right
  to_right l =
      let p = l.0.packed in (
        (p.room, l.0.object_empty),
        (
          λ i h. (
            λ m. (p.rest i m, l.0.rest_sums i m),
            λ n. let c = l.1 i h (omega (arith, n)) in
                (c.0, (c.1, (λ q. l.0.sums q i (omega (arith, n)), λ q. l.0.no_sums q i))),
          ),
          λ i h j m q. omega (arith, p.distinct j i (omega arith) h q),
        ),
      )

  -- and what the passes ask, the model asks
  to_left : Right → Left
  to_left r = (
    record {
      packed = record { room = r.0.0; used = used; rest = λ i m. (rest i m).0; distinct = apart (places d e) (used_places d e) r.1.1 };
      object_empty = r.0.1;
      sums = λ q i h. (inside i h).1.1.0 q;
      no_sums = λ q i. sum_none q i (ltb i (used_places d e)) (below i (used_places d e));
      rest_sums = λ i m. (rest i m).1;
    },
    λ i h l. ((inside i l).0, (inside i l).1.0),
  )
    where
      inside : (i : ℕ) → i < used_places d e → (object_kind ≤ kinds d (places d e i)) × ((kinds d (places d e i) ≤ container_kind)
          × ((kinds d e ≡ device_kind → (1 ≤ sums d e i) × (sums d e i ≤ sum_most)) × (kinds d e ≢ device_kind → sums d e i ≡ 0)))
      inside i h = (r.1.0 i (omega (arith, r.0.0))).1 (λ m. omega arith)

      used : (i : ℕ) → i < used_places d e → 1 ≤ places d e i
      used i h = let z : places d e i ≢ 0 = placed_used i h (r.1.0 i (omega (arith, r.0.0))) in omega arith

      rest : (i : ℕ) → used_places d e ≤ i → (places d e i ≡ 0) × (sums d e i ≡ 0)
      rest i m = go (ltb i place_count) (below i place_count)
        where
          go : (b : Bool) → Below i place_count b → (places d e i ≡ 0) × (sums d e i ≡ 0)
          go true (under h) = (r.1.0 i h).0 m
          go false (over h) = (o.places_out e i h, o.shown_out e i h)

      sum_none : kinds d e ≢ device_kind → (i : ℕ) (b : Bool) → Below i (used_places d e) b → sums d e i ≡ 0
      sum_none q i true (under h) = (inside i h).1.1.1 q
      sum_none q i false (over h) = (rest i h).1

  -- what stands in the used places
  pub contents_agrees : Agrees (contents_at d e)
      ((i : ℕ) → i < place_count → i < used_places d e → (object_kind ≤ kinds d (places d e i)) × (kinds d (places d e i) ≤ container_kind))
  unfolding contents_at
  contents_agrees = search agreement depth 20

  -- how many places are used
  pub used_agrees : Agrees (used_test (kinds d e) (used_places d e)) ((used_places d e ≤ place_count) × (kinds d e ≡ object_kind → used_places d e ≡ 0))
  unfolding used_test
  used_agrees = search agreement depth 20

  -- the model's tests say what they should
  left_agrees : Agrees (filled_test (kinds d e) (used_places d e) (places d e) (sums d e) && contents_at d e) Left
  left_agrees = agrees_and (filled_agrees (kinds d e) (used_places d e) (places d e) (sums d e) (o.places_out e) (o.shown_out e)) contents_agrees

  -- and so do the passes
  right_agrees : Agrees (used_test (kinds d e) (used_places d e) && (every place_count (place_test d e) && every (used_places d e) (unlike (places d e)))) Right
  right_agrees = agrees_and used_agrees (agrees_and (agrees_every place_count (place_test d e) (Placed d e) (place_agrees d e))
      (agrees_every (used_places d e) (unlike (places d e)) (λ i. (j : ℕ) → j < i → places d e j ≡ places d e i → ⊥) (unlike_agrees (places d e))))

  -- contents, their sums, and what they are: how many, place by place, and none twice
  pub filled_passes : (filled_test (kinds d e) (used_places d e) (places d e) (sums d e) && contents_at d e)
      ≡ (used_test (kinds d e) (used_places d e) && (every place_count (place_test d e) && every (used_places d e) (unlike (places d e))))
  filled_passes = equal_bools (filled_test (kinds d e) (used_places d e) (places d e) (sums d e) && contents_at d e)
      (used_test (kinds d e) (used_places d e) && (every place_count (place_test d e) && every (used_places d e) (unlike (places d e))))
      (λ t. right_agrees.from (to_right (left_agrees.to t))) (λ t. left_agrees.from (to_left (right_agrees.to t)))
