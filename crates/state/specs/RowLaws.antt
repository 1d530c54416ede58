-- What the code reads of a row, place by place, is what the passes ask of it.
use Rattle.std.specs.Prelude.{Bool, ◌&&◌, ◌||◌, false, not, true, ◌≢◌, ◌≡◌, ◌+◌, ◌<◌, ◌≤◌, ℕ, eqb}
use Rattle.std.proofs.Common.{◌∙◌, ap}
use Rattle.std.proofs.Math.Dec.{leb}
use borrow.Author.Tests.{eq-eqb, le-leb, lt-leb, ne_eqb}
use Rattle.laws.specs.Bools.{or_imp, or_imp_not}
use Rattle.model.specs.Basics.Tests.{every}
use Rattle.model.specs.State.Tests.{triple_test}
use Rattle.model.specs.Tables.Words.{Tables, container_kind, device_kind, kinds, object_kind, places, sum_most, sums, used_places}
use Rattle.state.specs.Passes.{last_triple, new_at, place_test, triple_new, unlike}

-- ---- a place, which holds x and of which v is shown, of an entity that uses n places

module _ (d : Tables) (e i n x v : ℕ) (ne : n ≡ used_places d e) (xe : x ≡ places d e i) (ve : v ≡ sums d e i) where
  -- a place that is not used
  pub place_beyond : n ≤ i → (eqb x 0 && eqb v 0) ≡ place_test d e i
  unfolding place_test
  place_beyond h = rw (← ne, ← xe, ← ve, le-leb n i h)

  -- a place that is used, by an entity of kind k
  pub place_within : i < n → (k : ℕ) (s : Bool) → k ≡ kinds d x → s ≡ eqb (kinds d e) device_kind
      → (leb object_kind k && (leb k container_kind && ((not s || (leb 1 v && leb v sum_most)) && (s || eqb v 0)))) ≡ place_test d e i
  unfolding place_test
  place_within h k s ke se = rw (← ne, ← xe, ← ve, lt-leb n i h, ← ke, ← se, or_imp s (leb 1 v && leb v sum_most), or_imp_not s (eqb v 0))

-- what stands at i, compared with all before it
pub unlike_of : (row : ℕ → ℕ) (i x : ℕ) → x ≡ row i → (b : Bool) → b ≡ every i (λ j. not (eqb (row j) x)) → b ≡ unlike row i
unfolding unlike
unlike_of row i x e b h = h ∙ ap (λ (y : ℕ). every i (λ j. not (eqb (row j) y))) e

-- nothing stands at i
pub new_zero : (row : ℕ → ℕ) (i x : ℕ) → x ≡ row i → x ≡ 0 → true ≡ new_at row i
unfolding new_at
new_zero row i x e z = rw (← e, eq-eqb x 0 z)

-- something does, and is compared with all before it
pub new_of : (row : ℕ → ℕ) (i x : ℕ) → x ≡ row i → x ≢ 0 → (b : Bool) → b ≡ every i (λ j. not (eqb (row j) x)) → b ≡ new_at row i
unfolding new_at
new_of row i x e z b h = unlike_of row i x e b h ∙ rw (← e, ne_eqb x 0 z)

-- ---- the triple x at i of a row

module _ (row : ℕ → ℕ) (i x : ℕ) (xe : x ≡ row i) where
  -- zero, and the last
  pub triple_last : x ≡ 0 → last_triple ≤ i → true ≡ triple_new row i
  unfolding triple_new
  triple_last z h = rw (← xe, eq-eqb x 0 z, le-leb last_triple i h)

  -- zero: then the next one is, too
  pub triple_next : x ≡ 0 → i < last_triple → (y : ℕ) → y ≡ row (i + 1) → eqb y 0 ≡ triple_new row i
  unfolding triple_new
  triple_next z h y ye = rw (← xe, eq-eqb x 0 z, lt-leb last_triple i h, ← ye)

  -- not zero, and not what a triple may name
  pub triple_unnamed : x ≢ 0 → (b : Bool) → b ≡ triple_test x → b ≡ false → false ≡ triple_new row i
  unfolding triple_new
  triple_unnamed z b be f = rw (← xe, ne_eqb x 0 z, ← be, f)

  -- not zero, and what it may: it is compared with those before it
  pub triple_named : x ≢ 0 → (b : Bool) → b ≡ triple_test x → b ≡ true → (c : Bool) → c ≡ every i (λ j. not (eqb (row j) x)) → c ≡ triple_new row i
  unfolding triple_new
  triple_named z b be t c ce = unlike_of row i x xe c ce ∙ rw (← xe, ne_eqb x 0 z, ← be, t)
