-- What the tests of room say of the eight places of a row, and of the sixty-four numbers (refusal 14).
use Rattle.std.specs.Prelude.{Bool, ◌&&◌, false, not, true, ◌≢◌, ◌≡◌, ◌<◌, ◌≤◌, pred, suc, zero, ℕ, eqb, leb, ltb}
use Rattle.std.proofs.Common.{inl, inr, arith}
use Rattle.model.specs.Basics.Agree.{Agrees, agrees_and, agrees_as, agrees_eq, agrees_le, agrees_not}
use Rattle.model.specs.Basics.Choice.{Below, below, over, pick, under}
use Rattle.model.specs.Basics.TestLaws.{pick_true}
use Rattle.model.specs.Effect.Places.{leave, vacant}
use Rattle.model.specs.Request.Applies.{EightOthers, Full}
use Rattle.model.specs.State.WellFormed.{WellFormed}
use Rattle.model.specs.Tables.RowLaws.{sought}
use Rattle.model.specs.Tables.Rows.{Packed, Sought, left, seek}
use Rattle.model.specs.Tables.Words.{Tables, absent_kind, container_kind, entity_count, kinds, place_count, places, used_places}

-- A search past the end says that none of the n places has v.
pub none_agrees : (v : ℕ) (row : ℕ → ℕ) (n : ℕ) → Agrees (leb n (seek v row n)) ((i : ℕ) → i < n → row i ≢ v)
none_agrees v row n = go (seek v row n) (sought v row n)
  where
    go : (k : ℕ) → Sought v row n k → Agrees (leb n k) ((i : ℕ) → i < n → row i ≢ v)
    go k (inl z) = agrees_as (λ h. absurd (omega (arith, z.0))) (λ f. absurd (f k z.0 z.1)) (agrees_le n k)
    go k (inr z) = agrees_as (λ h. z.1) (λ f. omega (arith, z.0)) (agrees_le n k)

-- Eight others than v are in a row that is full and in which v does not stand.
pub others_agrees : {a b : Bool} (row : ℕ → ℕ) (v : ℕ) → Agrees a ((i : ℕ) → i < place_count → row i ≢ v) → Agrees b (Full row)
    → Agrees (a && b) (EightOthers row v)
others_agrees row v p q = agrees_as (λ z i l. (z.1 i l, z.0 i l)) (λ z. (λ i l. (z i l).1, λ i l. (z i l).0)) (agrees_and p q)

module _ (row : ℕ → ℕ) (n : ℕ) (p : Packed row n) where
  -- A packed row is full where eight of its places are used.
  all_used : Full row → place_count ≤ n
  all_used f = let h : ¬ (n < place_count) = λ l. f n l (p.rest n (omega arith)) in omega arith

  pub full_agrees : Agrees (leb place_count n) (Full row)
  full_agrees = agrees_as (λ h i l e. omega (arith, p.used i (omega arith))) all_used (agrees_le place_count n)

  module _ (v : ℕ) where
    -- One that is full, and that v is not found in, has eight others.
    pub shown_agrees : Agrees (leb n (seek v row n) && leb place_count n) (EightOthers row v)
    shown_agrees = agrees_as {P = ((i : ℕ) → i < n → row i ≢ v) × Full row} (λ z i l. (z.1 i l, λ e. z.0 i (omega (arith, all_used z.1)) e))
        (λ z. (λ i l. (z i (omega (arith, p.room))).1, λ i l. (z i l).0)) (agrees_and (none_agrees v row n) full_agrees)

    -- One that has eight used places once v has left it has eight others.
    pub left_agrees : Agrees (leb place_count (left v row n)) (EightOthers row v)
    left_agrees = go (ltb (seek v row n) n) (below (seek v row n) n) (sought v row n)
      where
        go : (b : Bool) → Below (seek v row n) n b → Sought v row n (seek v row n) → Agrees (leb place_count (pick b (pred n) n)) (EightOthers row v)
        go true (under h) (inl z) = agrees_as (λ l. absurd (omega (arith, p.room))) (λ f. absurd ((f (seek v row n) (omega (arith, p.room))).1 z.1))
            (agrees_le place_count (pred n))
        go true (under h) (inr z) = absurd (omega (arith, z.0))
        go false (over h) (inl z) = absurd (omega (arith, z.0))
        go false (over h) (inr z) = agrees_as (λ f i l. (f i l, λ e. z.1 i (omega (arith, all_used f)) e)) (λ f i l. (f i l).0) full_agrees

-- Rule 6.1: the lowest absent number is past the sixty-four where every one of them is taken.
pub numbers_agrees : (d : Tables) → Agrees (not (leb (vacant d) entity_count)) ((e : ℕ) → 1 ≤ e → e ≤ entity_count → kinds d e ≢ absent_kind)
numbers_agrees d = go (seek absent_kind (λ i. kinds d (suc i)) entity_count) (sought absent_kind (λ i. kinds d (suc i)) entity_count)
  where
    numbered : ((i : ℕ) → i < entity_count → kinds d (suc i) ≢ absent_kind) → (e : ℕ) → 1 ≤ e → e ≤ entity_count → kinds d e ≢ absent_kind
    numbered f zero l m = absurd (omega arith)
    numbered f (suc i) l m = f i (omega arith)

    go : (k : ℕ) → Sought absent_kind (λ i. kinds d (suc i)) entity_count k
        → Agrees (not (leb (suc k) entity_count)) ((e : ℕ) → 1 ≤ e → e ≤ entity_count → kinds d e ≢ absent_kind)
    go k (inl z) = agrees_as (λ h. absurd (h (omega (arith, z.0)))) (λ f. absurd (f (suc k) (omega arith) (omega (arith, z.0)) z.1))
        (agrees_not (agrees_le (suc k) entity_count))
    go k (inr z) = agrees_as (λ h. numbered z.1) (λ f h. omega (arith, z.0)) (agrees_not (agrees_le (suc k) entity_count))

-- Rule 6.3: the container has eight used places once the entity has left exactly where eight others stand in it.
pub moved_agrees : (d : Tables) → WellFormed d → (e c : ℕ) → kinds d c ≡ container_kind
    → Agrees (leb place_count (used_places (leave e d) c)) (EightOthers (places d c) e)
moved_agrees d w e c box = rw (pick_true (eqb (kinds d c) container_kind) (left e (places d c) (used_places d c)) (used_places d c)
    ((agrees_eq (kinds d c) container_kind).from box)) (left_agrees (places d c) (used_places d c) (w.entities c).filled.packed e)
