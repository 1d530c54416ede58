-- That the used places are distinct may be asked of all places: those after them hold nothing, and pass.
use Rattle.std.specs.Prelude.{Bool, false, true, ◌≢◌, ◌⊎◌, ◌≡◌, refl, ◌<◌, ◌≤◌, suc, zero, ℕ, T, ltb}
use Rattle.std.proofs.Common.{inl, inr, arith}
use Rattle.laws.specs.Loops.{every_of}
use Rattle.model.specs.Basics.Agree.{Agrees, agrees_T, agrees_eq, agrees_every, agrees_or, every_at}
use Rattle.model.specs.Basics.Choice.{Below, below, over, under}
use Rattle.model.specs.Basics.TestLaws.{equal_bools, is_true}
use Rattle.model.specs.Basics.Tests.{every}
use Rattle.model.specs.Tables.Layout.{Bounded}
use Rattle.model.specs.Tables.Words.{Tables, used_places, place_count, places}
use Rattle.state.specs.EntityLaws.{Placed, place_agrees, placed_used}
use Rattle.state.specs.Passes.{new_at, place_test, unlike}

-- none and one are distinct
pub unlike_few : (row : ℕ → ℕ) (n : ℕ) → n ≤ 1 → true ≡ every n (unlike row)
unfolding every unlike
unlike_few row zero h = refl
unlike_few row (suc zero) h = refl
unlike_few row (suc (suc n)) h = absurd (omega arith)

-- what `new_at` says of place i
new_agrees : (row : ℕ → ℕ) (i : ℕ) → Agrees (new_at row i) ((row i ≡ 0) ⊎ T (unlike row i))
unfolding new_at
new_agrees row i = agrees_or (agrees_eq (row i) 0) (agrees_T (unlike row i))

-- a row that holds something in its first n places and nothing after them
module _ (row : ℕ → ℕ) (n : ℕ) (room : n ≤ place_count) (used : (i : ℕ) → i < n → row i ≢ 0) (rest : (i : ℕ) → i < place_count → n ≤ i → row i ≡ 0) where
  -- where those n are distinct, each place is new or holds nothing
  new_place : T (every n (unlike row)) → (i : ℕ) → i < place_count → (b : Bool) → Below i n b → T (new_at row i)
  new_place t i h true (under l) = (new_agrees row i).from (inr (every_at n (unlike row) t i l))
  new_place t i h false (over m) = (new_agrees row i).from (inl (rest i h m))

  -- and one of the n that is new is unlike those before it
  unlike_place : (i : ℕ) → i < n → (row i ≡ 0) ⊎ T (unlike row i) → T (unlike row i)
  unlike_place i l (inl z) = absurd (used i l z)
  unlike_place i l (inr u) = u

  -- so the n are distinct where all places pass
  unlike_new : every n (unlike row) ≡ every place_count (new_at row)
  unlike_new = equal_bools (every n (unlike row)) (every place_count (new_at row))
      (λ t. every_of place_count (new_at row) (λ i h. new_place t i h (ltb i n) (below i n)))
      (λ t. every_of n (unlike row) (λ i l. unlike_place i l ((new_agrees row i).to (every_at place_count (new_at row) t i (omega arith)))))

-- the n places that entity e uses, where each place is in order
pub places_unlike : (d : Tables) (o : Bounded d) (e n : ℕ) → n ≤ place_count → n ≡ used_places d e → every place_count (place_test d e) ≡ true
    → every n (unlike (places d e)) ≡ every place_count (new_at (places d e))
places_unlike d o e n room ne fine = unlike_new (places d e) n room
    (λ i l. placed_used d o e i (omega arith) (placed i (omega arith)))
    (λ i h m. ((placed i h).0 (omega arith)).0)
  where
    placed : (i : ℕ) → i < place_count → Placed d e i
    placed = (agrees_every place_count (place_test d e) (Placed d e) (place_agrees d e)).to (is_true (every place_count (place_test d e)) fine)
