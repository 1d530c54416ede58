-- A row that is closed up word by word, from the place that was taken out on.
use Rattle.std.specs.Prelude.{Bool, false, true, ◌≡◌, refl, ◌+◌, ◌<◌, ◌≤◌, suc, ℕ, ltb}
use Rattle.std.proofs.Common.{◌∙◌, ap, sym, add-one, arith}
use Rattle.model.specs.Basics.Choice.{Below, below, over, pick, under}
use Rattle.model.specs.Tables.Edits.{on_entity, row, word}
use Rattle.model.specs.Tables.Rows.{close}
use Rattle.model.specs.Tables.Words.{EntityWord, Tables, place_count}
use Rattle.rows.specs.Rows.{RowName, closed_to, last_place, row_in}
use Rattle.rows.specs.StoreLaws.{stored_more, stored_none, stored_read, stored_whole}

-- before place k a row that is closed up is as it was; from there on it is the next word
close_before : (k : ℕ) (r : ℕ → ℕ) (j : ℕ) → j < k → close k r j ≡ r j
close_before k r j l = go (ltb j k) (below j k)
  where
    go : (b : Bool) → Below j k b → pick b (r j) (r (suc j)) ≡ r j
    go true s = refl
    go false (over h) = absurd (omega arith)

close_after : (k : ℕ) (r : ℕ → ℕ) (j : ℕ) → k ≤ j → close k r j ≡ r (suc j)
close_after k r j l = go (ltb j k) (below j k)
  where
    go : (b : Bool) → Below j k b → pick b (r j) (r (suc j)) ≡ r (suc j)
    go true (under h) = absurd (omega arith)
    go false s = refl

module _ (f : ℕ → EntityWord) (n : RowName f) (e k : ℕ) (d : Tables) where
  -- nothing is stored yet
  pub closing_none : d ≡ closed_to f e k d k
  closing_none = stored_none f n e (close k (row_in f d e)) d k (close_before k (row_in f d e))

  -- one turn of the loop: the next word is read, and stored one place before
  pub closing_step : (i x : ℕ) (s m : Tables) → k ≤ i → s ≡ closed_to f e k d i → x ≡ s.entity e (f (i + 1)) → m ≡ on_entity e (word (f i) x) s
      → m ≡ closed_to f e k d (i + 1)
  closing_step i x s m l q r z = z ∙ ap (on_entity e (word (f i) x)) q ∙ stored_more f n e (close k (row_in f d e)) d i x
      (r ∙ ap (λ (y : Tables). y.entity e (f (i + 1))) q ∙ stored_read f n e (close k (row_in f d e)) d i e (i + 1) (omega arith)
      ∙ ap (row_in f d e) (add-one i) ∙ sym (close_after k (row_in f d e) i l))

  -- the last word is zero, as is all that follows it
  pub closing_end : ((j : ℕ) → place_count ≤ j → row_in f d e j ≡ 0) → k < place_count → (i : ℕ) (s m : Tables) → i ≡ last_place → s ≡ closed_to f e k d i
      → m ≡ on_entity e (word (f last_place) 0) s → m ≡ on_entity e (row f (close k (row_in f d e))) d
  closing_end out l i s m p q z = z ∙ ap (on_entity e (word (f last_place) 0)) (q ∙ ap (closed_to f e k d) p)
      ∙ stored_more f n e (close k (row_in f d e)) d last_place 0 (sym (close_after k (row_in f d e) last_place (omega arith) ∙ out place_count (omega arith)))
      ∙ stored_whole f n e (close k (row_in f d e)) d place_count
      (λ j b. close_after k (row_in f d e) j (omega arith) ∙ out (suc j) (omega arith) ∙ sym (out j b))
