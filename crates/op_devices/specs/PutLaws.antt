-- Rule 6.10: the stores that put an entity on a screen.
use Rattle.std.specs.Prelude.{Bool, ◌≡◌, ◌+◌, ◌<◌, ◌≤◌, suc, ℕ, ltb}
use Rattle.std.proofs.Common.{inl, inr, ◌∙◌, ap, sym, add-one, arith, le-ltb, lt-ltb}
use Rattle.model.specs.Basics.Choice.{pick}
use Rattle.model.specs.Effect.Screens.{show, placing, spot}
use Rattle.model.specs.Tables.Edits.{on_entity, row, word}
use Rattle.model.specs.Tables.RowLaws.{replace_same, sought}
use Rattle.model.specs.Tables.Rows.{Sought, replace}
use Rattle.model.specs.Tables.Words.{Tables, used, used_places, place, places, shown, sums}
use Rattle.rows.specs.EditLaws.{row_unedited, row_one, thrice, word_unedited}
use Rattle.rows.specs.NameLaws.{place_row, shown_row}

module _ (d : Tables) (v e a k n : ℕ) (hn : n ≡ used_places d v) (hk : k ≡ spot v e d) where
  -- its sum is stored
  abbrev summed : Tables
  summed = on_entity v (row shown (replace k a (sums d v))) d

  -- it stands there already: only its sum is stored
  module _ (h : k < n) where
    stands : places d v k ≡ e
    stands = go (sought e (places d v) (used_places d v))
      where
        go : Sought e (places d v) (used_places d v) (spot v e d) → places d v k ≡ e
        go (inl s) = ap (places d v) hk ∙ s.1
        go (inr s) = absurd (omega (arith, s.0))

    used_kept : n ≡ pick (ltb k (used_places d v)) (used_places d v) (suc (used_places d v))
    used_kept = hn ∙ ap (λ (b : Bool). pick b (used_places d v) (suc (used_places d v))) (sym (lt-ltb k (used_places d v) (omega arith)))

    pub put_again : on_entity v (word (shown k) a) d ≡ show v e a d
    put_again = row_one shown shown_row v d k a
        ∙ sym (row_unedited place place_row v summed (replace k e (places d v)) (replace_same (places d v) k e stands))
        ∙ sym (word_unedited v (on_entity v (row place (replace k e (places d v))) summed) used n hn)
        ∙ thrice v (word used n) (row place (replace k e (places d v))) (row shown (replace k a (sums d v))) d
        ∙ ap (λ (m : ℕ). on_entity v (placing v e a d k m) d) used_kept
        ∙ ap (λ (j : ℕ). on_entity v (placing v e a d j (pick (ltb j (used_places d v)) (used_places d v) (suc (used_places d v)))) d) hk

  -- it is new: it is stored with its sum, and counted
  module _ (h : n ≤ k) where
    used_grown : n + 1 ≡ pick (ltb k (used_places d v)) (used_places d v) (suc (used_places d v))
    used_grown = add-one n ∙ ap suc hn ∙ ap (λ (b : Bool). pick b (used_places d v) (suc (used_places d v))) (sym (le-ltb k (used_places d v) (omega arith)))

    pub put_new : on_entity v (word used (n + 1)) (on_entity v (word (place k) e) (on_entity v (word (shown k) a) d)) ≡ show v e a d
    put_new = ap (λ (s : Tables). on_entity v (word used (n + 1)) (on_entity v (word (place k) e) s)) (row_one shown shown_row v d k a)
        ∙ ap (on_entity v (word used (n + 1))) (row_one place place_row v summed k e)
        ∙ thrice v (word used (n + 1)) (row place (replace k e (places d v))) (row shown (replace k a (sums d v))) d
        ∙ ap (λ (m : ℕ). on_entity v (placing v e a d k m) d) used_grown
        ∙ ap (λ (j : ℕ). on_entity v (placing v e a d j (pick (ltb j (used_places d v)) (used_places d v) (suc (used_places d v)))) d) hk
