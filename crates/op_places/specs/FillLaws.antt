-- The stores that put an entity last in a container, and those that make a new one, are the model's edits.
use Rattle.std.proofs.Common.{◌∙◌, ap, sym, add-one}
use Rattle.std.specs.Prelude.{◌≡◌, refl, ◌+◌, ℕ}
use Rattle.model.specs.Effect.Places.{bearing, fresh, put}
use Rattle.model.specs.Tables.Edits.{◌and◌, on_entity, row, word, written}
use Rattle.model.specs.Tables.RowLaws.{replace_same}
use Rattle.model.specs.Tables.Rows.{replace}
use Rattle.model.specs.Tables.StoreLaws.{alike, twice}
use Rattle.model.specs.Tables.Words.{EntityWord, Tables, used, used_places, kind, level, mark, maximum, place, places, releaser, shown, sums}
use Rattle.model.specs.Tables.Words.{triple, triples, type, value}
use Rattle.rows.specs.EditLaws.{row_unedited, row_one, thrice}
use Rattle.rows.specs.NameLaws.{place_row, shown_row}

-- e is put last in c, which shows nothing
pub put_stores : (d : Tables) (c e n : ℕ) → n ≡ used_places d c → ((i : ℕ) → sums d c i ≡ 0) → (s y : Tables) → s ≡ on_entity c (word (place n) e) d
    → y ≡ on_entity c (word used (n + 1)) s → y ≡ put c e 0 d
put_stores d c e n q none s y a b = b
    ∙ ap (on_entity c (word used (n + 1))) (a
    ∙ ap (on_entity c (word (place n) e)) (sym (row_unedited shown shown_row c d (replace n 0 (sums d c)) (replace_same (sums d c) n 0 (none n))))
    ∙ row_one place place_row c (on_entity c (row shown (replace n 0 (sums d c))) d) n e)
    ∙ thrice c (word used (n + 1)) (row place (replace n e (places d c))) (row shown (replace n 0 (sums d c))) d
    ∙ rw (add-one n, q)

module _ (d : Tables) (e c : ℕ) where
  new_stores : (k t l : ℕ)
      → on_entity e (row triple (triples d c)) (on_entity e (word level l) (on_entity e (word type t) (on_entity e (word kind k) d))) ≡ fresh e c k t l d
  new_stores k t l = ap (on_entity e (row triple (triples d c))) (thrice e (word level l) (word type t) (word kind k) d)
      ∙ twice e (row triple (triples d c)) (word level l and word type t and word kind k) d
      ∙ alike e (row triple (triples d c) and word level l and word type t and word kind k) (bearing c k t l d) d same_word
    where
      same_word : (f : EntityWord)
          → written (row triple (triples d c) and word level l and word type t and word kind k) (d.entity e) f ≡ written (bearing c k t l d) (d.entity e) f
      same_word kind = refl
      same_word type = refl
      same_word level = refl
      same_word mark = refl
      same_word value = refl
      same_word releaser = refl
      same_word maximum = refl
      same_word used = refl
      same_word (place i) = refl
      same_word (shown i) = refl
      same_word (triple i) = refl

  -- a new record at e, with the triples of c
  pub bear_stores : (k t l a b : ℕ) → a ≡ k → b ≡ t → (x y z s : Tables) → x ≡ on_entity e (word kind a) d → y ≡ on_entity e (word type b) x
      → z ≡ on_entity e (word level l) y → s ≡ on_entity e (row triple (triples z c)) z → s ≡ fresh e c k t l d
  bear_stores k t l a b p q x y z s i j m n = n
      ∙ ap (λ (r : Tables). on_entity e (row triple (triples r c)) r)
      (m ∙ ap (on_entity e (word level l)) (j ∙ ap (λ (v : ℕ). on_entity e (word type v) x) q
      ∙ ap (on_entity e (word type t)) (i ∙ ap (λ (v : ℕ). on_entity e (word kind v) d) p)))
      ∙ new_stores k t l
