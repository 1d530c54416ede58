-- A row that is stored word by word, from its first one on.
use Rattle.std.specs.Prelude.{Bool, false, true, ◌≡◌, refl, ◌+◌, ◌<◌, ◌≤◌, ℕ, eqb, ltb}
use Rattle.std.proofs.Common.{◌∙◌, ap, sym, arith}
use Rattle.std.proofs.Math.Path.{fun_ext}
use Rattle.model.specs.Basics.Choice.{Below, Same, below, it, other, over, pick, same, under}
use Rattle.model.specs.Tables.Edits.{on_entity, row, word}
use Rattle.model.specs.Tables.Rows.{replace}
use Rattle.model.specs.Tables.Words.{EntityWord, Tables}
use Rattle.rows.specs.EditLaws.{row_unedited, row_read, row_store}
use Rattle.rows.specs.Rows.{RowName, row_in, stored_to, up_to}

-- ---- rows that are new up to a place

-- one more word of the new row
up_more : (new old : ℕ → ℕ) (i v : ℕ) → v ≡ new i → replace i v (up_to i new old) ≡ up_to (i + 1) new old
up_more new old i v q = fun_ext λ j. go j (eqb j i) (ltb j i) (ltb j (i + 1)) (same j i) (below j i) (below j (i + 1))
  where
    go : (j : ℕ) (a b c : Bool) → Same j i a → Below j i b → Below j (i + 1) c → pick a v (pick b (new j) (old j)) ≡ pick c (new j) (old j)
    go j true b true (it z) s w = q ∙ ap new (sym z)
    go j true b false (it z) s (over l) = absurd (omega arith)
    go j false true true z s w = refl
    go j false true false z (under h) (over l) = absurd (omega arith)
    go j false false true (other z) (over h) (under l) = absurd (omega arith)
    go j false false false z s w = refl

-- rows that agree after the place
up_whole : (new old : ℕ → ℕ) (i : ℕ) → ((j : ℕ) → i ≤ j → new j ≡ old j) → up_to i new old ≡ new
up_whole new old i q = fun_ext λ j. go j (ltb j i) (below j i)
  where
    go : (j : ℕ) (b : Bool) → Below j i b → pick b (new j) (old j) ≡ new j
    go j true s = refl
    go j false (over l) = sym (q j l)

-- and before it
up_none : (new old : ℕ → ℕ) (i : ℕ) → ((j : ℕ) → j < i → new j ≡ old j) → up_to i new old ≡ old
up_none new old i q = fun_ext λ j. go j (ltb j i) (below j i)
  where
    go : (j : ℕ) (b : Bool) → Below j i b → pick b (new j) (old j) ≡ old j
    go j true (under l) = q j l
    go j false s = refl

-- a word after the place is the old one
up_after : (new old : ℕ → ℕ) (i j : ℕ) → i ≤ j → up_to i new old j ≡ old j
up_after new old i j l = go (ltb j i) (below j i)
  where
    go : (b : Bool) → Below j i b → pick b (new j) (old j) ≡ old j
    go true (under h) = absurd (omega arith)
    go false s = refl

-- ---- stores into the row f of entity e, which is to be `new`

module _ (f : ℕ → EntityWord) (n : RowName f) (e : ℕ) (new : ℕ → ℕ) (d : Tables) where
  -- no word that differs is stored yet
  pub stored_none : (i : ℕ) → ((j : ℕ) → j < i → new j ≡ row_in f d e j) → d ≡ stored_to f e new d i
  stored_none i h = sym (row_unedited f n e d (up_to i new (row_in f d e)) (up_none new (row_in f d e) i h))

  -- one more
  pub stored_more : (i x : ℕ) → x ≡ new i → on_entity e (word (f i) x) (stored_to f e new d i) ≡ stored_to f e new d (i + 1)
  stored_more i x q = row_store f n e d (up_to i new (row_in f d e)) i x ∙ ap (λ (r : ℕ → ℕ). on_entity e (row f r) d) (up_more new (row_in f d e) i x q)

  -- every word that differs is stored
  pub stored_whole : (i : ℕ) → ((j : ℕ) → i ≤ j → new j ≡ row_in f d e j) → stored_to f e new d i ≡ on_entity e (row f new) d
  stored_whole i h = ap (λ (r : ℕ → ℕ). on_entity e (row f r) d) (up_whole new (row_in f d e) i h)

  -- in any entity, a word of the row that is still to be stored is as it was
  pub stored_read : (i c j : ℕ) → i ≤ j → (stored_to f e new d i).entity c (f j) ≡ d.entity c (f j)
  stored_read i c j l = row_read f n e d (up_to i new (row_in f d e)) c j (d.entity c (f j))
      (λ q. up_after new (row_in f d e) i j l ∙ ap (λ (x : ℕ). d.entity x (f j)) (sym q)) (λ q. refl)
