-- A row that is edited as a whole: as it is, with one word stored, read, and beside another row.
use Rattle.std.specs.Prelude.{Bool, ◌&&◌, false, true, ◌≢◌, ◌≡◌, refl, ℕ, eqb}
use Rattle.std.proofs.Common.{◌∙◌, ap, sym}
use Rattle.model.specs.Basics.Choice.{Same, it, other, pick, same}
use Rattle.model.specs.Tables.Edits.{Edit, ◌and◌, on_entity, row, word, written}
use Rattle.model.specs.Tables.Rows.{replace}
use Rattle.model.specs.Tables.StoreLaws.{alike, twice}
use Rattle.model.specs.Tables.WordAtLaws.{entity_word_same}
use Rattle.model.specs.Tables.Words.{EntityWord, Tables, index, tag}
use Rattle.rows.specs.NameLaws.{row_word_lem}
use Rattle.rows.specs.Rows.{RowName, row_in}

-- an edit that leaves every word of the record as it is
pub unedited : (e : ℕ) (A : Edit EntityWord) (d : Tables) → ((f : EntityWord) → written A (d.entity e) f ≡ d.entity e f) → on_entity e A d ≡ d
unedited e A d h = alike e A (record { touched = λ f. false; value = λ f. 0 }) d h

-- a word stored as it is
pub word_unedited : (e : ℕ) (d : Tables) (g : EntityWord) (v : ℕ) → v ≡ d.entity e g → on_entity e (word g v) d ≡ d
word_unedited e d g v q = unedited e (word g v) d (λ x. go x (eqb (tag x) (tag g)) (eqb (index x) (index g)) (same (tag x) (tag g)) (same (index x) (index g)))
  where
    go : (x : EntityWord) (a b : Bool) → Same (tag x) (tag g) a → Same (index x) (index g) b → pick (a && b) v (d.entity e x) ≡ d.entity e x
    go x true true (it p) (it r) = q ∙ ap (d.entity e) (sym (entity_word_same x g p r))
    go x true false p r = refl
    go x false b p r = refl

-- three edits of one entity are one
pub thrice : (e : ℕ) (A B C : Edit EntityWord) (d : Tables) → on_entity e A (on_entity e B (on_entity e C d)) ≡ on_entity e (A and B and C) d
thrice e A B C d = ap (on_entity e A) (twice e B C d) ∙ twice e A (B and C) d

module _ (f : ℕ → EntityWord) (n : RowName f) (e : ℕ) (d : Tables) where
  -- a row as it is: the tables as they are
  pub row_unedited : (r : ℕ → ℕ) → r ≡ row_in f d e → on_entity e (row f r) d ≡ d
  row_unedited r q = unedited e (row f r) d (λ g. go g (eqb (tag g) (tag (f 0))) (same (tag g) (tag (f 0))))
    where
      go : (g : EntityWord) (b : Bool) → Same (tag g) (tag (f 0)) b → pick b (r (index g)) (d.entity e g) ≡ d.entity e g
      go g true (it s) = ap (λ (x : ℕ → ℕ). x (index g)) q ∙ ap (d.entity e) (row_word_lem f n g s)
      go g false s = refl

  -- a word stored into a row that has been edited
  pub row_store : (r : ℕ → ℕ) (k v : ℕ) → on_entity e (word (f k) v) (on_entity e (row f r) d) ≡ on_entity e (row f (replace k v r)) d
  row_store r k v = twice e (word (f k) v) (row f r) d ∙ alike e (word (f k) v and row f r) (row f (replace k v r)) d
      (λ g. rw (n.one_tag k, n.counted k) (go (eqb (tag g) (tag (f 0))) (eqb (index g) k) (r (index g)) (d.entity e g)))
    where
      go : (a b : Bool) (x w : ℕ) → pick (pick (a && b) true a) (pick (a && b) v x) w ≡ pick a (pick b v x) w
      go true true x w = refl
      go true false x w = refl
      go false b x w = refl

  -- and into the row as it is
  pub row_one : (k v : ℕ) → on_entity e (word (f k) v) d ≡ on_entity e (row f (replace k v (row_in f d e))) d
  row_one k v = ap (on_entity e (word (f k) v)) (sym (row_unedited (row_in f d e) refl)) ∙ row_store (row_in f d e) k v

  -- a word of the row read in any entity c, which may be the one that was edited
  pub row_read : (r : ℕ → ℕ) (c i y : ℕ) → (c ≡ e → r i ≡ y) → (c ≢ e → d.entity c (f i) ≡ y) → (on_entity e (row f r) d).entity c (f i) ≡ y
  row_read r c i y h k = go (eqb (tag (f i)) (tag (f 0))) (eqb c e) (same (tag (f i)) (tag (f 0))) (same c e)
    where
      go : (a b : Bool) → Same (tag (f i)) (tag (f 0)) a → Same c e b → pick a (pick b (r (index (f i))) (d.entity c (f i))) (d.entity c (f i)) ≡ y
      go true true p (it q) = ap r (n.counted i) ∙ h q
      go true false p (other q) = k q
      go false b (other p) s = absurd (p (n.one_tag i))

  -- a word of another tag is stored before or after the row
  pub row_apart : (r : ℕ → ℕ) (g : EntityWord) (v : ℕ) → tag g ≢ tag (f 0)
      → on_entity e (word g v) (on_entity e (row f r) d) ≡ on_entity e (row f r) (on_entity e (word g v) d)
  row_apart r g v z = twice e (word g v) (row f r) d
      ∙ alike e (word g v and row f r) (row f r and word g v) d
      (λ x. go x (eqb (tag x) (tag g)) (eqb (index x) (index g)) (eqb (tag x) (tag (f 0))) (same (tag x) (tag g)) (same (tag x) (tag (f 0))))
      ∙ sym (twice e (row f r) (word g v) d)
    where
      go : (x : EntityWord) (a b c : Bool) → Same (tag x) (tag g) a → Same (tag x) (tag (f 0)) c
          → pick (pick (a && b) true c) (pick (a && b) v (r (index x))) (d.entity e x) ≡ pick (pick c true (a && b)) (pick c (r (index x)) v) (d.entity e x)
      go x true b true (it p) (it q) = absurd (z (sym p ∙ q))
      go x true true false p q = refl
      go x true false false p q = refl
      go x false b true p q = refl
      go x false b false p q = refl
