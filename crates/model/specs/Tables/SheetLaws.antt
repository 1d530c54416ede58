-- The words of a sheet are 2,304, and their tables are the sheet's.
use Rattle.std.specs.Prelude.{List, [], ◌++◌, ◌∷◌, ◌≡◌, refl, T}
use Rattle.std.proofs.Common.{◌∙◌, ap₂, subst, sym, le_of_suc-le-suc, not-suc-le-zero, suc-mul, zero-mul, length-append}
use Rattle.std.proofs.Math.Path.{ap, fun_ext}
use Prim.Native.Nat.{◌*◌, ◌+◌, ◌-◌, ◌<◌, suc, zero, ℕ}
use native.Mathlib.Omega.{arith}
use Rattle.std.proofs.Math.ListN.{get_or-append, get_or, length}
use Rattle.std.proofs.Math.Seq.{get_or-append-add}
use Rattle.model.specs.Tables.Layout.{Bounded, entity_at, entity_in, entity_width, offset, tables_of, user_at, user_in, user_offset}
use Rattle.model.specs.Tables.Layout.{user_width, word_count}
use Rattle.model.specs.Tables.LayoutLaws.{bounded}
use Rattle.model.specs.Tables.RangeLaws.{entity_in_lem, guard_same, user_in_lem}
use Rattle.model.specs.Tables.Sheet.{Sheet, padded, padded_records, record_word, sheet_entities, sheet_tables, sheet_users, sheet_words}
use Rattle.model.specs.Tables.WordAtLaws.{offset_below}
use Rattle.model.specs.Tables.Words.{EntityWord, UserWord, entity_count, user_count}

-- a padded list has n words
pub padded_length : (n : ℕ) (l : List ℕ) → length (padded n l) ≡ n
unfolding padded
padded_length zero l = refl
padded_length (suc n) [] = ap suc (padded_length n [])
padded_length (suc n) (x ∷ l) = ap suc (padded_length n l)

-- and they are the list's own, then zeros
pub padded_at : (n : ℕ) (l : List ℕ) (j : ℕ) → j < n → get_or (padded n l) j 0 ≡ get_or l j 0
unfolding padded
padded_at zero l j h = absurd (not-suc-le-zero h)
padded_at (suc n) [] zero h = refl
padded_at (suc n) [] (suc j) h = padded_at n [] j (le_of_suc-le-suc h)
padded_at (suc n) (x ∷ l) zero h = refl
padded_at (suc n) (x ∷ l) (suc j) h = padded_at n l j (le_of_suc-le-suc h)

-- a record of w words before others: how many words, word j of it, and word j of the others' record i
module _ (w : ℕ) (r s : List ℕ) (size : length r ≡ w) where
  more_length : (n : ℕ) → length s ≡ n * w → length (r ++ s) ≡ suc n * w
  more_length n h = omega (arith, length-append r s, suc-mul n w)

  first_at : (j : ℕ) → j < w → get_or (r ++ s) (0 * w + j) 0 ≡ get_or r j 0
  first_at j h = let q : 0 * w + j ≡ j = omega arith in ap (λ (k : ℕ). get_or (r ++ s) k 0) q ∙ get_or-append r s 0 j (omega arith)

  later_at : (i j : ℕ) → get_or (r ++ s) (suc i * w + j) 0 ≡ get_or s (i * w + j) 0
  later_at i j = let q : suc i * w + j ≡ length r + (i * w + j) = omega (arith, suc-mul i w) in ap (λ (k : ℕ). get_or (r ++ s) k 0) q
      ∙ get_or-append-add r s (i * w + j) 0

-- n records of w words have n times w words
pub records_length : (n w : ℕ) (l : List (List ℕ)) → length (padded_records n w l) ≡ n * w
unfolding padded_records
records_length zero w l = sym (zero-mul w)
records_length (suc n) w [] = more_length w (padded w []) (padded_records n w []) (padded_length w []) n (records_length n w [])
records_length (suc n) w (r ∷ l) = more_length w (padded w r) (padded_records n w l) (padded_length w r) n (records_length n w l)

-- and word j of record i, counted from 0, stands at i times w and j
pub records_at : (n w : ℕ) (l : List (List ℕ)) (i j : ℕ) → i < n → j < w → get_or (padded_records n w l) (i * w + j) 0 ≡ get_or (get_or l i []) j 0
unfolding padded_records
records_at zero w l i j h k = absurd (not-suc-le-zero h)
records_at (suc n) w [] zero j h k = first_at w (padded w []) (padded_records n w []) (padded_length w []) j k ∙ padded_at w [] j k
records_at (suc n) w [] (suc i) j h k = later_at w (padded w []) (padded_records n w []) (padded_length w []) i j ∙ records_at n w [] i j (le_of_suc-le-suc h) k
records_at (suc n) w (r ∷ l) zero j h k = first_at w (padded w r) (padded_records n w l) (padded_length w r) j k ∙ padded_at w r j k
records_at (suc n) w (r ∷ l) (suc i) j h k = later_at w (padded w r) (padded_records n w l) (padded_length w r) i j ∙ records_at n w l i j
    (le_of_suc-le-suc h) k

-- a sheet has 2,304 words
pub sheet_words_length : (s : Sheet) → length (sheet_words s) ≡ word_count
unfolding sheet_words
sheet_words_length s = length-append (sheet_users s) (sheet_entities s) ∙ ap₂ ◌+◌ (records_length user_count user_width s.users)
    (records_length entity_count entity_width s.entities)

module _ (s : Sheet) where
  -- at the index of a user's word stands that word of the sheet
  sheet_user : (u : ℕ) (f : UserWord) → T (user_in u f) → get_or (sheet_words s) (user_at u f) 0 ≡ record_word s.users u (user_offset f)
  unfolding sheet_words
  sheet_user u f t =
      let r = user_in_lem u f t in
      let n = records_length user_count user_width s.users in
      get_or-append (sheet_users s) (sheet_entities s) 0 (user_at u f) (omega arith) ∙ records_at user_count user_width s.users (u - 1)
      (user_offset f) (omega arith) (omega arith)

  -- and at the index of an entity's word that one
  sheet_entity : (e : ℕ) (f : EntityWord) → T (entity_in e f) → get_or (sheet_words s) (entity_at e f) 0 ≡ record_word s.entities e (offset f)
  unfolding sheet_words
  sheet_entity e f t =
      let r = entity_in_lem e f t in
      let n = records_length user_count user_width s.users in
      let j : ℕ = (e - 1) * entity_width + offset f in
      let q : entity_at e f ≡ length (sheet_users s) + j = omega arith in
      ap (λ (k : ℕ). get_or (sheet_users s ++ sheet_entities s) k 0) q ∙ get_or-append-add (sheet_users s) (sheet_entities s) j 0
      ∙ records_at entity_count entity_width s.entities (e - 1) (offset f) (omega arith) (offset_below f r.2)

  -- the tables of a sheet's words are the sheet's tables
  pub sheet_tables_lem : tables_of (sheet_words s) ≡ sheet_tables s
  unfolding tables_of sheet_tables
  sheet_tables_lem = λ i. record {
    user = fun_ext (λ u. fun_ext (λ f.
        guard_same (user_in u f) (get_or (sheet_words s) (user_at u f) 0) (record_word s.users u (user_offset f)) (sheet_user u f))) i;
    entity = fun_ext (λ e. fun_ext (λ f. guard_same (entity_in e f) (get_or (sheet_words s) (entity_at e f) 0) (record_word s.entities e (offset f))
        (sheet_entity e f))) i;
  }

  -- so they are zero outside their ranges
  pub sheet_bounded : Bounded (sheet_tables s)
  sheet_bounded = subst Bounded sheet_tables_lem (bounded (sheet_words s))
