-- Rule 8.2 on words: what is quiet but for a user's notice differs in words 5 to 7 of that user at most.
use Rattle.std.specs.Prelude.{Bool, List, ◌≡◌, ◌%◌, ◌-◌, ◌/◌, ◌<◌, ◌≤◌, suc, ℕ, T, ltb, get_or, length}
use Rattle.std.proofs.Math.Bool.{false, true}
use Rattle.std.proofs.Common.{◌∙◌, ap, sym, arith}
use Rattle.std.proofs.Math.ListN.{get_or-eq_default}
use Rattle.model.specs.Basics.Cases.{cases, lt_or_le}
use Rattle.model.specs.Basics.Choice.{pick}
use Rattle.model.specs.Tables.Layout.{entities_from, tables_of, user_at, user_offset, user_width, word_count}
use Rattle.model.specs.Tables.WordAt.{user_word_at}
use Rattle.model.specs.Tables.WordAtLaws.{user_offset_at}
use Rattle.model.specs.Tables.Words.{Tables, UserWord, authorised, clearance, current, device, held, held_op, missed, present, spare}
use Rattle.model.specs.Tables.WordsOf.{entity_at_index, user_at_index, word_at_index}
use Rattle.model.specs.Tables.WordsOfLaws.{words_of_at, words_of_tables_of}
use Rattle.model.specs.Theorem.Definitions.{Quiet, notice_word}

-- a word of a notice is word 5, 6 or 7 of its record
notice_offset : (f : UserWord) → T (notice_word f) → (user_offset held ≤ user_offset f) × (user_offset f ≤ user_offset missed)
notice_offset present t = absurd t
notice_offset clearance t = absurd t
notice_offset authorised t = absurd t
notice_offset current t = absurd t
notice_offset device t = absurd t
notice_offset held t = (omega arith, omega arith)
notice_offset held_op t = (omega arith, omega arith)
notice_offset missed t = (omega arith, omega arith)
notice_offset (spare i) t = absurd t

module _ (d d' : Tables) (u : ℕ) (c : Quiet d u d') (i : ℕ) (out : user_at u held ≤ i → i ≤ user_at u missed → ⊥) where
  -- the word of a user at index i, if it is in a user's record
  user_same : user_at_index d' i ≡ user_at_index d i
  user_same = c.users (suc (i / user_width)) (user_word_at (i % user_width)) apart
    where
      apart : suc (i / user_width) ≡ u → T (notice_word (user_word_at (i % user_width))) → ⊥
      apart e t =
          let o = notice_offset (user_word_at (i % user_width)) t in
          let m : user_offset (user_word_at (i % user_width)) ≡ i % user_width = user_offset_at (i % user_width) (omega arith) in
          out (omega arith) (omega arith)

  index_same : word_at_index d' i ≡ word_at_index d i
  unfolding word_at_index
  index_same = go (ltb i entities_from)
    where
      go : (b : Bool) → pick b (user_at_index d' i) (entity_at_index d' (i - entities_from)) ≡ pick b (user_at_index d i)
          (entity_at_index d (i - entities_from))
      go true = user_same
      go false = c.entities _ _

-- the word at an index of 2,304 words is that of their tables
word_told : (t : List ℕ) → length t ≡ word_count → (i : ℕ) → i < word_count → get_or t i 0 ≡ word_at_index (tables_of t) i
word_told t e i h = sym (ap (λ (l : List ℕ). get_or l i 0) (words_of_tables_of t e)) ∙ words_of_at (tables_of t) i h

pub quiet_words : (t r : List ℕ) (u : ℕ) → length t ≡ word_count → length r ≡ word_count → Quiet (tables_of t) u (tables_of r)
    → (i : ℕ) → (user_at u held ≤ i → i ≤ user_at u missed → ⊥) → get_or r i 0 ≡ get_or t i 0
quiet_words t r u e f c i out = cases (lt_or_le i word_count)
    (λ h. word_told r f i h ∙ index_same (tables_of t) (tables_of r) u c i out ∙ sym (word_told t e i h))
    (λ h. get_or-eq_default r 0 (omega arith) ∙ sym (get_or-eq_default t 0 (omega arith)))
