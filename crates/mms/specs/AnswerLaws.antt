-- What the list, the reader and the writer can answer, which number goes with it, and that a refusal leaves what was lent.
use Rattle.std.specs.Prelude.{Bool, ◌||◌, ◌≢◌, ◌*◌, ◌≤◌, suc, ℕ, eqb, leb, drop, length}
use Rattle.std.proofs.Math.Bool.{false, true}
use mathlib.Core.List.{List, Memᴰ, [], ◌++◌, ◌∷◌}
use Rattle.std.proofs.Common.{◌∙◌, sym}
use Rattle.std.proofs.Math.Path.{◌≡◌, refl, subst}
use Rattle.std.proofs.Math.Dec.{T}
use Rattle.model.specs.Basics.Agree.{agrees_eq, agrees_not}
use Rattle.model.specs.Basics.Choice.{Same, it, pick, same}
use Rattle.model.specs.Basics.TestLaws.{pick_false}
use Rattle.model.specs.List.Further.{asker, checked}
use Rattle.model.specs.List.Listing.{Lists, barred, entries, entry_words, list_answer, showing}
use Rattle.model.specs.Request.Ladder.{not_logged_on, unknown_user}
use Rattle.model.specs.Request.Words.{request_of, request_words}
use Rattle.model.specs.State.Check.{check, judge, secure_test, well_formed_test}
use Rattle.model.specs.Tables.Layout.{tables_of, word_count}
use Rattle.model.proofs.Text.BothWays.{read_number_small}
use Rattle.model.proofs.Text.BrokenLaws.{first_some, reads_broken}
use Rattle.model.specs.Text.Reading.{Reads, answer_in, line_in, read_answer, read_number, words_after, words_in}
use Rattle.model.specs.Text.Unfinished.{line_total}
use Rattle.model.specs.Text.Wording.{Lines, bad_line, lines, read_text}
use Rattle.model.specs.Text.Writing.{Writes, has_text, text_of_words, write_answer, write_number}
use Rattle.model.specs.Request.Refusals as refusal

-- a number is one of a list
unfoldable pub has : ℕ → List ℕ → Bool
has n [] = false
has n (x ∷ l) = eqb n x || has n l

-- and so a member of it
pub has_member : (n : ℕ) (l : List ℕ) → T (has n l) → Memᴰ n l
unfolding has
has_member n [] t = absurd t
has_member n (x ∷ l) t = go (eqb n x) (same n x) t (has_member n l)
  where
    go : (b : Bool) → Same n x b → T (b || has n l) → (T (has n l) → Memᴰ n l) → Memᴰ n (x ∷ l)
    go true (it e) t more = Memᴰ.head e
    go false e t more = Memᴰ.tail (more t)

-- ---- the list

-- what the list can answer
abbrev pub list_answers : List ℕ
list_answers = refusal.accepted ∷ refusal.bad_length ∷ refusal.not_well_formed ∷ refusal.not_secure ∷ refusal.unknown_requester ∷ refusal.not_logged_on
    ∷ refusal.too_short ∷ []

-- the refusals before 17, from what decides them
abbrev barred_by : Bool → Bool → Bool → Bool → Bool → ℕ
barred_by a w s b c = pick (eqb (checked a w s) refusal.accepted) (asker b c refusal.accepted) (checked a w s)

list_has : (t : List ℕ) (u : ℕ) (l : List (List ℕ)) (n : ℕ) → T (has (list_answer (barred t u) l n) list_answers)
unfolding has barred check judge
list_has t u l n =
    go (eqb (length t) word_count) (well_formed_test (tables_of t)) (secure_test (tables_of t)) (unknown_user (tables_of t) (request_of (showing u [])))
    (not_logged_on (tables_of t) (request_of (showing u []))) (leb (entry_words * length l) n)
  where
    go : (a w s b c e : Bool)
        → T (has (pick (eqb (barred_by a w s b c) refusal.accepted) (pick e refusal.accepted refusal.too_short) (barred_by a w s b c)) list_answers)
    go true true true true c e = tt
    go true true true false true e = tt
    go true true true false false true = tt
    go true true true false false false = tt
    go true true false b c e = tt
    go true false s b c e = tt
    go false w s b c e = tt

module _ {t room r : List ℕ} {u a n : ℕ} (x : Lists t u room a n r) where
  pub list_answers_lem : Memᴰ a list_answers
  list_answers_lem = subst (λ (k : ℕ). Memᴰ k list_answers) (sym x.answer)
      (has_member (list_answer (barred t u) x.list (length room)) list_answers (list_has t u x.list (length room)))

  -- a number goes with 0 and 17 only
  pub list_number_lem : a ≢ refusal.accepted → a ≢ refusal.too_short → n ≡ 0
  list_number_lem f g = x.number ∙ go (eqb (barred t u) refusal.accepted) (leb (entry_words * length x.list) (length room)) x.answer
    where
      go : (b c : Bool) → a ≡ pick b (pick c refusal.accepted refusal.too_short) (barred t u) → ◌≡◌ {A = ℕ} (pick b (length x.list) 0) 0
      go true true e = absurd (f e)
      go true false e = absurd (g e)
      go false c e = refl

  pub list_unchanged_lem : a ≢ refusal.accepted → r ≡ room
  list_unchanged_lem f = x.words ∙ pick_false (eqb a refusal.accepted) (entries x.list ++ drop (length (entries x.list)) room) room
      ((agrees_not (agrees_eq a refusal.accepted)).from f)

-- ---- the reader

-- what the reader can answer
abbrev pub read_answers : List ℕ
read_answers = refusal.accepted ∷ refusal.bad_length ∷ refusal.not_a_request ∷ []

module _ {s w r : List ℕ} {a n : ℕ} (x : Reads s w a n r) where
  pub read_answers_lem : Memᴰ a read_answers
  unfolding read_answer has
  read_answers_lem = subst (λ (k : ℕ). Memᴰ k read_answers) (sym x.answer) (has_member (read_answer s w) read_answers
      (go (eqb (length w) request_words) (read_text s)))
    where
      go : (b : Bool) (l : Lines) → T (has (pick b (answer_in l) refusal.bad_length) read_answers)
      go true (lines m y) = tt
      go true (bad_line k) = tt
      go false l = tt

  -- a number goes with 18 only
  pub read_number_lem : a ≢ refusal.not_a_request → n ≡ 0
  unfolding read_answer read_number
  read_number_lem f = x.number ∙ go (eqb (length w) request_words) (read_text s) x.answer
    where
      go : (b : Bool) (l : Lines) → a ≡ pick b (answer_in l) refusal.bad_length → ◌≡◌ {A = ℕ} (pick b (line_in l) 0) 0
      go true (lines m y) e = refl
      go true (bad_line k) e = absurd (f e)
      go false l e = refl

  -- and is then a line
  pub read_line_lem : a ≡ refusal.not_a_request → (1 ≤ n) × (n ≤ suc line_total)
  read_line_lem e = (
    first_some (reads_broken (subst (λ (k : ℕ). Reads s w k n r) e x)).0,
    subst (λ (k : ℕ). k ≤ suc line_total) (sym x.number) (read_number_small s w),
  )

  pub read_unchanged_lem : a ≢ refusal.accepted → r ≡ w
  unfolding read_answer words_after
  read_unchanged_lem f = x.words ∙ go (eqb (length w) request_words) (read_text s) x.answer
    where
      go : (b : Bool) (l : Lines) → a ≡ pick b (answer_in l) refusal.bad_length → pick b (words_in l w) w ≡ w
      go true (lines m y) e = absurd (f e)
      go true (bad_line k) e = refl
      go false l e = refl

-- ---- the writer

-- what the writer can answer
abbrev pub write_answers : List ℕ
write_answers = refusal.accepted ∷ refusal.bad_length ∷ refusal.bad_request ∷ refusal.too_short ∷ []

module _ {w room r : List ℕ} {a n : ℕ} (x : Writes w room a n r) where
  pub write_answers_lem : Memᴰ a write_answers
  unfolding write_answer has
  write_answers_lem = subst (λ (k : ℕ). Memᴰ k write_answers) (sym x.answer) (has_member (write_answer w (length room)) write_answers
      (go (eqb (length w) request_words) (has_text (request_of w)) (leb (length (text_of_words w)) (length room))))
    where
      go : (b c e : Bool) → T (has (pick b (pick c (pick e refusal.accepted refusal.too_short) refusal.bad_request) refusal.bad_length) write_answers)
      go true true true = tt
      go true true false = tt
      go true false e = tt
      go false c e = tt

  -- a number goes with 0 and 17 only
  pub write_number_lem : a ≢ refusal.accepted → a ≢ refusal.too_short → n ≡ 0
  unfolding write_answer write_number
  write_number_lem f g =
      x.number ∙ go (eqb (length w) request_words) (has_text (request_of w)) (leb (length (text_of_words w)) (length room)) x.answer
    where
      go : (b c e : Bool) → a ≡ pick b (pick c (pick e refusal.accepted refusal.too_short) refusal.bad_request) refusal.bad_length
          → ◌≡◌ {A = ℕ} (pick b (pick c (length (text_of_words w)) 0) 0) 0
      go true true true z = absurd (f z)
      go true true false z = absurd (g z)
      go true false e z = refl
      go false c e z = refl

  pub write_unchanged_lem : a ≢ refusal.accepted → r ≡ room
  write_unchanged_lem f = x.bytes ∙ pick_false (eqb a refusal.accepted) (text_of_words w ++ drop (length (text_of_words w)) room) room
      ((agrees_not (agrees_eq a refusal.accepted)).from f)
