-- The laws of a whole reading: where it is stuck, where it is past its end, and what the reader then answers and leaves.
use Rattle.std.specs.Prelude.{Bool, List, [], ◌∷◌, ◌≢◌, ◌≡◌, refl, Result, Ok, Err, ◌+◌}
use Rattle.std.specs.Prelude.{◌-◌, ◌<◌, ◌≤◌, suc, zero, ℕ, eqb, drop, get_or, length, replicate, take}
use Rattle.std.proofs.Math.Bool.{false, true}
use Rattle.std.proofs.Common.{◌∙◌, ap, zero-le, add-one, arith, drop_of_length-le, length-drop, drop-cons, take-suc, eq-eqb, ne_eqb}
use Rattle.std.proofs.Math.Path.{fun_ext, sym}
use Rattle.std.proofs.lemmas.List.{length-replicate}
use Rattle.laws.specs.Lists.{getD_zeros}
use Rattle.model.specs.Basics.Cases.{cases, true_or_false}
use Rattle.model.specs.Basics.Choice.{pick}
use Rattle.model.specs.Basics.TestLaws.{pick_same}
use Rattle.model.specs.State.Check.{judge, secure_test, well_formed_test}
use Rattle.model.specs.Tables.Layout.{entity_at, entity_in, tables_of, user_at, user_in, word_count}
use Rattle.model.specs.Tables.Words.{EntityWord, Tables, UserWord, entity_count, user_count}
use Rattle.model.specs.Tables.WordsOfLaws.{words_of_tables_of}
use Rattle.model.specs.Text.Lines.{line_end}
use Rattle.model.specs.Text.Unfinished.{ends}
use Rattle.names.specs.Refusals.{answer_number}
use Rattle.names.specs.declared.refusal.Refusal.{Refusal}
use Rattle.names.specs.declared.refusal.Refusal.TheVariants.{BadLength, NotWellFormed, NotSecure, UnknownRequester, BadRequest, NotLoggedOn, NoSuchName}
use Rattle.names.specs.declared.refusal.Refusal.TheVariants.{NoAccess, Marked, WrongKind, NoSuchUser, RoleMissing, LevelOrRoles, NoRoom, Arrangement}
use Rattle.names.specs.declared.refusal.Refusal.TheVariants.{NotAcknowledged, TooShort, NotARequest}
use Rattle.record_reader.specs.StageAt.{StageAt}
use Rattle.record_reader.specs.StageLaws.{onward_past, onward_stuck, staged}
use Rattle.record_reader.specs.declared.records.Stuck.{Stuck}
use Rattle.tables_reader.specs.Blank.{blank}
use Rattle.tables_text.specs.Calls.{ReadsTables, line_of, read_answer, read_number, tables_after}
use Rattle.tables_text.specs.EndsLaws.{ends_append}
use Rattle.tables_text.specs.LineMost.{line_most}
use Rattle.tables_text.proofs.LineMostLaws.{line_most_lem}
use Rattle.tables_text.specs.Stages.{Stage, at_end, entities_stage, no_tables, onward, reading, users_stage}
use Rattle.model.specs.Request.Refusals as refusal

-- ---- the words that reading begins with

-- they are 2,304 words, and tables with no record
pub blank_length : length blank ≡ word_count
unfolding blank
blank_length = length-replicate {A = ℕ} word_count 0

-- as an array of zeros they are what code begins with
pub blank_is : replicate {A = ℕ} word_count 0 ≡ blank
unfolding blank
blank_is = refl

zero_user : (u : ℕ) (f : UserWord) → ◌≡◌ {A = ℕ} (pick (user_in u f) (get_or blank (user_at u f) 0) 0) 0
unfolding blank
zero_user u f = rw (getD_zeros word_count (user_at u f)) (pick_same (user_in u f) 0)

zero_entity : (e : ℕ) (f : EntityWord) → ◌≡◌ {A = ℕ} (pick (entity_in e f) (get_or blank (entity_at e f) 0) 0) 0
unfolding blank
zero_entity e f = rw (getD_zeros word_count (entity_at e f)) (pick_same (entity_in e f) 0)

pub blank_tables : tables_of blank ≡ no_tables
unfolding tables_of
blank_tables =
    λ i. record {
      user = fun_ext (λ u. fun_ext (λ f. zero_user u f)) i;
      entity = fun_ext (λ e. fun_ext (λ f. zero_entity e f)) i;
    }

-- ---- users, entities and the end

-- what follows the users, and what follows the entities
rest : Tables → List ℕ → Stage
rest d x = onward (entities_stage entity_count 1 d x) at_end

begins : (s t : List ℕ) → t ≡ blank → reading s ≡ onward (users_stage user_count 1 (tables_of t) s) rest
unfolding reading rest
begins s t e = ap (λ d. onward (users_stage user_count 1 d s) rest) (sym (ap tables_of e ∙ blank_tables))

module _ {s t u : List ℕ} (e : t ≡ blank) where
  pub users_stuck : {i : Stuck} → StageAt s (users_stage user_count 1 (tables_of t) s) u (Err i) → StageAt s (reading s) u (Err i)
  users_stuck a = staged (begins s t e) (onward_stuck rest a)

  module _ {i : ℕ} (a : StageAt s (users_stage user_count 1 (tables_of t) s) u (Ok i)) where
    goes : reading s ≡ onward (entities_stage entity_count 1 (tables_of u) (drop i s)) at_end
    unfolding rest
    goes = begins s t e ∙ onward_past rest a

    pub entities_stuck : {w : List ℕ} {k : Stuck} → StageAt s (entities_stage entity_count 1 (tables_of u) (drop i s)) w (Err k)
        → StageAt s (reading s) w (Err k)
    entities_stuck b = staged goes (onward_stuck at_end b)

    module _ {w : List ℕ} {j : ℕ} where
      -- bytes are left over, or none is
      pub left_over : StageAt s (entities_stage entity_count 1 (tables_of u) (drop i s)) w (Ok j) → j < length s
          → StageAt s (reading s) w (Err (record { 0 = j }))
      left_over b l = record { is = goes ∙ onward_past at_end b ∙ rw (drop-cons s j 0 l); within = b.within }

      pub all_read : StageAt s (entities_stage entity_count 1 (tables_of u) (drop i s)) w (Ok j) → length s ≤ j → StageAt s (reading s) w (Ok j)
      all_read b h = record { is = goes ∙ onward_past at_end b ∙ rw (drop_of_length-le s {i = j} h); within = b.within }

-- ---- the line

line_here : (s : List ℕ) (i : ℕ) → i ≤ length s → line_of s (drop i s) ≡ suc (ends (take i s))
line_here s i h =
    let e : length s - length (drop i s) ≡ i = omega (arith, length-drop i s) in
    rw e

pub line_small : {s w : List ℕ} {i : Stuck} → StageAt s (reading s) w (Err i) → suc (ends (take i.0 s)) ≤ line_most
line_small {s} {w} {i} a = rw (line_here s i.0 a.within) at (line_most_lem s (drop i.0 s) a.is)

-- ---- what the reader answers

pub reads_length : (s t : List ℕ) → length t ≢ word_count → ReadsTables s t refusal.bad_length 0 t
unfolding read_answer read_number tables_after
reads_length s t n =
    let e : eqb (length t) word_count ≡ false = ne_eqb (length t) word_count n in
    record { answer = rw e; number = rw e; words = rw e }

sized : (t : List ℕ) → length t ≡ word_count → eqb (length t) word_count ≡ true
sized t h = eq-eqb (length t) word_count h

formed : (d : Tables) → judge d ≢ refusal.not_well_formed → well_formed_test d ≡ true
unfolding judge
formed d n =
    cases (true_or_false (well_formed_test d)) (λ e. e)
    (λ e. absurd (n (ap (λ (b : Bool). pick b (pick (secure_test d) refusal.accepted refusal.not_secure) refusal.not_well_formed) e)))

unformed : (d : Tables) → judge d ≡ refusal.not_well_formed → well_formed_test d ≡ false
unfolding judge
unformed d q = go (well_formed_test d) (secure_test d) q
  where
    go : (a b : Bool) → pick a (pick b refusal.accepted refusal.not_secure) refusal.not_well_formed ≡ refusal.not_well_formed → a ≡ false
    go true true e = absurd (omega arith)
    go true false e = absurd (omega arith)
    go false b e = refl

-- one refusal has its number
pub refused_formed : (r : Result (Unit {0}) Refusal) → answer_number r ≡ refusal.not_well_formed → r ≡ Err NotWellFormed
refused_formed (Ok x) e = absurd (omega arith)
refused_formed (Err NotWellFormed) e = refl
refused_formed (Err BadLength) e = absurd (omega arith)
refused_formed (Err NotSecure) e = absurd (omega arith)
refused_formed (Err UnknownRequester) e = absurd (omega arith)
refused_formed (Err BadRequest) e = absurd (omega arith)
refused_formed (Err NotLoggedOn) e = absurd (omega arith)
refused_formed (Err NoSuchName) e = absurd (omega arith)
refused_formed (Err NoAccess) e = absurd (omega arith)
refused_formed (Err Marked) e = absurd (omega arith)
refused_formed (Err WrongKind) e = absurd (omega arith)
refused_formed (Err NoSuchUser) e = absurd (omega arith)
refused_formed (Err RoleMissing) e = absurd (omega arith)
refused_formed (Err LevelOrRoles) e = absurd (omega arith)
refused_formed (Err NoRoom) e = absurd (omega arith)
refused_formed (Err Arrangement) e = absurd (omega arith)
refused_formed (Err NotAcknowledged) e = absurd (omega arith)
refused_formed (Err TooShort) e = absurd (omega arith)
refused_formed (Err NotARequest) e = absurd (omega arith)

module _ {s t w : List ℕ} (h : length t ≡ word_count) where
  pub reads_stuck : {i : Stuck} {n : ℕ} → StageAt s (reading s) w (Err i) → n ≡ suc (ends (take i.0 s)) → ReadsTables s t refusal.not_a_request n t
  unfolding read_answer read_number tables_after
  reads_stuck {i} {n} a e =
      record {
        answer = rw (sized t h, a.is);
        number = rw (sized t h, a.is) (e ∙ sym (line_here s i.0 a.within));
        words = rw (sized t h, a.is);
      }

  pub reads_unformed : {i : ℕ} → StageAt s (reading s) w (Ok i) → judge (tables_of w) ≡ refusal.not_well_formed → ReadsTables s t refusal.not_well_formed 0 t
  unfolding read_answer read_number tables_after
  reads_unformed a q =
      let n : well_formed_test (tables_of w) ≡ false = unformed (tables_of w) q in
      record { answer = rw (sized t h, a.is, n); number = rw (sized t h, a.is); words = rw (sized t h, a.is, n) }

  pub reads_formed : {i : ℕ} → length w ≡ word_count → StageAt s (reading s) w (Ok i) → judge (tables_of w) ≢ refusal.not_well_formed
      → ReadsTables s t refusal.accepted 0 w
  unfolding read_answer read_number tables_after
  reads_formed l a n =
      let y : well_formed_test (tables_of w) ≡ true = formed (tables_of w) n in
      record {
        answer = rw (sized t h, a.is, y);
        number = rw (sized t h, a.is);
        words = rw (sized t h, a.is, y) (sym (words_of_tables_of w l));
      }

-- ---- lines are counted

-- a byte ends a line, or it does not
module _ (s : List ℕ) (i n : ℕ) (l : i < length s) (e : n ≡ suc (ends (take i s))) where
  pub line_ends : get_or s i 0 ≡ line_end → n + 1 ≡ suc (ends (take (i + 1) s))
  line_ends h =
      rw (add-one i, take-suc s i 0 l, ends_append (take i s) (get_or s i 0 ∷ []), eq-eqb (get_or s i 0) line_end h) (omega arith)

  pub line_goes : (get_or s i 0 ≡ line_end → ⊥) → n ≡ suc (ends (take (i + 1) s))
  line_goes h =
      rw (add-one i, take-suc s i 0 l, ends_append (take i s) (get_or s i 0 ∷ []), ne_eqb (get_or s i 0) line_end h) (omega arith)

-- no more lines end before an index than before a later one
pub ends_most : (s : List ℕ) (i j : ℕ) → i ≤ j → ends (take i s) ≤ ends (take j s)
ends_most s zero j h = zero-le
ends_most s (suc i) zero h = absurd (omega arith)
ends_most [] (suc i) (suc j) h = zero-le
ends_most (b ∷ s) (suc i) (suc j) h =
    let r : ends (take i s) ≤ ends (take j s) = ends_most s i j (omega arith) in
    omega arith
