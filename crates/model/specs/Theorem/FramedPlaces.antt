-- Rule 8.4 for create, delete and move: a place changes only where something is put or was taken out.
use Rattle.std.specs.Prelude.{Bool, ◌&&◌, ◌||◌, false, not, true, ◌≡◌, refl, ℕ, T, eqb}
use Rattle.std.proofs.Common.{◌∙◌, ap, sym, arith, T_not, eqb→eq}
use Rattle.model.specs.Basics.Fails.{fails_T, fails_or}
use Rattle.model.specs.Effect.Places.{bearing, delete, fresh, leave, leaving, move, put, putting, sort_kind, sort_type, vacant}
use Rattle.model.specs.Request.Asked.{Asked}
use Rattle.model.specs.Request.Operations.{row_of, to_create, to_delete, to_move}
use Rattle.model.specs.State.AgreeLinks.{in_agrees}
use Rattle.model.specs.State.WellFormed.{WellFormed}
use Rattle.model.specs.Tables.EditLaws.{case}
use Rattle.model.specs.Tables.Edits.{blank, written}
use Rattle.model.specs.Tables.RowLaws.{without_none}
use Rattle.model.specs.Tables.Rows.{left, without}
use Rattle.model.specs.Tables.Words.{EntityWord, Tables, container_kind, kind, kinds, level, mark, maximum, place, places, releaser}
use Rattle.model.specs.Tables.Words.{shown, sums, triple, triples, type, used, used_places, value}
use Rattle.model.specs.Theorem.MayChange.{Frame, content_word, holder, word_or_row}
use Rattle.model.specs.Theorem.Untouched.{TouchesOnly, both_only, entity_left, row_only, word_left, word_only}

-- where not one of two tests holds, neither does
neither : (a b : Bool) → T (not (a || b)) → T (not a) × T (not b)
neither a b = (fails_or (fails_T a) (fails_T b)).to

-- the same of two tests, each with a third
neither_with : (a b m : Bool) → T (not ((a || b) && m)) → T (not (a && m)) × T (not (b && m))
neither_with true true m t = (t, t)
neither_with true false m t = (t, tt)
neither_with false b m t = (tt, t)

-- a test that fails beside one that always holds fails by itself
alone : (b : Bool) → T (not (b && true)) → T (not b)
alone true t = t
alone false t = tt

-- Where e leaves, only a container that holds e changes, and of it the places and their number.
pub leave_left : (d : Tables) → WellFormed d → (e x : ℕ) (f : EntityWord) → T (not (holder d e x && content_word f))
    → (leave e d).entity x f ≡ d.entity x f
leave_left d w e x f t =
    word_left (λ y. eqb (kinds d y) container_kind) (leaving e d) d.entity x f (λ k. stays f t (eqb→eq (kinds d x) container_kind k))
  where
    same_row : T (not (holder d e x && true)) → kinds d x ≡ container_kind
        → (left e (places d x) (used_places d x) ≡ used_places d x) × (without e (places d x) (used_places d x) ≡ places d x)
    same_row t k = without_none e (places d x) (used_places d x) (w.entities x).filled.packed
        (λ m. T_not (holder d e x) (alone (holder d e x) t) ((in_agrees (kinds d) (used_places d) (places d) x e).from (k, m)))

    stays : (f : EntityWord) → T (not (holder d e x && content_word f)) → kinds d x ≡ container_kind
        → written (leaving e d x) (d.entity x) f ≡ d.entity x f
    stays kind t k = refl
    stays type t k = refl
    stays level t k = refl
    stays mark t k = refl
    stays value t k = refl
    stays releaser t k = refl
    stays maximum t k = refl
    stays used t k = (same_row t k).0
    stays (place i) t k = ap (λ (r : ℕ → ℕ). r i) (same_row t k).1
    stays (shown i) t k = refl
    stays (triple i) t k = refl

-- Where e is put into c, which shows nothing, only the places of c and their number change.
pub put_left : (d : Tables) (c e : ℕ) → ((i : ℕ) → sums d c i ≡ 0) → (x : ℕ) (f : EntityWord) → T (not (eqb x c && content_word f))
    → (put c e 0 d).entity x f ≡ d.entity x f
put_left d c e none x f t = word_left (λ y. eqb y c) (λ y. putting c e 0 d) d.entity x f (stays f t)
  where
    stays : (f : EntityWord) → T (not (eqb x c && content_word f)) → T (eqb x c) → written (putting c e 0 d) (d.entity x) f ≡ d.entity x f
    stays kind t k = refl
    stays type t k = refl
    stays level t k = refl
    stays mark t k = refl
    stays value t k = refl
    stays releaser t k = refl
    stays maximum t k = refl
    stays used t k = absurd (T_not (eqb x c) (alone (eqb x c) t) k)
    stays (place i) t k = absurd (T_not (eqb x c) (alone (eqb x c) t) k)
    stays (shown i) t k =
        case (λ (y : ℕ). y ≡ 0) i (used_places d c) 0 (sums d c i) (λ q. refl) (λ q. none i) ∙ sym (ap (λ (y : ℕ). sums d y i) (eqb→eq x c k) ∙ none i)
    stays (triple i) t k = refl

-- the words that create gives a new record
abbrev new_word : EntityWord → Bool
new_word f = word_or_row kind f || (word_or_row type f || (word_or_row level f || word_or_row (triple 0) f))

-- Rule 3.12: a container shows nothing.
pub container_unshown : (d : Tables) → WellFormed d → (c : ℕ) → kinds d c ≡ container_kind → (i : ℕ) → sums d c i ≡ 0
container_unshown d w c box = (w.entities c).filled.no_sums (omega arith)

module _ (d : Tables) (w : WellFormed d) (s : Asked) where
  -- Create changes the new record and its container only.
  pub create_framed : kinds d s.first ≡ container_kind → Frame to_create s d ((row_of to_create).effect s d)
  create_framed box = record { users = λ x f t. refl; entities = λ x f t. stays x f (neither (eqb x e && new_word f) (eqb x c && content_word f) t) }
    where
      e : ℕ
      e = vacant d

      c : ℕ
      c = s.first

      with_it : Tables
      with_it = fresh e c (sort_kind s.a) (sort_type s.a) s.b d

      new_only : TouchesOnly (bearing c (sort_kind s.a) (sort_type s.a) s.b d) new_word
      new_only = both_only (word_only kind) (both_only (word_only type) (both_only (word_only level) (row_only triple (triples d c))))

      stays : (x : ℕ) (f : EntityWord) → T (not (eqb x e && new_word f)) × T (not (eqb x c && content_word f))
          → (put c e 0 with_it).entity x f ≡ d.entity x f
      stays x f t = put_left with_it c e (container_unshown d w c box) x f t.1 ∙ entity_left new_only e d x f t.0

  -- Delete changes the record deleted and its container only.
  pub delete_framed : Frame to_delete s d ((row_of to_delete).effect s d)
  delete_framed =
      record { users = λ x f t. refl; entities = λ x f t. stays x f (neither (eqb x s.first) (holder d s.first x && content_word f) t) }
    where
      stays : (x : ℕ) (f : EntityWord) → T (not (eqb x s.first)) × T (not (holder d s.first x && content_word f))
          → (delete s.first d).entity x f ≡ d.entity x f
      stays x f t = word_left (λ y. eqb y s.first) (λ y. blank) (leave s.first d).entity x f (λ k. absurd (T_not (eqb x s.first) t.0 k))
          ∙ leave_left d w s.first x f t.1

  -- Move changes the container left and the container entered only.
  pub move_framed : kinds d s.second ≡ container_kind → Frame to_move s d ((row_of to_move).effect s d)
  move_framed box =
      record { users = λ x f t. refl; entities = λ x f t. stays x f (neither_with (eqb x s.second) (holder d s.first x) (content_word f) t) }
    where
      stays : (x : ℕ) (f : EntityWord) → T (not (eqb x s.second && content_word f)) × T (not (holder d s.first x && content_word f))
          → (move s.first s.second d).entity x f ≡ d.entity x f
      stays x f t =
          put_left (leave s.first d) s.second s.first (container_unshown d w s.second box) x f t.0 ∙ leave_left d w s.first x f t.1
