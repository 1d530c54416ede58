-- The laws of reading records by their numbers: users and entities are read in one form, and code goes from a record to the next one that is there.
use Rattle.std.specs.Prelude.{Bool, ◌||◌, false, true, List, ◌≢◌, ◌≡◌, Some, None, Ok, Err, leb, ltb, drop, length}
use Rattle.std.proofs.Common.{◌∙◌, ap, sym, leb-false, leb-true, ltb-false, ltb-true}
use Rattle.std.proofs.Math.Path.{fun_ext, refl}
use Prim.Native.Nat.{◌+◌, ◌-◌, ◌<◌, ◌≤◌, suc, zero, ℕ}
use native.Mathlib.Omega.{arith}
use Rattle.laws.specs.Bools.{neither_l, neither_r, or_cases}
use Rattle.lines.specs.LineAt.{LineAt}
use Rattle.lines.specs.declared.reading.Number.{Number}
use Rattle.model.specs.Basics.Cases.{cases}
use Rattle.model.specs.Tables.Layout.{tables_of, word_count}
use Rattle.model.specs.Tables.Words.{Tables}
use Rattle.model.specs.Text.LineLaws.{behind_back, behind_there, line_back, line_there, numbers}
use Rattle.model.specs.Text.Lines.{behind, read_line}
use Rattle.model.specs.Text.Numbers.{Read, bad, got, most, number}
use Rattle.model.specs.Text.Wording.{user_key}
use Rattle.record_reader.specs.Rest.{records_stage}
use Rattle.record_reader.specs.StageAt.{StageAt}
use Rattle.record_reader.specs.StageLaws.{onward_past, onward_stuck, staged}
use Rattle.record_reader.specs.declared.records.Stuck.{Stuck}
use Rattle.tables_text.specs.Keys.{entity_key}
use Rattle.tables_text.specs.Stages.{Stage, either, entities_stage, entity_record, onward, past, user_record, users_stage}
use Rattle.tables_text.specs.Values.{number_line}

-- ---- one form

pub users_are : (k u : ℕ) (d : Tables) (s : List ℕ) → users_stage k u d s ≡ records_stage user_key user_record k u d s
unfolding users_stage records_stage
users_are zero u d s = refl
users_are (suc k) u d s =
    let e : users_stage k (suc u) ≡ records_stage user_key user_record k (suc u) = fun_ext (λ x. fun_ext (λ y. users_are k (suc u) x y)) in
    ap (λ f. either (behind (number_line user_key u) s) (λ _ x. onward (user_record u d x) f) (f d s)) e

pub entities_are : (k n : ℕ) (d : Tables) (s : List ℕ) → entities_stage k n d s ≡ records_stage entity_key entity_record k n d s
unfolding entities_stage records_stage
entities_are zero n d s = refl
entities_are (suc k) n d s =
    let e : entities_stage k (suc n) ≡ records_stage entity_key entity_record k (suc n) = fun_ext (λ x. fun_ext (λ y. entities_are k (suc n) x y)) in
    ap (λ f. either (behind (number_line entity_key n) s) (λ _ x. onward (entity_record n d x) f) (f d s)) e

module _ (key : List ℕ) where
  -- ---- the line of a number

  -- a number that was read has its line there,
  head_there : (s : List ℕ) (v : ℕ) (x : List ℕ) → read_line key number s ≡ got v x → behind (number_line key v) s ≡ got tt x
  head_there s v x e = ap (behind (number_line key v)) (line_back numbers key s v x e).1 ∙ behind_there (number_line key v) x

  -- and no line of another number is; nor is one where no number was read
  head_not : (s : List ℕ) (n : ℕ) → n ≤ most → ((x : List ℕ) → read_line key number s ≢ got n x) → behind (number_line key n) s ≡ bad
  head_not s n h out = go (behind (number_line key n) s) refl
    where
      go : (r : Read (Unit {0})) → behind (number_line key n) s ≡ r → r ≡ bad
      go bad e = refl
      go (got t x) e = absurd (out x (ap (read_line key number) (behind_back (number_line key n) s x e) ∙ line_there numbers key n x h))

  module _ (one : ℕ → Tables → List ℕ → Stage) (d : Tables) (s : List ℕ) where
    -- ---- from a record to the next

    -- none of k numbers is there
    none : (k n : ℕ) → n + k ≤ suc most → ((m : ℕ) → n ≤ m → m < n + k → behind (number_line key m) s ≡ bad) → records_stage key one k n d s ≡ past d s
    unfolding records_stage
    none zero n h out = refl
    none (suc k) n h out = rw (out n (omega arith) (omega arith)) (none k (suc n) (omega arith) (λ m a b. out m (omega arith) (omega arith)))

    -- the first j of c are not, and then comes number m
    skip : (j k n c m : ℕ) → c ≡ j + k → m ≡ n + j → ((x : ℕ) → n ≤ x → x < m → behind (number_line key x) s ≡ bad)
        → records_stage key one c n d s ≡ records_stage key one k m d s
    unfolding records_stage
    skip zero k n c m e q out =
        let a : c ≡ k = omega arith in
        let b : m ≡ n = omega arith in
        rw (a, b)
    skip (suc j) k n c m e q out =
        let a : c ≡ suc (j + k) = omega arith in
        rw (a, out n (omega arith) (omega arith)) (skip j k (suc n) (j + k) m refl (omega arith) (λ x g h. out x (omega arith) h))

    -- one is
    found : (k n : ℕ) (x : List ℕ) → behind (number_line key n) s ≡ got tt x
        → records_stage key one (suc k) n d s ≡ onward (one n d x) (records_stage key one k (suc n))
    unfolding records_stage
    found k n x e = rw e

-- ---- how far code has come

-- The reading g of the records 1 to `count` has come behind number `last` and to an index of the bytes s, and has left the words t.
pub record RecordsTo (key : List ℕ) (one : ℕ → Tables → List ℕ → Stage) (count : ℕ) (g : Stage) (s : List ℕ) (i last : ℕ) (t : List ℕ) : Type 0 where
  pub is : g ≡ records_stage key one (count - last) (suc last) (tables_of t) (drop i s)
  pub within : i ≤ length s
  pub most : last ≤ count
  pub size : length t ≡ word_count

-- A number is the last one or before it, or beyond all: as code asks it.
abbrev pub outside : ℕ → ℕ → ℕ → Bool
outside last count v = leb v last || ltb count v

pub inside : (last count v : ℕ) → outside last count v ≡ false → (last < v) × (v ≤ count)
inside last count v e = (leb-false v last (neither_l (leb v last) _ e), ltb-false count v (neither_r (leb v last) _ e))

clashing : {v n : ℕ} {x y : List ℕ} (r : Read ℕ) → got v x ≡ r → v ≢ n → r ≢ got n y
clashing {v} {n} {x} {y} r e h q =
    let z : got v x ≡ got n y = e ∙ q in
    let w : v ≡ n = cc in
    h w

module _ {key : List ℕ} {one : ℕ → Tables → List ℕ → Stage} {count : ℕ} {g : Stage} {s : List ℕ} {i last : ℕ} {t : List ℕ}
    (small : count ≤ most) (r : RecordsTo key one count g s i last t) where
  -- no record follows
  over : ((n : ℕ) → last < n → n ≤ count → (x : List ℕ) → read_line key number (drop i s) ≢ got n x) → StageAt s g t (Ok i)
  over out =
      record {
        is = r.is ∙ none key one (tables_of t) (drop i s) (count - last) (suc last) (omega (arith, small, r.most))
            (λ m a b. head_not key (drop i s) m (omega (arith, small, r.most)) (out m a (omega (arith, r.most))));
        within = r.within;
      }

  pub records_none : LineAt s i key None → StageAt s g t (Ok i)
  records_none l =
      over λ n a b x q.
      let z : bad ≡ got n x = l.is ∙ q in
      let w : ◌≡◌ {A = ℕ} 0 1 = cc in omega arith

  pub records_out : {n : Number} → LineAt s i key (Some n) → outside last count n.v ≡ true → StageAt s g t (Ok i)
  records_out {n} l e =
      let v : ℕ = n.v in
      over λ m a b x. clashing (read_line key number (drop i s)) l.is
      (λ q. cases (or_cases (leb v last) _ e) (λ h. omega (arith, leb-true v last h)) (λ h. omega (arith, ltb-true count v h)))

  pub records_past : count ≤ last → StageAt s g t (Ok i)
  unfolding records_stage
  records_past h =
      let q : count - last ≡ 0 = omega arith in
      record { is = r.is ∙ rw q; within = r.within }

  -- a record follows
  module _ {x : Number} (l : LineAt s i key (Some x)) (a : last < x.v) (b : x.v ≤ count) where
    abbrev v : ℕ
    v = x.v

    abbrev n : ℕ
    n = x.next

    there : g ≡ onward (one v (tables_of t) (drop n s)) (records_stage key one (count - v) (suc v))
    there =
        r.is
        ∙ skip key one (tables_of t) (drop i s) (v - suc last) (suc (count - v)) (suc last) (count - last) v (omega arith) (omega arith)
        (λ x c e. head_not key (drop i s) x (omega (arith, small)) (λ y. clashing (read_line key number (drop i s)) l.is (λ q. omega arith)))
        ∙ found key one (tables_of t) (drop i s) (count - v) v (drop n s) (head_there key (drop i s) v (drop n s) (sym l.is))

    pub records_stuck : {j : Stuck} {w : List ℕ} → StageAt s (one v (tables_of t) (drop n s)) w (Err j) → StageAt s g w (Err j)
    records_stuck k = staged there (onward_stuck (records_stage key one (count - v) (suc v)) k)

    pub records_next : {j : ℕ} {w : List ℕ} → StageAt s (one v (tables_of t) (drop n s)) w (Ok j) → length w ≡ word_count
        → RecordsTo key one count g s j v w
    records_next k h = record { is = there ∙ onward_past (records_stage key one (count - v) (suc v)) k; within = k.within; most = b; size = h }
