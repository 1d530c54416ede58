-- The answer is the lowest rung that applies, and nothing else is (rule 7.0); what the rungs over operands and operations say.
use Rattle.std.specs.Prelude.{Bool, not, true, ◌≢◌, ◌⊎◌, ◌≡◌, T, eqb, length}
use Rattle.std.proofs.Math.Bool.{false}
use mathlib.Core.List.{List, [], ◌∷◌}
use Rattle.std.proofs.Math.Logic.{inl}
use Rattle.std.proofs.Common.{inr, ◌∙◌, ap, subst, sym, arith}
use Rattle.std.proofs.Math.Option.{Option, none, some}
use Rattle.std.proofs.Math.Path.{refl}
use Prim.Native.Nat.{◌+◌, ◌-◌, ◌<◌, ◌≤◌, suc, zero, ℕ}
use Rattle.model.specs.Basics.Agree.{Agrees}
use Rattle.model.specs.Basics.Choice.{Same, it, other, pick, same}
use Rattle.model.specs.Basics.Fails.{Fails, fails_as, fails_or}
use Rattle.model.specs.Basics.TestLaws.{fails_false}
use Rattle.model.specs.Request.Conditions.{Kind}
use Rattle.model.specs.Request.Ladder.{IsAnswer, Rung, answer, applies, ladder, lowest, never, not_secure, not_well_formed, of_op}
use Rattle.model.specs.Request.Ladder.{own_rung, rung_at, some_operand}
use Rattle.model.specs.Request.Operations.{Op, op_of}
use Rattle.model.specs.Request.Words.{Request}
use Rattle.model.specs.State.Check.{judge, secure_test, well_formed_test}
use Rattle.model.specs.Tables.Words.{Tables, last_noticed}
use Rattle.model.specs.Request.Refusals as refusal

module _ (d : Tables) (q : Request) where
  Found : ℕ → List Rung → ℕ → Type 0
  Found n rs a = ((a ≡ 0) × ((k : ℕ) → rung_at k rs d q ≡ false))
      ⊎ ((k : ℕ) × (a ≡ n + k) × (rung_at k rs d q ≡ true) × ((j : ℕ) → j < k → rung_at j rs d q ≡ false))

  found : (n : ℕ) (rs : List Rung) → Found n rs (lowest n rs d q)
  unfolding Found lowest rung_at never
  found n [] = inl (refl, λ k. refl)
  found n (r ∷ rs) = go (r d q) refl (found (suc n) rs)
    where
      first : r d q ≡ false → ((k : ℕ) → rung_at k rs d q ≡ false) → (k : ℕ) → rung_at k (r ∷ rs) d q ≡ false
      first e f zero = e
      first e f (suc k) = f k

      firsts : r d q ≡ false → (m : ℕ) → ((j : ℕ) → j < m → rung_at j rs d q ≡ false) → (j : ℕ) → j < suc m → rung_at j (r ∷ rs) d q ≡ false
      firsts e m f zero h = e
      firsts e m f (suc j) h = f j (omega arith)

      go : (b : Bool) → r d q ≡ b → Found (suc n) rs (lowest (suc n) rs d q) → Found n (r ∷ rs) (elim b [ true ↦ n | false ↦ lowest (suc n) rs d q ])
      go true e s = inr (0, omega arith, e, λ j h. absurd (omega arith))
      go false e (inl s) = inl (s.0, first e s.1)
      go false e (inr s) = inr (suc s.0, omega (arith, s.1), s.2, firsts e s.0 s.3)

  -- The answer is the lowest rung that applies.
  pub answer_is : IsAnswer d q (answer d q)
  unfolding Found answer applies rung_at never
  answer_is = go (answer d q) (found refusal.not_well_formed ladder)
    where
      low : (k : ℕ) → ((j : ℕ) → j < k → rung_at j ladder d q ≡ false) → (n : ℕ) → n < suc (suc k) → applies n d q ≡ false
      low k f zero h = refl
      low k f (suc zero) h = refl
      low k f (suc (suc n)) h = f n (omega arith)

      all : ((k : ℕ) → rung_at k ladder d q ≡ false) → (n : ℕ) → applies n d q ≡ false
      all f zero = refl
      all f (suc zero) = refl
      all f (suc (suc n)) = f n

      go : (a : ℕ) → Found refusal.not_well_formed ladder a → IsAnswer d q a
      go a (inl s) = record { below = λ n h. all s.1 n; applied = λ h. absurd (h s.0); accepted = λ h. all s.1 }
      go a (inr s) =
          let e : a ≡ suc (suc s.0) = omega (arith, s.1) in
          rw e record { below = low s.0 s.3; applied = λ h. s.2; accepted = λ h. absurd (omega arith) }

  -- No second answer says the same.
  pub answer_unique : (a b : ℕ) → IsAnswer d q a → IsAnswer d q b → a ≡ b
  answer_unique a b p r =
      let h : ¬ (a < b) = λ l. less a b l p r in
      let k : ¬ (b < a) = λ l. less b a l r p in
      omega arith
    where
      clash : (x : Bool) → x ≡ true → x ≡ false → ⊥
      clash x e f = let z : ◌≡◌ {A = ℕ} 0 1 = ap (λ (b : Bool). elim b [ true ↦ 0 | false ↦ 1 ]) (sym e ∙ f) in omega arith

      less : (a b : ℕ) → a < b → IsAnswer d q a → IsAnswer d q b → ⊥
      less zero b l p r = clash (applies b d q) (r.applied (omega arith)) (p.accepted refl b)
      less (suc a) b l p r = clash (applies (suc a) d q) (p.applied (omega arith)) (r.below (suc a) l)

-- a rung that applies is one of the list
rung_at_range : (k : ℕ) (rs : List Rung) (d : Tables) (q : Request) → rung_at k rs d q ≡ true → k < length rs
unfolding rung_at never
rung_at_range k [] d q e = absurd (subst T (sym e) tt)
rung_at_range zero (r ∷ rs) d q e = omega arith
rung_at_range (suc k) (r ∷ rs) d q e = omega (arith, rung_at_range k rs d q e)

-- Answers are 0 to 16.
pub answer_range : (d : Tables) (q : Request) → answer d q ≤ last_noticed
unfolding applies ladder
answer_range d q =
    let h : ¬ (last_noticed < answer d q) = λ l. omega (
      arith,
      rung_at_range (answer d q) (never ∷ never ∷ ladder) d q
          ((answer_is d q).applied (omega arith)),
    ) in
    omega arith

-- No rung of a list applies.
abbrev pub NoRung : List Rung → Tables → Request → Type 0
NoRung [] d q = Unit {0}
NoRung (r ∷ rs) d q = T (not (r d q)) × NoRung rs d q

-- Where no rung of a list applies there is no lowest one.
pub lowest_none : (n : ℕ) (rs : List Rung) (d : Tables) (q : Request) → NoRung rs d q → lowest n rs d q ≡ refusal.accepted
unfolding lowest
lowest_none n [] d q z = refl
lowest_none n (r ∷ rs) d q z = rw (fails_false (r d q) z.0) (lowest_none (suc n) rs d q z.1)

-- A question put to the operation that a request names.
pub of_op_some : (q : Request) (o : Op) → op_of q.operation ≡ some o → (p : Op → Bool) → of_op q p ≡ p o
unfolding of_op
of_op_some q o e p = subst (λ (m : Option Op). elim m [ none ↦ false | some o ↦ p o ] ≡ p o) (sym e) refl

-- A question is answered yes exactly where it is put to an operation that says so.
pub of_op_agrees : (q : Request) (p : Op → Bool) → Agrees (of_op q p) ((o : Op) × (op_of q.operation ≡ some o) × T (p o))
unfolding of_op
of_op_agrees q p = record { to = go (op_of q.operation) refl; from = λ z. subst T (sym (of_op_some q z.0 z.1 p)) z.2 }
  where
    go : (m : Option Op) → op_of q.operation ≡ m → T (elim m [ none ↦ false | some o ↦ p o ]) → (o : Op) × (op_of q.operation ≡ some o) × T (p o)
    go none e t = absurd t
    go (some o) e t = (o, e, t)

-- A question put to the operation that is named fails where that operation fails it.
pub of_op_fails : (q : Request) (o : Op) → op_of q.operation ≡ some o → (p : Op → Bool) {P : Type 0} → Fails (p o) P → Fails (of_op q p) P
of_op_fails q o e p {P} f = subst (λ (b : Bool). Fails b P) (sym (of_op_some q o e p)) f

-- Something holds of every operand, by position and kind.
abbrev pub AllOperands : ℕ → List Kind → (ℕ → Kind → Type 0) → Type 0
AllOperands k [] P = Unit {0}
AllOperands k (x ∷ xs) P = P k x × AllOperands (suc k) xs P

-- A question put to the operands fails where each of them fails it.
pub some_operand_fails : (k : ℕ) (xs : List Kind) (p : ℕ → Kind → Bool) (P : ℕ → Kind → Type 0) → ((j : ℕ) (x : Kind) → Fails (p j x) (P j x))
    → Fails (some_operand k xs p) (AllOperands k xs P)
unfolding some_operand
some_operand_fails k [] p P f = record { to = λ t. tt; from = λ z. tt }
some_operand_fails k (x ∷ xs) p P f = go (p k x) (f k x) (some_operand_fails (suc k) xs p P f)
  where
    go : (b : Bool) → Fails b (P k x) → Fails (some_operand (suc k) xs p) (AllOperands (suc k) xs P)
        → Fails (elim b [ true ↦ true | false ↦ some_operand (suc k) xs p ]) (P k x × AllOperands (suc k) xs P)
    go true a ih = fails_or a ih
    go false a ih = fails_or a ih

-- What holds of every operand holds at each position,
pub operands_at : (k : ℕ) (xs : List Kind) (P : ℕ → Type 0) → AllOperands k xs (λ j x. P j) → (j : ℕ) → k ≤ j → j < k + length xs → P j
operands_at k [] P a j l h = absurd (omega arith)
operands_at k (x ∷ xs) P a j l h = go (eqb j k) (same j k) (operands_at (suc k) xs P a.1 j)
  where
    go : (b : Bool) → Same j k b → (suc k ≤ j → j < suc k + length xs → P j) → P j
    go true (it e) ih = rw e a.0
    go false (other e) ih = ih (omega arith) (omega arith)

-- and the other way round.
operands_all : (k : ℕ) (xs : List Kind) (P : ℕ → Type 0) → ((j : ℕ) → k ≤ j → j < k + length xs → P j) → AllOperands k xs (λ j x. P j)
operands_all k [] P f = tt
operands_all k (x ∷ xs) P f = (f k (omega arith) (omega arith), operands_all (suc k) xs P (λ j l h. f j (omega arith) (omega arith)))

-- A question that asks only for the position fails where each position fails it.
pub positions_fail : (k : ℕ) (xs : List Kind) (p : ℕ → Bool) (P : ℕ → Type 0) → ((j : ℕ) → Fails (p j) (P j))
    → Fails (some_operand k xs (λ j x. p j)) ((j : ℕ) → k ≤ j → j < k + length xs → P j)
positions_fail k xs p P f = fails_as (operands_at k xs P) (operands_all k xs P) (some_operand_fails k xs (λ j x. p j) (λ j x. P j) (λ j x. f j))

-- What holds of any position and kind holds of every operand,
pub operands_each : (k : ℕ) (xs : List Kind) (P : ℕ → Kind → Type 0) → ((j : ℕ) (x : Kind) → P j x) → AllOperands k xs P
operands_each k [] P f = tt
operands_each k (x ∷ xs) P f = (f k x, operands_each (suc k) xs P f)

-- what follows from what holds of every operand does,
pub operands_map : (k : ℕ) (xs : List Kind) (P Q : ℕ → Kind → Type 0) → ((j : ℕ) (x : Kind) → P j x → Q j x) → AllOperands k xs P → AllOperands k xs Q
operands_map k [] P Q f p = tt
operands_map k (x ∷ xs) P Q f p = (f k x p.0, operands_map (suc k) xs P Q f p.1)

-- and so does what follows from two such things.
pub operands_both : (k : ℕ) (xs : List Kind) (P Q R : ℕ → Kind → Type 0) → ((j : ℕ) (x : Kind) → P j x → Q j x → R j x)
    → AllOperands k xs P → AllOperands k xs Q → AllOperands k xs R
operands_both k [] P Q R f p q = tt
operands_both k (x ∷ xs) P Q R f p q = (f k x p.0 q.0, operands_both (suc k) xs P Q R f p.1 q.1)

-- A question put to the operands is answered yes exactly where it is at some position.
pub some_operand_agrees : (k : ℕ) (xs : List Kind) (p : ℕ → Kind → Bool) (P : ℕ → Type 0) → AllOperands k xs (λ j x. Agrees (p j x) (P j))
    → Agrees (some_operand k xs p) ((j : ℕ) × (k ≤ j) × (j < k + length xs) × P j)
unfolding some_operand
some_operand_agrees k [] p P a = record { to = λ t. absurd t; from = λ z. absurd (omega (arith, z.1, z.2)) }
some_operand_agrees k (x ∷ xs) p P a = go (p k x) a.0 (some_operand_agrees (suc k) xs p P a.1)
  where
    go : (b : Bool) → Agrees b (P k) → Agrees (some_operand (suc k) xs p) ((j : ℕ) × (suc k ≤ j) × (j < suc k + length xs) × P j)
        → Agrees (elim b [ true ↦ true | false ↦ some_operand (suc k) xs p ]) ((j : ℕ) × (k ≤ j) × (j < k + length (x ∷ xs)) × P j)
    go true a ih = record { to = λ t. (k, omega arith, omega arith, a.to tt); from = λ z. tt }
    go false a ih = record {
      to = λ t. let z = ih.to t in (z.0, omega (arith, z.1), omega (arith, z.2), z.3);
      from = λ z. later z (eqb z.0 k) (same z.0 k);
    }
      where
        later : (z : (j : ℕ) × (k ≤ j) × (j < k + length (x ∷ xs)) × P j) (b : Bool) → Same z.0 k b → T (some_operand (suc k) xs p)
        later z true (it e) = absurd (a.from (subst P e z.3))
        later z false (other e) = ih.from (z.0, omega (arith, z.1), omega (arith, z.2), z.3)

-- Rules 7.11 to 7.16: these rungs are the operation's own conditions.
own_from : (m : ℕ) → m < 6 → (d : Tables) (q : Request) → applies (refusal.no_such_user + m) d q ≡ own_rung (refusal.no_such_user + m) d q
unfolding applies rung_at never ladder
own_from zero h d q = refl
own_from (suc zero) h d q = refl
own_from (suc (suc zero)) h d q = refl
own_from (suc (suc (suc zero))) h d q = refl
own_from (suc (suc (suc (suc zero)))) h d q = refl
own_from (suc (suc (suc (suc (suc zero))))) h d q = refl
own_from (suc (suc (suc (suc (suc (suc m)))))) h d q = absurd (omega arith)

pub own_rung_lem : (n : ℕ) → refusal.no_such_user ≤ n → n ≤ refusal.not_acknowledged → (d : Tables) (q : Request) → applies n d q ≡ own_rung n d q
own_rung_lem n l h d q =
    let e : n ≡ refusal.no_such_user + (n - refusal.no_such_user) = omega arith in
    rw e (own_from (n - refusal.no_such_user) (omega arith) d q)

-- Rules 7.2 and 7.3: tables that fail the state check are answered with its number, whatever is asked.
pub judge_answer : (d : Tables) (q : Request) → judge d ≢ refusal.accepted → answer d q ≡ judge d
unfolding judge answer lowest ladder not_well_formed not_secure
judge_answer d q = go (well_formed_test d) (secure_test d) _
  where
    go : (a b : Bool) (n : ℕ) → ◌≢◌ {A = ℕ} (pick a (pick b refusal.accepted refusal.not_secure) refusal.not_well_formed) refusal.accepted
        → ◌≡◌ {A = ℕ}
        (elim (not a) [ true ↦ refusal.not_well_formed | false ↦ elim (not b) [ true ↦ refusal.not_secure | false ↦ n ] ])
        (pick a (pick b refusal.accepted refusal.not_secure) refusal.not_well_formed)
    go true true n h = absurd (h refl)
    go true false n h = refl
    go false b n h = refl
