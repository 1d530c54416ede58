-- Lists that are joined climb as many steps as both together, and `up` asks whether nothing is left after its steps.
use Rattle.std.specs.Prelude.{Bool, ◌&&◌, List, ◌≢◌, ◌≡◌, eqb, ltb, get_or, length, set}
use Rattle.std.proofs.Math.Bool.{false, true}
use Rattle.std.proofs.Common.{◌∙◌, add-one, ap, pow-suc, sym, length-set, get_or-set_other, get_or-set_same, eq-eqb, eqb-true}
use Rattle.std.proofs.Math.Path.{refl}
use Prim.Native.Nat.{◌+◌, ◌-◌, ◌^◌, ◌<◌, ◌≤◌, suc, zero, ℕ}
use native.Mathlib.Omega.{arith}
use Rattle.std.proofs.Math.Dec.{T}
use Rattle.std.proofs.Math.ListN.{get_or-eq_default}
use Rattle.laws.specs.Loops.{every_gather, every_none, every_of}
use Rattle.model.specs.Basics.Agree.{every_at}
use Rattle.model.specs.Basics.Choice.{Below, Same, below, it, other, over, pick, same, under}
use Rattle.model.specs.Basics.TestLaws.{equal_bools, every_same, holds_true, is_true}
use Rattle.model.specs.Basics.Tests.{every}
use Rattle.model.specs.State.Climb.{up}
use Rattle.model.specs.State.ClimbLaws.{complete, sound}
use Rattle.model.specs.Tables.Words.{entity_count}
use Rattle.state.specs.Holders.{Low, entity_numbers}
use Rattle.state.specs.Jumps.{Climbed, Jumped, all_end, ends_after, steps}

-- ---- steps

module _ (par : ℕ → ℕ) where
  -- steps after steps
  steps_on : (m n x : ℕ) → steps par (m + n) x ≡ steps par n (steps par m x)
  unfolding steps
  steps_on zero n x = let e : zero + n ≡ n = omega arith in rw e
  steps_on (suc m) n x = let e : suc m + n ≡ suc (m + n) = omega arith in rw e (steps_on m n (par x))

  -- steps stay among the numbers of entities
  steps_low : ((x : ℕ) → par x ≤ entity_count) → (n x : ℕ) → x ≤ entity_count → steps par n x ≤ entity_count
  unfolding steps
  steps_low low zero x h = h
  steps_low low (suc n) x h = steps_low low n (par x) (low x)

  -- nothing stands in nothing
  steps_none : par 0 ≡ 0 → (n : ℕ) → steps par n 0 ≡ 0
  unfolding steps
  steps_none z zero = refl
  steps_none z (suc n) = rw z (steps_none z n)

  -- a way that is at its end after n steps ends within m
  up_within : (m n x : ℕ) → 1 ≤ n → n ≤ m → steps par n x ≡ 0 → T (up par m x)
  unfolding up steps
  up_within zero n x l h z = absurd (omega arith)
  up_within (suc m) zero x l h z = absurd (omega arith)
  up_within (suc m) (suc n) x l h z = go (eqb (par x) 0) (same (par x) 0) (λ k. up_within m (suc k) (par x))
    where
      later : (k : ℕ) → k ≤ m → par x ≢ 0 → steps par k (par x) ≡ 0
          → ((k : ℕ) → 1 ≤ suc k → suc k ≤ m → steps par (suc k) (par x) ≡ 0 → T (up par m (par x))) → T (up par m (par x))
      later zero h q z ih = absurd (q z)
      later (suc k) h q z ih = ih k (omega arith) h z

      go : (b : Bool) → Same (par x) 0 b
          → ((k : ℕ) → 1 ≤ suc k → suc k ≤ m → steps par (suc k) (par x) ≡ 0 → T (up par m (par x))) → T (pick b true (up par m (par x)))
      go true (it q) ih = tt
      go false (other q) ih = later n (omega arith) q z ih

  -- a way that ends within m steps is at its end after them
  up_steps : par 0 ≡ 0 → (m x : ℕ) → T (up par m x) → steps par m x ≡ 0
  unfolding up steps
  up_steps o zero x t = absurd t
  up_steps o (suc m) x t = go (eqb (par x) 0) (same (par x) 0) (up_steps o m (par x)) t
    where
      go : (b : Bool) → Same (par x) 0 b → (T (up par m (par x)) → steps par m (par x) ≡ 0) → T (pick b true (up par m (par x)))
          → steps par m (par x) ≡ 0
      go true (it q) ih t = rw q (steps_none o m)
      go false (other q) ih t = ih t

-- ---- the loop that joins two lists

module _ (a b : List ℕ) where
  -- nothing is joined
  pub jumped_none : (d : List ℕ) → length d ≡ entity_numbers → Jumped a b 0 true d
  jumped_none d e = record { size = e; at = λ x l. absurd (omega arith); none = sym (every_none _) }

  -- the next number
  pub jumped_more : (i : ℕ) (r : Bool) (d : List ℕ) → i < entity_numbers → Jumped a b i r d
      → Jumped a b (i + 1) (eqb (get_or b (get_or a i 0) 0) 0 && r) (set d i (get_or b (get_or a i 0) 0))
  jumped_more i r d l j = record {
    size = length-set d i (get_or b (get_or a i 0) 0) ∙ j.size;
    at = λ x h. go x h (eqb x i) (same x i);
    none = every_gather i (λ x. eqb (get_or b (get_or a x 0) 0) 0) (eqb (get_or b (get_or a i 0) 0) 0) r refl j.none;
  }
    where
      go : (x : ℕ) → x < i + 1 → (t : Bool) → Same x i t → get_or (set d i (get_or b (get_or a i 0) 0)) x 0 ≡ get_or b (get_or a x 0) 0
      go x h true (it q) = rw q (get_or-set_same d i (get_or b (get_or a i 0) 0) 0 (omega (arith, j.size)))
      go x h false (other q) = get_or-set_other d i x (get_or b (get_or a i 0) 0) 0 q ∙ j.at x (omega arith)

  -- all numbers
  pub jumped_end : (i n : ℕ) (r : Bool) (d : List ℕ) → i ≤ n → n ≤ i → Jumped a b i r d → Jumped a b n r d
  jumped_end i n r d l m j = let e : n ≡ i = omega arith in rw e j

-- ---- rounds, each of which ends four times as far up as the one before it

-- it begins by a step at least
pub far : (i : ℕ) → 1 ≤ 4 ^ i
far zero = omega arith
far (suc i) = omega (arith, pow-suc 4 i, far i)

-- and climbs so far
pub round_on : (i : ℕ) → (4 ^ i + 4 ^ i) + (4 ^ i + 4 ^ i) ≡ 4 ^ (i + 1)
round_on i = rw add-one (omega (arith, pow-suc 4 i))

-- ---- lists that climb

module _ (h : List ℕ) (low : Low h) where
  -- the list itself climbs one step
  pub climbed_one : Climbed h 1 h
  unfolding steps
  climbed_one = record { size = low.0; at = λ x l. refl }

  -- what it tells are numbers of entities
  pub climbed_low : (n : ℕ) (d : List ℕ) → Climbed h n d → Low d
  climbed_low n d c = (c.size, λ x. go x (ltb entity_count x) (below entity_count x))
    where
      go : (x : ℕ) (b : Bool) → Below entity_count x b → get_or d x 0 ≤ entity_count
      go x true (under l) = omega (arith, get_or-eq_default d 0 {n = x} (omega (arith, c.size)))
      go x false (over l) = omega (arith, c.at x l, steps_low (λ y. get_or h y 0) low.1 n x l)

  -- two lists joined climb the steps of both
  pub climbed_on : (m n : ℕ) (a b : List ℕ) (r : Bool) (d : List ℕ) → Climbed h m a → Climbed h n b → Jumped a b entity_numbers r d → Climbed h (m + n) d
  climbed_on m n a b r d c e j = record {
    size = j.size;
    at = λ x l. j.at x (omega arith)
        ∙ rw (c.at x l) (e.at (steps (λ y. get_or h y 0) m x) (steps_low (λ y. get_or h y 0) low.1 m x l))
        ∙ sym (steps_on (λ y. get_or h y 0) m n x);
  }

  -- a list joined with itself climbs twice as far
  pub climbed_twice : (n : ℕ) (a : List ℕ) (r : Bool) (d : List ℕ) → Climbed h n a → Jumped a a entity_numbers r d → Climbed h (n + n) d
  climbed_twice n a r d c j = climbed_on n n a a r d c c j

  -- a stands in x
  abbrev Under : ℕ → ℕ → Type 0
  Under x a = (get_or h a 0 ≡ x) × (1 ≤ x)

  -- ways that end at all do so within the steps that `up` goes: one that goes farther passes an entity twice, and never ends
  ended : (n : ℕ) → 1 ≤ n → ((x : ℕ) → x < entity_numbers → steps (λ y. get_or h y 0) n x ≡ 0) → (a : ℕ) → T (up (λ y. get_or h y 0) entity_numbers a)
  unfolding steps
  ended n l left = complete entity_count Under (λ y. get_or h y 0) top holds one range
      (λ a i. sound entity_count Under (λ y. get_or h y 0) top holds one range n a (go a (ltb a entity_numbers) (below a entity_numbers)) i)
    where
      top : (a : ℕ) → get_or h a 0 ≡ 0 → (x : ℕ) → Under x a → ⊥
      top a z x u = omega (arith, z, u.0, u.1)

      holds : (a : ℕ) → get_or h a 0 ≢ 0 → Under (get_or h a 0) a
      holds a z = (refl, omega (arith, z))

      one : (a x y : ℕ) → Under x a → Under y a → x ≡ y
      one a x y u v = sym u.0 ∙ v.0

      range : (x a : ℕ) → Under x a → (1 ≤ x) × (x ≤ entity_count)
      range x a u = (u.1, omega (arith, u.0, low.1 a))

      go : (a : ℕ) (b : Bool) → Below a entity_numbers b → T (up (λ y. get_or h y 0) n a)
      go a true (under k) = up_within (λ y. get_or h y 0) n n a l (omega arith) (left a k)
      go a false (over k) = up_within (λ y. get_or h y 0) n 1 a (omega arith) l (get_or-eq_default h 0 {n = a} (omega (arith, low.0)))

  module _ (n : ℕ) (a b : List ℕ) (r : Bool) (d : List ℕ) (c : Climbed h n d) (j : Jumped a b entity_numbers r d) where
    -- the answer is whether nothing is left of any way
    climbed_none : r ≡ every entity_numbers (λ x. eqb (steps (λ y. get_or h y 0) n x) 0)
    climbed_none = j.none ∙ every_same entity_numbers (λ x. eqb (get_or b (get_or a x 0) 0) 0) (λ x. eqb (steps (λ y. get_or h y 0) n x) 0)
        (λ x l. ap (λ (v : ℕ). eqb v 0) (sym (j.at x l) ∙ c.at x (omega arith)))

    -- then every way ends
    pub climbed_ends : 1 ≤ n → r ≡ true → true ≡ all_end h
    climbed_ends l t = sym (holds_true _ (every_of entity_count (ends_after h) (λ x k. ended n l left (suc x))))
      where
        left : (x : ℕ) → x < entity_numbers → steps (λ y. get_or h y 0) n x ≡ 0
        left x k = eqb-true _ 0 (holds_true _ (every_at entity_numbers (λ x. eqb (steps (λ y. get_or h y 0) n x) 0) (is_true _ (sym climbed_none ∙ t)) x k))

    -- and after as many steps as `up` goes, only then
    pub climbed_all : get_or h 0 0 ≡ 0 → entity_numbers ≤ n → r ≡ all_end h
    climbed_all o q = equal_bools r (all_end h)
        (λ t. is_true _ (sym (climbed_ends (omega arith) (holds_true r t))))
        (λ t. is_true r (climbed_none ∙ holds_true _ (every_of entity_numbers (λ x. eqb (steps (λ y. get_or h y 0) n x) 0)
        (λ x l. is_true _ (eq-eqb _ 0 (left t x l))))))
      where
        left : T (all_end h) → (x : ℕ) → x < entity_numbers → steps (λ y. get_or h y 0) n x ≡ 0
        left t zero l = steps_none (λ y. get_or h y 0) o n
        left t (suc x) l =
            let e : n ≡ entity_numbers + (n - entity_numbers) = omega arith in
            let z : steps (λ y. get_or h y 0) entity_numbers (suc x) ≡ 0 =
            up_steps (λ y. get_or h y 0) o entity_numbers (suc x) (every_at entity_count (ends_after h) t x (omega arith)) in
            rw e (steps_on (λ y. get_or h y 0) entity_numbers (n - entity_numbers) (suc x)
            ∙ ap (steps (λ y. get_or h y 0) (n - entity_numbers)) z ∙ steps_none (λ y. get_or h y 0) o (n - entity_numbers))
