-- Lists that are not a given one, told apart by a test of their members.
use Rattle.std.specs.Prelude.{Bool, ◌&&◌, false, not, true, List, [], ◌∷◌, ◌≢◌, ◌<◌, suc, zero, ℕ, T, get_or, length}
use Rattle.std.proofs.Common.{subst, arith, T_not}
use Rattle.model.specs.Basics.TestLaws.{T-l, T-r}

pub both : (a b : Bool) → T a → T b → T (a && b)
both true b p q = q
both false b p q = absurd p

-- whether two lists are the same, by a test of two members
abbrev pub same_lists : {A : Type 0} → (A → A → Bool) → List A → List A → Bool
same_lists eq [] [] = true
same_lists eq [] (y ∷ ys) = false
same_lists eq (x ∷ xs) [] = false
same_lists eq (x ∷ xs) (y ∷ ys) = eq x y && same_lists eq xs ys

-- none of some lists is this one
abbrev pub none_is : {A : Type 0} → (A → A → Bool) → List A → List (List A) → Bool
none_is eq r [] = true
none_is eq r (w ∷ ws) = not (same_lists eq w r) && none_is eq r ws

-- the test finds a member the same as itself
module _ {A : Type 0} (eq : A → A → Bool) (itself : (x : A) → T (eq x x)) where
  same_itself : (xs : List A) → T (same_lists eq xs xs)
  same_itself [] = tt
  same_itself (x ∷ xs) = both (eq x x) (same_lists eq xs xs) (itself x) (same_itself xs)

  pub other : (xs ys : List A) → T (not (same_lists eq xs ys)) → xs ≢ ys
  other xs ys t e = T_not (same_lists eq xs ys) t (subst (λ l. T (same_lists eq xs l)) e (same_itself xs))

  pub none_at : (r : List A) (ws : List (List A)) → T (none_is eq r ws) → (i : ℕ) → i < length ws → get_or ws i [] ≢ r
  none_at r [] t i h = absurd (omega arith)
  none_at r (w ∷ ws) t zero h = other w r (T-l (not (same_lists eq w r)) (none_is eq r ws) t)
  none_at r (w ∷ ws) t (suc i) h = none_at r ws (T-r (not (same_lists eq w r)) (none_is eq r ws) t) i (omega arith)
