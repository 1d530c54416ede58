-- Every refusal of a row is heard: a number is refused exactly where some condition that has it applies (rules 7.11 to 7.16).
use Rattle.std.specs.Prelude.{Bool, false, not, true, ◌⊎◌, ◌≡◌, ℕ, T, eqb}
use mathlib.Core.List.Memᴰ
use mathlib.Core.List.{List, Memᴰ, [], ◌∷◌}
use Rattle.std.proofs.Common.{inl, inr, ap, sym}
use Rattle.model.specs.Basics.Agree.{Agrees, agrees_T, agrees_not, agrees_or}
use Rattle.model.specs.Basics.Choice.{Same, it, other, pick, same}
use Rattle.model.specs.Request.Asked.{Asked}
use Rattle.model.specs.Request.Conditions.{Condition}
use Rattle.model.specs.Request.Ladder.{any_of, of_number, refused}
use Rattle.model.specs.Request.Operations.{Refusal, refuse}
use Rattle.model.specs.Tables.Words.{Tables}

-- a condition of the number n, among the refusals cs, applies
abbrev pub Refused : ℕ → List Refusal → Tables → Asked → Type 0
Refused n cs d s = (c : Condition) × Memᴰ (refuse n c) cs × T (c d s)

-- one more condition
any_of_agrees : (c : Condition) (cs : List Condition) (d : Tables) (s : Asked) → Agrees (any_of (c ∷ cs) d s) (T (c d s) ⊎ T (any_of cs d s))
any_of_agrees c [] d s = record { to = λ t. inl t; from = λ z. only_first z }
  where
    only_first : T (c d s) ⊎ ⊥ → T (c d s)
    only_first (inl t) = t
    only_first (inr z) = absurd z
any_of_agrees c (c' ∷ cs) d s = agrees_or (agrees_T (c d s)) (agrees_T (any_of (c' ∷ cs) d s))

-- A number is refused exactly where a refusal of the list has it and its condition applies.
pub refused_agrees : (n : ℕ) (cs : List Refusal) (d : Tables) (s : Asked) → Agrees (refused n cs d s) (Refused n cs d s)
unfolding refused
refused_agrees n [] d s = record { to = λ t. absurd t; from = λ z. absurd (Memᴰ.not-nil z.1) }
refused_agrees n (refuse k c ∷ cs) d s = go (eqb k n) (same k n) (refused_agrees n cs d s)
  where
    later : Refused n cs d s → Refused n (refuse k c ∷ cs) d s
    later z = (z.0, Memᴰ.tail z.1, z.2)

    sooner : (z : Refused n (refuse k c ∷ cs) d s) → (refuse n z.0 ≡ refuse k c) ⊎ Memᴰ (refuse n z.0) cs
        → ((n ≡ k) × T (c d s)) ⊎ Refused n cs d s
    sooner z (inl e) = let f : z.0 ≡ c = cc in let m : n ≡ k = cc in inl (m, rw f at z.2)
    sooner z (inr m) = inr (z.0, m, z.2)

    go : (b : Bool) → Same k n b → Agrees (any_of (of_number n cs) d s) (Refused n cs d s)
        → Agrees (any_of (pick b (c ∷ of_number n cs) (of_number n cs)) d s) (Refused n (refuse k c ∷ cs) d s)
    go true (it e) ih = record {
      to = λ t. first ((any_of_agrees c (of_number n cs) d s).to t);
      from = λ z. (any_of_agrees c (of_number n cs) d s).from (back (sooner z (Memᴰ.cases_cons z.1)));
    }
      where
        first : T (c d s) ⊎ T (any_of (of_number n cs) d s) → Refused n (refuse k c ∷ cs) d s
        first (inl t) = (c, Memᴰ.head (ap (λ (m : ℕ). refuse m c) (sym e)), t)
        first (inr t) = later (ih.to t)

        back : ((n ≡ k) × T (c d s)) ⊎ Refused n cs d s → T (c d s) ⊎ T (any_of (of_number n cs) d s)
        back (inl z) = inl z.1
        back (inr z) = inr (ih.from z)
    go false (other e) ih = record { to = λ t. later (ih.to t); from = λ z. back (sooner z (Memᴰ.cases_cons z.1)) }
      where
        back : ((n ≡ k) × T (c d s)) ⊎ Refused n cs d s → T (any_of (of_number n cs) d s)
        back (inl z) = absurd (e (sym z.0))
        back (inr z) = ih.from z

-- Something holds of every refusal of a list, by number and condition.
abbrev pub AllRefusals : List Refusal → (ℕ → Condition → Type 0) → Type 0
AllRefusals [] P = Unit {0}
AllRefusals (refuse k c ∷ cs) P = P k c × AllRefusals cs P

all_at : (n : ℕ) (c : Condition) (cs : List Refusal) (P : ℕ → Condition → Type 0) → AllRefusals cs P → Memᴰ (refuse n c) cs → P n c
all_at n c [] P a m = absurd (Memᴰ.not-nil m)
all_at n c (refuse k c' ∷ cs) P a m = one (Memᴰ.cases_cons m) (all_at n c cs P a.1)
  where
    one : (refuse n c ≡ refuse k c') ⊎ Memᴰ (refuse n c) cs → (Memᴰ (refuse n c) cs → P n c) → P n c
    one (inl e) ih = let f : c ≡ c' = cc in let m : n ≡ k = cc in rw (f, m) a.0
    one (inr m) ih = ih m

-- What holds of each holds of one that is heard.
pub refused_of : (n : ℕ) (cs : List Refusal) (d : Tables) (s : Asked) (P : ℕ → Condition → Type 0) → AllRefusals cs P → T (refused n cs d s)
    → (c : Condition) × P n c × T (c d s)
refused_of n cs d s P a t = let z = (refused_agrees n cs d s).to t in (z.0, all_at n z.0 cs P a z.1, z.2)

-- Where no condition of a list applies, no number is refused.
pub refused_none : (n : ℕ) (cs : List Refusal) (d : Tables) (s : Asked) → AllRefusals cs (λ k c. T (not (c d s))) → T (not (refused n cs d s))
refused_none n cs d s a = (agrees_not (agrees_T (refused n cs d s))).from
    (λ t. let z = refused_of n cs d s (λ k c. T (not (c d s))) a t in (agrees_not (agrees_T (z.0 d s))).to z.1 z.2)
