-- What differs between tables before and after some of their words were put: the words of a set in one record, and nothing else.
use Rattle.std.specs.Prelude.{Bool, ◌&&◌, false, true, ◌≢◌, ◌⊎◌, ◌≡◌, refl, ℕ, eqb}
use Rattle.std.proofs.Common.{inl, inr, ◌∙◌, ap₂, subst, sym, eq-eqb}
use Rattle.model.specs.Basics.Cases.{cases}
use Rattle.model.specs.Basics.Choice.{Same, it, other, pick, same}
use Rattle.model.specs.Tables.Edits.{Edit, edited}

-- two numbers are the same or not
pub eq_or_ne : (x e : ℕ) → (x ≡ e) ⊎ (x ≢ e)
eq_or_ne x e = go (eqb x e) (same x e)
  where
    go : (b : Bool) → Same x e b → (x ≡ e) ⊎ (x ≢ e)
    go true (it q) = inl q
    go false (other q) = inr q

-- r' differs from r in the words S of record e only
abbrev pub Only : {W : Type 0} → ℕ → (W → Type 0) → (ℕ → W → ℕ) → (ℕ → W → ℕ) → Type 0
Only {W} e S r r' = (x : ℕ) (g : W) → (x ≡ e → S g → ⊥) → r' x g ≡ r x g

-- one word, known by its tag and its place in a row
abbrev one : {W : Type 0} → (W → ℕ) → (W → ℕ) → W → ℕ → Edit W
one tag_of place_of f v = record { touched = λ g. eqb (tag_of g) (tag_of f) && eqb (place_of g) (place_of f); value = λ g. v }

module _
    {W : Type 0} (tag_of place_of : W → ℕ) (named : (g f : W) → tag_of g ≡ tag_of f → place_of g ≡ place_of f → g ≡ f)
    (e : ℕ) (f : W) (v : ℕ) (r : ℕ → W → ℕ)
  where
    -- v put in word f of record e
    abbrev put : ℕ → W → ℕ
    put = edited (λ x. eqb x e) (λ x. one tag_of place_of f v) r

    put_here : put e f ≡ v
    put_here = rw (eq-eqb (tag_of f) (tag_of f) refl, eq-eqb (place_of f) (place_of f) refl, eq-eqb e e refl)

    -- is it this word of this record
    which : (x : ℕ) (g : W) → ((x ≡ e) × (g ≡ f)) ⊎ ((x ≡ e → g ≡ f → ⊥) × (put x g ≡ r x g))
    which x g = go (eqb (tag_of g) (tag_of f)) (eqb (place_of g) (place_of f)) (eqb x e) (same (tag_of g) (tag_of f)) (same (place_of g) (place_of f))
        (same x e)
      where
        go : (a b c : Bool) → Same (tag_of g) (tag_of f) a → Same (place_of g) (place_of f) b → Same x e c
            → ((x ≡ e) × (g ≡ f)) ⊎ ((x ≡ e → g ≡ f → ⊥) × (pick (a && b) (pick c v (r x g)) (r x g) ≡ r x g))
        go true true true (it p) (it q) (it s) = inl (s, named g f p q)
        go true true false p q (other s) = inr (λ y z. s y, refl)
        go true false c p (other q) s = inr (λ y z. q (λ i. place_of (z i)), refl)
        go false b c (other p) q s = inr (λ y z. p (λ i. tag_of (z i)), refl)

    put_else : (x : ℕ) (g : W) → (x ≡ e → g ≡ f → ⊥) → put x g ≡ r x g
    put_else x g n = cases (which x g) (λ y. absurd (n y.0 y.1)) (λ y. y.1)

    -- what differs from the put words in S' only differs from those before in S only, if f is in S too,
    pub only_back : (S S' : W → Type 0) (r' : ℕ → W → ℕ) → ((g : W) → S' g → S g) → S f → Only e S' put r' → Only e S r r'
    only_back S S' r' sub here o x g n = o x g (λ p q. n p (sub g q)) ∙ put_else x g (λ p q. n p (subst S (sym q) here))

    -- and has v at f, if f is not in S'.
    pub only_at : (S' : W → Type 0) (r' : ℕ → W → ℕ) → (S' f → ⊥) → Only e S' put r' → r' e f ≡ v
    only_at S' r' out o = o e f (λ p q. out q) ∙ put_here

    -- The other way: what has v at f differs from the put words in what is left of S.
    pub only_there : (S S' : W → Type 0) (r' : ℕ → W → ℕ) → ((g : W) → S g → (g ≡ f) ⊎ S' g) → r' e f ≡ v → Only e S r r' → Only e S' put r'
    only_there S S' r' split here o x g n =
        cases (which x g)
        (λ y. ap₂ r' y.0 y.1 ∙ here ∙ sym (ap₂ put y.0 y.1 ∙ put_here))
        (λ y. o x g (λ p q. cases (split g q) (λ z. y.0 p z) (λ z. n p z)) ∙ sym y.1)
