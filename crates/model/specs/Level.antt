-- Document 01, "Levels and roles"; document 02, M-101; rules 1.1 to 1.3: levels, their order, and sets of bits. The order is said over the width of the
-- compartments.
use Rattle.std.specs.Prelude.{Bool, ◌&&◌, not, ◌≢◌, ◌%◌, ◌*◌, ◌/◌, ◌^◌, ℕ, T, eqb, leb}
use Rattle.model.specs.Basics.Tests.{every, imp}

-- Rules 1.1 and 1.3: a set is a number's bits; bit i of n.
unfoldable pub bit : ℕ → ℕ → Bool
bit i n = eqb (n / 2 ^ i % 2) 1

abbrev pub Bit : ℕ → ℕ → Type 0
Bit i n = T (bit i n)

-- Of the first k bits, each one that is in a is in b.
unfoldable pub subset : ℕ → ℕ → ℕ → Bool
subset k a b = every k (λ i. imp (bit i a) (bit i b))

abbrev pub Subset : ℕ → ℕ → ℕ → Type 0
Subset k a b = T (subset k a b)

-- Rule 1.1: a level is rank × 2 ^ k + compartments, where the compartments are k bits.
unfoldable pub rank : ℕ → ℕ → ℕ
rank k l = l / 2 ^ k

-- Rule 1.2: no higher rank, and no compartment that b lacks.
unfoldable pub at_most_over : ℕ → ℕ → ℕ → Bool
at_most_over k a b = leb (rank k a) (rank k b) && subset k a b

abbrev pub AtMostOver : ℕ → ℕ → ℕ → Type 0
AtMostOver k a b = T (at_most_over k a b)

-- Rule 1.1: the desk has eight compartments and four ranks, so its levels are 0 to 1,023.
abbrev pub compartment_count : ℕ
compartment_count = 8

abbrev pub rank_count : ℕ
rank_count = 4

abbrev pub level_count : ℕ
level_count = rank_count * 2 ^ compartment_count

unfoldable pub at_most : ℕ → ℕ → Bool
at_most a b = at_most_over compartment_count a b

abbrev pub AtMost : ℕ → ℕ → Type 0
AtMost a b = T (at_most a b)

-- Rule 1.2: the new level a drops from the old level b where it is not at least b: rank or a compartment is lost, whatever else is won. The
-- propositional reading is `Drops`.
unfoldable pub drops : ℕ → ℕ → Bool
drops a b = not (at_most b a)

abbrev pub Drops : ℕ → ℕ → Type 0
Drops a b = AtMost b a → ⊥

-- Rule 1.2: a drop has two ways. Strictly lower is at most, and another level;
abbrev pub Lower : ℕ → ℕ → Type 0
Lower a b = AtMost a b × (a ≢ b)

-- sideways is neither at most nor at least.
abbrev pub Sideways : ℕ → ℕ → Type 0
Sideways a b = (AtMost a b → ⊥) × (AtMost b a → ⊥)

-- Rule 1.3: roles are a set of eight bits; the first three have a meaning of their own.
abbrev pub role_count : ℕ
role_count = 8

abbrev pub role_sets : ℕ
role_sets = 2 ^ role_count

-- security officer: the role 1, bit 0
abbrev pub officer : ℕ
officer = 0

-- downgrader: the role 2, bit 1
abbrev pub downgrader : ℕ
downgrader = 1

-- releaser: the role 4, bit 2
abbrev pub releasing : ℕ
releasing = 2
