-- The laws of names as text, in the form in which code goes through them: one after another.
use Rattle.std.specs.Prelude.{List, [], ◌++◌, ◌∷◌, ◌≡◌, refl, ◌*◌, ◌+◌, ◌-◌, ◌<◌, ◌≤◌, suc, zero, ℕ, get_or, length, take}
use Rattle.std.proofs.Common.{append_assoc, append-nil, ◌∙◌, ap, sym, add-one, arith, length-append, length-take, take_all, take-suc}
use Rattle.model.specs.Request.Words.{name_count}
use Rattle.model.specs.Text.NumberLaws.{length_most}
use Rattle.model.specs.Text.Numbers.{digit_count, digits}
use Rattle.model.specs.Text.References.{dot_byte, dotted, joined}

-- the first name
pub joined_first : (ns : List ℕ) → 0 < length ns → joined (take 1 ns) ≡ digits (get_or ns 0 0)
joined_first [] h = absurd (omega arith)
joined_first (n ∷ ns) h = append-nil (digits n)

dotted_append : (ns ms : List ℕ) → dotted (ns ++ ms) ≡ dotted ns ++ dotted ms
dotted_append [] ms = refl
dotted_append (n ∷ ns) ms = rw (dotted_append ns ms) (ap (λ l. dot_byte ∷ l) (sym (append_assoc (digits n) (dotted ns) (dotted ms))))

-- one name more after others, or after names that are one at least
dotted_next : (ns : List ℕ) (i : ℕ) → i < length ns → dotted (take (suc i) ns) ≡ dotted (take i ns) ++ (dot_byte ∷ digits (get_or ns i 0))
dotted_next ns i h = rw (take-suc ns i 0 h, dotted_append (take i ns) (get_or ns i 0 ∷ []), append-nil)

pub joined_next : (ns : List ℕ) (i : ℕ) → 0 < i → i < length ns → joined (take (i + 1) ns) ≡ joined (take i ns) ++ (dot_byte ∷ digits (get_or ns i 0))
joined_next [] i g h = absurd (omega arith)
joined_next (n ∷ ns) zero g h = absurd (omega arith)
joined_next (n ∷ ns) (suc i) g h =
    rw (add-one (suc i), dotted_next ns i (omega arith))
    (sym (append_assoc (digits n) (dotted (take i ns)) (dot_byte ∷ digits (get_or ns i 0))))

-- ---- how long names are

-- joined names are as long as names with a dot before each, but for the first dot
pub joined_dotted : (ns : List ℕ) → length (dotted ns) - 1 ≡ length (joined ns)
joined_dotted [] = refl
joined_dotted (n ∷ ns) = omega arith

-- the first names are no longer than all of them
dotted_take : (ns : List ℕ) (i : ℕ) → length (dotted (take i ns)) ≤ length (dotted ns)
dotted_take ns zero = omega arith
dotted_take [] (suc i) = omega arith
dotted_take (n ∷ ns) (suc i) =
    rw (length-append (digits n) (dotted (take i ns)), length-append (digits n) (dotted ns)) (omega (arith, dotted_take ns i))

joined_take : (ns : List ℕ) (i : ℕ) → length (joined (take i ns)) ≤ length (joined ns)
joined_take ns i = omega (arith, joined_dotted ns, joined_dotted (take i ns), dotted_take ns i)

-- nor is the first one
pub first_long : (ns : List ℕ) → 0 < length ns → length (digits (get_or ns 0 0)) ≤ length (joined ns)
first_long ns h = omega (arith, ap length (joined_first ns h), joined_take ns 1)

-- nor those with one more
pub joined_room : (ns : List ℕ) (i : ℕ) → 0 < i → i < length ns → length (joined (take i ns)) + length (dot_byte ∷ digits (get_or ns i 0)) ≤ length (joined ns)
joined_room ns i g h =
    let e : length (joined (take (i + 1) ns)) ≡ length (joined (take i ns)) + length (dot_byte ∷ digits (get_or ns i 0)) =
    ap length (joined_next ns i g h) ∙ length-append (joined (take i ns)) (dot_byte ∷ digits (get_or ns i 0)) in
    omega (arith, e, joined_take ns (i + 1))

-- one name more
pub dotted_turn : (ns : List ℕ) (i : ℕ) → i < length ns
    → length (dotted (take (i + 1) ns)) ≡ length (dotted (take i ns)) + (length (digits (get_or ns i 0)) + 1)
dotted_turn ns i h = rw (add-one i, dotted_next ns i h, length-append (dotted (take i ns)) (dot_byte ∷ digits (get_or ns i 0))) (omega arith)

-- a name takes at most ten digits and a dot
dotted_most_lem : (ns : List ℕ) → length (dotted ns) ≤ suc digit_count * length ns
dotted_most_lem [] = omega arith
dotted_most_lem (n ∷ ns) = rw (length-append (digits n) (dotted ns)) (omega (arith, length_most n, dotted_most_lem ns))

-- as many bytes as four names take at most, with a dot before each
abbrev pub dotted_most : ℕ
dotted_most = suc digit_count * name_count

-- Four names at most take less when they are joined, and the first of them with their dots no more.
pub joined_most : (ns : List ℕ) → length ns ≤ name_count → length (joined ns) < dotted_most
joined_most ns h = omega (arith, joined_dotted ns, dotted_most_lem ns)

pub taken_most : (ns : List ℕ) (i : ℕ) → length ns ≤ name_count → length (dotted (take i ns)) ≤ dotted_most
taken_most ns i h = omega (arith, dotted_most_lem (take i ns), length-take i ns)

-- all names were gone through
pub taken_all : (ns : List ℕ) (i n : ℕ) → length ns ≤ i → n ≡ length (dotted (take i ns)) → n - 1 ≡ length (joined ns)
taken_all ns i n h e = rw (e, take_all i ns h) (joined_dotted ns)
