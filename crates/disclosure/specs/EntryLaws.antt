-- Entries as words in the room. Stores one after another are one run of stores, and two runs, the second where the first ends, are one.
use Rattle.std.specs.Prelude.{Bool, false, true, List, [], ◌++◌, ◌∷◌, map, ◌≡◌, refl, ◌*◌, ◌+◌, ◌<◌, ◌≤◌, suc, zero, ℕ, ltb, get_or, length, set, take}
use Rattle.std.proofs.Common.{◌∙◌, ap, ap₂, sym, add-suc, add-zero, suc-add, add-one, arith, length-set, ext_get_or, get_or-set_other, get_or-take}
use Rattle.std.proofs.Common.{length-take-le, set-set, take-suc-set, ltb-false, ltb-true}
use Rattle.std.proofs.Math.Numerals.{towards_suc}
use Rattle.std.proofs.Math.ListN.{get_or-eq_default}
use Rattle.std.proofs.lemmas.List.{length-map, set_comm}
use Rattle.std.proofs.Math.Seq.{append_snoc}
use Rattle.std.proofs.lemmas.List.Edits.{sets}
use Rattle.disclosure.specs.Visited.{Padded, entries_of}
use Rattle.model.specs.List.Listing.{entries, entry, entry_words}
use Rattle.model.proofs.List.ListingLaws.{entries_length}
use Rattle.model.specs.Request.Words.{name_count}

-- ---- names that are padded with zeros

padded_at : (ns : List ℕ) (n k : ℕ) → n ≤ name_count → Padded ns n → get_or (take n ns) k 0 ≡ get_or ns k 0
padded_at ns n k l p = go (ltb k n) refl
  where
    go : (b : Bool) → ltb k n ≡ b → get_or (take n ns) k 0 ≡ get_or ns k 0
    go true e = get_or-take n ns k 0 (ltb-true k n e)
    go false e =
        let h : n ≤ k = ltb-false k n e in
        let f : length ns ≡ name_count = p.size in
        get_or-eq_default (take n ns) 0 (omega (arith, length-take-le n ns (omega arith))) ∙ sym (p.zeros k h)

-- the words of all names, one by one
all_names : (ns : List ℕ) → length ns ≡ name_count → ns ≡ get_or ns 0 0 ∷ get_or ns 1 0 ∷ get_or ns 2 0 ∷ get_or ns 3 0 ∷ []
all_names ns f = ext_get_or 0 ns (get_or ns 0 0 ∷ get_or ns 1 0 ∷ get_or ns 2 0 ∷ get_or ns 3 0 ∷ []) f go
  where
    go : (k : ℕ) → k < length ns → get_or ns k 0 ≡ get_or (get_or ns 0 0 ∷ get_or ns 1 0 ∷ get_or ns 2 0 ∷ get_or ns 3 0 ∷ []) k 0
    go zero h = refl
    go (suc zero) h = refl
    go (suc (suc zero)) h = refl
    go (suc (suc (suc zero))) h = refl
    go (suc (suc (suc (suc k)))) h = absurd (omega arith)

-- their entry has the words of the names as they are
entry_padded : (ns : List ℕ) (n : ℕ) → n ≤ name_count → Padded ns n → entry (take n ns) ≡ n ∷ ns
entry_padded ns n l p =
    let f : length ns ≡ name_count = p.size in
    let e : length (take n ns) ≡ n = length-take-le n ns (omega arith) in
    rw (e, padded_at ns n 0 l p, padded_at ns n 1 l p, padded_at ns n 2 l p, padded_at ns n 3 l p) (ap (λ (w : List ℕ). n ∷ w) (sym (all_names ns f)))

-- one name, and one name more
pub padded_one : (x : ℕ) → Padded (x ∷ 0 ∷ 0 ∷ 0 ∷ []) 1
padded_one x = record { size = refl; zeros = go }
  where
    go : (k : ℕ) → 1 ≤ k → get_or (x ∷ 0 ∷ 0 ∷ 0 ∷ []) k 0 ≡ 0
    go zero h = absurd (omega arith)
    go (suc zero) h = refl
    go (suc (suc zero)) h = refl
    go (suc (suc (suc zero))) h = refl
    go (suc (suc (suc (suc k)))) h = refl

pub padded_more : (ns : List ℕ) (n m x : ℕ) → m ≡ n + 1 → Padded ns n → Padded (set ns n x) m
padded_more ns n m x e p = record {
  size = length-set ns n x ∙ p.size;
  zeros = λ k h. get_or-set_other ns n k x 0 (λ q. omega arith) ∙ p.zeros k (omega arith);
}

pub take_more : (ns : List ℕ) (n m x : ℕ) → m ≡ n + 1 → n < name_count → Padded ns n → take m (set ns n x) ≡ take n ns ++ (x ∷ [])
take_more ns n m x e l p =
    let f : length ns ≡ name_count = p.size in
    let h : n < length ns = omega arith in
    rw (e, add-one) (take-suc-set ns n x h)

-- ---- runs of stores

-- a store before the words of a run does not touch them, and one among them is as if that word had been stored in its place
sets_before : (vs l : List ℕ) (i j x : ℕ) → j < i → set (sets l i vs) j x ≡ sets (set l j x) i vs
sets_before [] l i j x h = refl
sets_before (v ∷ vs) l i j x h =
    sets_before vs (set l i v) (suc i) j x (omega arith) ∙ ap (λ (m : List ℕ). sets m (suc i) vs) (set_comm l i j v x (λ q. omega arith))

sets_within : (vs l : List ℕ) (i k x : ℕ) → k < length vs → set (sets l i vs) (i + k) x ≡ sets l i (set vs k x)
sets_within [] l i k x h = absurd (omega arith)
sets_within (v ∷ vs) l i zero x h =
    rw add-zero (sets_before vs (set l i v) (suc i) i x (omega arith)) ∙ ap (λ (m : List ℕ). sets m (suc i) vs) (set-set l i v x)
sets_within (v ∷ vs) l i (suc k) x h = rw (add-suc, ← suc-add) (sets_within vs (set l i v) (suc i) k x (omega arith))

-- the room in which n is stored at word i, and the words of all names one by one after it
abbrev stores : List ℕ → ℕ → ℕ → List ℕ → List ℕ
stores room i n ns = set (set (set (set (set room i n) (i + 1) (get_or ns 0 0)) (i + 2) (get_or ns 1 0)) (i + 3) (get_or ns 2 0)) (i + 4) (get_or ns 3 0)

-- a word and all names, stored one by one, are a run
pub names_stored : (l : List ℕ) (at n : ℕ) (ns : List ℕ) → length ns ≡ name_count → stores l at n ns ≡ sets l at (n ∷ ns)
names_stored l at n ns f = (simp towards_suc) ∙ ap (λ (w : List ℕ). sets l at (n ∷ w)) (sym (all_names ns f))

-- so an entry is stored; r is the room then
pub entry_stored : (l r : List ℕ) (at n : ℕ) (ns : List ℕ) → n ≤ name_count → Padded ns n → r ≡ sets l at (n ∷ ns) → r ≡ sets l at (entry (take n ns))
entry_stored l r at n ns h p re = re ∙ ap (sets l at) (sym (entry_padded ns n h p))

-- and one with a name more, which goes over the zero after the others
pub last_stored : (l r : List ℕ) (at n m j x : ℕ) (ns : List ℕ) → n < name_count → m ≡ n + 1 → j ≡ at + suc n → Padded ns n → r ≡ sets l at (m ∷ ns)
    → set r j x ≡ sets l at (entry (take n ns ++ (x ∷ [])))
last_stored l r at n m j x ns h e f p re =
    let g : length ns ≡ name_count = p.size in
    ap₂ (λ (q : List ℕ) (k : ℕ). set q k x) re f ∙ sets_within (m ∷ ns) l at (suc n) x (omega arith)
    ∙ ap (sets l at) (sym (entry_padded (set ns n x) m (omega arith) (padded_more ns n m x e p)) ∙ ap entry (take_more ns n m x e h p))

sets_append : (a b l : List ℕ) (i : ℕ) → sets (sets l i a) (i + length a) b ≡ sets l i (a ++ b)
sets_append [] b l i = rw add-zero refl
sets_append (x ∷ a) b l i = rw (add-suc, ← suc-add) (sets_append a b (set l i x) (suc i))

-- ---- the words of a list

map_append : (f : List ℕ → List ℕ) (a b : List (List ℕ)) → map f (a ++ b) ≡ map f a ++ map f b
map_append f [] b = refl
map_append f (r ∷ a) b = ap (λ (l : List (List ℕ)). f r ∷ l) (map_append f a b)

entries_append : (a b : List (List ℕ)) → entries (a ++ b) ≡ entries a ++ entries b
unfolding entries
entries_append [] b = refl
entries_append (r ∷ a) b = ap (λ (l : List ℕ). entry r ++ l) (entries_append a b)

entries_of_append : (pre : List ℕ) (a b : List (List ℕ)) → entries_of pre (a ++ b) ≡ entries_of pre a ++ entries_of pre b
entries_of_append pre a b = ap entries (map_append (λ r. pre ++ r) a b) ∙ entries_append (map (λ r. pre ++ r) a) (map (λ r. pre ++ r) b)

-- a name in front of every continuation is a name after what begins them
pub entries_of_under : (pre : List ℕ) (x : ℕ) (l : List (List ℕ)) → entries_of pre (map (λ r. x ∷ r) l) ≡ entries_of (pre ++ (x ∷ [])) l
entries_of_under pre x l = ap entries (go l)
  where
    go : (l : List (List ℕ)) → map (λ r. pre ++ r) (map (λ r. x ∷ r) l) ≡ map (λ r. (pre ++ (x ∷ [])) ++ r) l
    go [] = refl
    go (r ∷ l) = ap₂ (λ (a : List ℕ) (b : List (List ℕ)). a ∷ b) (sym (append_snoc pre x r)) (go l)

-- what begins with no name is as it is
pub entries_of_whole : (l : List (List ℕ)) → entries_of [] l ≡ entries l
entries_of_whole l = ap entries (go l)
  where
    go : (l : List (List ℕ)) → map (λ r. [] ++ r) l ≡ l
    go [] = refl
    go (r ∷ l) = ap (λ (b : List (List ℕ)). r ∷ b) (go l)

-- the entries of two lists, one after the other
pub stored_both : (pre l m r : List ℕ) (i j : ℕ) (a b : List (List ℕ)) → j ≡ i + entry_words * length a → m ≡ sets l i (entries_of pre a)
    → r ≡ sets m j (entries_of pre b) → r ≡ sets l i (entries_of pre (a ++ b))
stored_both pre l m r i j a b h p q =
    let n : length (entries_of pre a) ≡ entry_words * length a =
    entries_length (map (λ r. pre ++ r) a) ∙ ap (λ (k : ℕ). entry_words * k) (length-map a (λ r. pre ++ r)) in
    q ∙ ap₂ (λ (x : List ℕ) (k : ℕ). sets x k (entries_of pre b)) p (h ∙ ap (λ (k : ℕ). i + k) (sym n))
    ∙ sets_append (entries_of pre a) (entries_of pre b) l i ∙ ap (sets l i) (sym (entries_of_append pre a b))
