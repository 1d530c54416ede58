-- What a visit writes into the room, which has space for it, and how far its entries reach.
use Rattle.std.specs.Prelude.{List, ◌++◌, map, ◌≡◌, ◌*◌, ◌+◌, ◌≤◌, pred, ℕ, get_or, length}
use Rattle.std.proofs.lemmas.List.Edits.{sets}
use Rattle.verdicts.specs.Verdicts.{leads, listed}
use Rattle.verdicts.specs.declared.Verdict.{Verdict}
use Rattle.model.specs.List.Listing.{entries, entry_words}
use Rattle.model.specs.List.Walk.{through, visit, walk}
use Rattle.model.specs.Request.Reference.{standing}
use Rattle.model.specs.Request.Words.{name_count}
use Rattle.model.specs.Tables.Layout.{tables_of}

-- the continuations from e by at most k names, in the tables t, as the verdicts v tell
abbrev pub under : List ℕ → List Verdict → ℕ → ℕ → List (List ℕ)
under t v k e = visit (leads v) (standing (tables_of t)) (listed v) k e

-- those by the first n places of e, and at most k names after that
abbrev pub inside : List ℕ → List Verdict → ℕ → ℕ → ℕ → List (List ℕ)
inside t v k e n = through n (λ p. under t v k (standing (tables_of t) e p))

-- so many names may follow the first
abbrev pub further_most : ℕ
further_most = pred name_count

-- the references whose first name is one of 1 to n
abbrev pub followed : List ℕ → List Verdict → ℕ → List (List ℕ)
followed t v n = walk (leads v) (standing (tables_of t)) (listed v) further_most n

-- the words of the references that begin with the names of pre and go on as the list says
abbrev pub entries_of : List ℕ → List (List ℕ) → List ℕ
entries_of pre l = entries (map (λ r. pre ++ r) l)

-- the words of all names, of which those from n on are zero
pub record Padded (ns : List ℕ) (n : ℕ) : Type 0 where
  pub size : length ns ≡ name_count
  pub zeros : (k : ℕ) → n ≤ k → get_or ns k 0 ≡ 0

-- the room has space for the entries of l from word i on
abbrev pub Fits : List ℕ → ℕ → List (List ℕ) → Type 0
Fits room i l = i + entry_words * length l ≤ length room

-- The entries of l, each begun by pre, reach from word i of the room to word n, and r is the room with their words.
pub record Visited (pre room : List ℕ) (i : ℕ) (l : List (List ℕ)) (n : ℕ) (r : List ℕ) : Type 0 where
  pub reach : n ≡ i + entry_words * length l
  pub wrote : r ≡ sets room i (entries_of pre l)
