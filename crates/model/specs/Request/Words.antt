-- Document 01, "The request and its operations"; rule 5.1: a request is sixteen words. Rule 5.2: a reference has a length and four name words.
use Rattle.std.specs.Prelude.{List, [], ◌∷◌, ◌+◌, suc, ℕ, get_or, take}

pub record Reference : Type 0 where
  pub length : ℕ
  pub name : ℕ → ℕ

pub record Request : Type 0 where
  pub user : ℕ
  pub operation : ℕ
  pub first : Reference
  pub second : Reference
  pub a : ℕ
  pub b : ℕ
  pub c : ℕ
  pub last : ℕ

-- Rule 5.1: as many words.
abbrev pub request_words : ℕ
request_words = 16

-- Rule 5.2: as many name words.
abbrev pub name_count : ℕ
name_count = 4

-- the reference whose length is word k
unfoldable pub reference_at : List ℕ → ℕ → Reference
reference_at q k = record { length = get_or q k 0; name = λ i. get_or q (k + suc i) 0 }

-- the request of a list of words
unfoldable pub request_of : List ℕ → Request
request_of q = record {
  user = get_or q 0 0;
  operation = get_or q 1 0;
  first = reference_at q 2;
  second = reference_at q 7;
  a = get_or q 12 0;
  b = get_or q 13 0;
  c = get_or q 14 0;
  last = get_or q 15 0;
}

-- the names of a reference: its first name words, as many as its length says
unfoldable pub names : Reference → List ℕ
names r = take r.length (r.name 0 ∷ r.name 1 ∷ r.name 2 ∷ r.name 3 ∷ [])
