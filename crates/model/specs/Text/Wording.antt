-- Document 01, "Request text"; rules 11.1 and 11.2: the text of a request, its seven lines.
use Rattle.std.specs.Prelude.{List, [], ◌++◌, ◌∷◌, suc, ℕ}
use Rattle.model.specs.List.Listing.{entry}
use Rattle.model.specs.Request.Words.{Request, names}
use Rattle.model.specs.Text.Lines.{line, read_line}
use Rattle.model.specs.Text.Numbers.{Read, bad, digits, got, number}
use Rattle.model.specs.Text.References.{joined, reference}
use Rattle.model.specs.Text.Unfinished.{line_total}

-- What a text says: the values of its lines.
pub record Wording : Type 0 where
  pub user : ℕ
  pub operation : ℕ
  pub first : List ℕ
  pub second : List ℕ
  pub a : ℕ
  pub b : ℕ
  pub c : ℕ

-- Rule 11.1: the keys, each with its equals sign: user, op, ref, ref2, a, b, c.
abbrev pub user_key : List ℕ
user_key = 117 ∷ 115 ∷ 101 ∷ 114 ∷ 61 ∷ []

abbrev pub op_key : List ℕ
op_key = 111 ∷ 112 ∷ 61 ∷ []

abbrev pub ref_key : List ℕ
ref_key = 114 ∷ 101 ∷ 102 ∷ 61 ∷ []

abbrev pub ref2_key : List ℕ
ref2_key = 114 ∷ 101 ∷ 102 ∷ 50 ∷ 61 ∷ []

abbrev pub a_key : List ℕ
a_key = 97 ∷ 61 ∷ []

abbrev pub b_key : List ℕ
b_key = 98 ∷ 61 ∷ []

abbrev pub c_key : List ℕ
c_key = 99 ∷ 61 ∷ []

-- Rule 11.1: the seven lines, written one after another.
unfoldable pub text_of : Wording → List ℕ
text_of m =
    line user_key (digits m.user) ++
    (line op_key (digits m.operation) ++
    (line ref_key (joined m.first) ++
    (line ref2_key (joined m.second) ++
    (line a_key (digits m.a) ++
    (line b_key (digits m.b) ++
    line c_key (digits m.c))))))

-- What reading seven lines gives: their wording and the bytes after them, or the first line that is bad or missing.
pub data Lines : Type 0 where
  lines : Wording → List ℕ → Lines
  bad_line : ℕ → Lines

abbrev pub or_line : {A : Type 0} → ℕ → Read A → (A → List ℕ → Lines) → Lines
or_line k (got a s) f = f a s
or_line k bad f = bad_line k

-- Rules 11.1 and 12.2: the next seven lines of some bytes.
unfoldable pub read_seven : List ℕ → Lines
read_seven s =
    or_line 1 (read_line user_key number s) λ user s₁.
    or_line 2 (read_line op_key number s₁) λ operation s₂.
    or_line 3 (read_line ref_key reference s₂) λ first s₃.
    or_line 4 (read_line ref2_key reference s₃) λ second s₄.
    or_line 5 (read_line a_key number s₄) λ a s₅.
    or_line 6 (read_line b_key number s₅) λ b s₆.
    or_line 7 (read_line c_key number s₆) λ c s₇.
    lines (record { user = user; operation = operation; first = first; second = second; a = a; b = b; c = c }) s₇

-- Rule 11.4: the seventh is the last, and whatever follows it counts as an eighth.
abbrev pub at_end : Lines → Lines
at_end (lines m []) = lines m []
at_end (lines m (b ∷ s)) = bad_line (suc line_total)
at_end (bad_line k) = bad_line k

unfoldable pub read_text : List ℕ → Lines
read_text s = at_end (read_seven s)

-- The sixteen words of a wording (rule 5.1): a reference is its length and four name words, zero after its names, as in the list's entries.
unfoldable pub sixteen : Wording → List ℕ
sixteen m = m.user ∷ m.operation ∷ (entry m.first ++ (entry m.second ++ (m.a ∷ m.b ∷ m.c ∷ 0 ∷ [])))

-- The wording of a request.
abbrev pub wording_of : Request → Wording
wording_of q = record {
  user = q.user;
  operation = q.operation;
  first = names q.first;
  second = names q.second;
  a = q.a;
  b = q.b;
  c = q.c;
}
