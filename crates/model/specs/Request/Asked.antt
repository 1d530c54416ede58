-- Document 01, "The request and its operations"; rules 5.3 and 5.6: what a request asks, once its references have been read in given tables.
use Rattle.std.specs.Prelude.{Bool, List, ℕ, eqb}
use Rattle.model.specs.Basics.Choice.{pick}
use Rattle.model.specs.Level.{Bit, bit}
use Rattle.model.specs.Request.Reference.{basis, resolve}
use Rattle.model.specs.Request.Words.{Request, names}
use Rattle.model.specs.Tables.Words.{Tables, current, devices, triple_of}

-- the operands are entity numbers, 0 where a reference leads nowhere; the bases are the entities on the way to each
pub record Asked : Type 0 where
  pub user : ℕ
  pub first : ℕ
  pub second : ℕ
  pub first_basis : List ℕ
  pub second_basis : List ℕ
  pub a : ℕ
  pub b : ℕ
  pub c : ℕ

unfoldable pub asked : Tables → Request → Asked
asked d q = record {
  user = q.user;
  first = resolve d (names q.first);
  second = resolve d (names q.second);
  first_basis = basis d (names q.first);
  second_basis = basis d (names q.second);
  a = q.a;
  b = q.b;
  c = q.c;
}

-- operand 1 or 2, and what it is based on
abbrev pub operand : Asked → ℕ → ℕ
operand s k = pick (eqb k 1) s.first s.second

abbrev pub basis_of : Asked → ℕ → List ℕ
basis_of s k = pick (eqb k 1) s.first_basis s.second_basis

-- the requester's device, or 0
abbrev pub own : Tables → Asked → ℕ
own d s = devices d s.user

-- Rule 5.6: a user has a role, by its bit, among the current ones.
abbrev pub HasRole : Tables → ℕ → ℕ → Type 0
HasRole d u r = Bit r (d.user u current)

unfoldable pub has_role : Tables → ℕ → ℕ → Bool
has_role d u r = bit r (d.user u current)

-- the triple that operations 8 and 9 name
abbrev pub named_triple : Asked → ℕ
named_triple s = triple_of s.a s.b s.c
