-- Document 01, "The request and its operations"; rule 5.4 as a statement: the form that each operation asks of a request, written out operation
-- by operation.
use Rattle.std.specs.Prelude.{◌≡◌, ◌<◌, ◌≤◌, ℕ}
use Rattle.model.specs.Effect.Places.{draft_sort, object_sort}
use Rattle.model.specs.Level.{level_count, role_sets}
use Rattle.model.specs.Request.Operations.{Op, number_of, to_acknowledge, to_authorised, to_clear, to_clearance, to_copy, to_create}
use Rattle.model.specs.Request.Operations.{to_current, to_delete, to_device_level, to_edit, to_grant, to_level, to_login, to_logout, to_mark}
use Rattle.model.specs.Request.Operations.{to_maximum, to_move, to_release, to_revoke, to_show}
use Rattle.model.specs.Request.Words.{Reference, Request, name_count}
use Rattle.model.specs.Tables.Words.{operation_count, position_count, sum_most, user_count, who_most}

-- Rule 5.1: the request names the operation o by its number.
abbrev pub Names : Request → Op → Type 0
Names q o = q.operation ≡ number_of o

-- Rule 5.4: a reference that an operation takes has 1 to 4 names, and its name words after them are zero;
abbrev pub Named : Reference → Type 0
Named r = (1 ≤ r.length) × (r.length ≤ name_count) × ((i : ℕ) → i < name_count → r.length ≤ i → r.name i ≡ 0)

-- one that it does not take is zero, its length and all its name words.
abbrev pub Unnamed : Reference → Type 0
Unnamed r = (r.length ≡ 0) × ((i : ℕ) → i < name_count → r.name i ≡ 0)

-- the reference at position k, where the first n are taken
abbrev pub Referred : ℕ → ℕ → Reference → Type 0
Referred k n r = (k ≤ n → Named r) × (n < k → Unnamed r)

-- Rules 6.1 to 6.20: how many references each operation takes.
abbrev pub taken : Op → ℕ
taken to_create = 1
taken to_delete = 1
taken to_move = 2
taken to_edit = 1
taken to_copy = 2
taken to_level = 1
taken to_mark = 1
taken to_grant = 1
taken to_revoke = 1
taken to_show = 1
taken to_clear = 0
taken to_login = 1
taken to_logout = 0
taken to_current = 0
taken to_clearance = 0
taken to_authorised = 0
taken to_maximum = 1
taken to_device_level = 1
taken to_release = 1
taken to_acknowledge = 0

-- Rule 5.4: a number from one up to another.
abbrev pub Between : ℕ → ℕ → ℕ → Type 0
Between low high n = (low ≤ n) × (n ≤ high)

-- Rules 6.1 to 6.20: what each operation asks of the arguments a, b and c. One that it does not list is zero. Of one that may be any word
-- nothing is said.
abbrev pub InRange : Op → ℕ → ℕ → ℕ → Type 0
InRange to_create a b c = Between object_sort draft_sort a × ((b < level_count) × (c ≡ 0))
InRange to_delete a b c = (a ≡ 0) × ((b ≡ 0) × (c ≡ 0))
InRange to_move a b c = (a ≡ 0) × ((b ≡ 0) × (c ≡ 0))
InRange to_edit a b c = (b ≡ 0) × (c ≡ 0)
InRange to_copy a b c = (a ≡ 0) × ((b ≡ 0) × (c ≡ 0))
InRange to_level a b c = (a < level_count) × ((b ≡ 0) × (c ≡ 0))
InRange to_mark a b c = (a ≤ 1) × ((b ≡ 0) × (c ≡ 0))
InRange to_grant a b c = Between 1 who_most a × (Between 1 operation_count b × Between 1 position_count c)
InRange to_revoke a b c = Between 1 who_most a × (Between 1 operation_count b × Between 1 position_count c)
InRange to_show a b c = Between 1 sum_most a × ((b ≡ 0) × (c ≡ 0))
InRange to_clear a b c = (a ≡ 0) × ((b ≡ 0) × (c ≡ 0))
InRange to_login a b c = (a ≡ 0) × ((b ≡ 0) × (c ≡ 0))
InRange to_logout a b c = (a ≡ 0) × ((b ≡ 0) × (c ≡ 0))
InRange to_current a b c = Between 1 user_count a × ((b < role_sets) × (c ≡ 0))
InRange to_clearance a b c = Between 1 user_count a × ((b < level_count) × (c ≡ 0))
InRange to_authorised a b c = Between 1 user_count a × ((b < role_sets) × (c ≡ 0))
InRange to_maximum a b c = (a < level_count) × ((b ≡ 0) × (c ≡ 0))
InRange to_device_level a b c = (a < level_count) × ((b ≡ 0) × (c ≡ 0))
InRange to_release a b c = (a ≡ 0) × ((b ≡ 0) × (c ≡ 0))
InRange to_acknowledge a b c = c ≡ 0

-- Rules 5.4 and 7.5: a request in the form that the operation o asks.
pub record Fits (o : Op) (q : Request) : Type 0 where
  -- a reference has names where the operation takes it, and none where it does not
  pub first : Referred 1 (taken o) q.first
  pub second : Referred 2 (taken o) q.second
  pub arguments : InRange o q.a q.b q.c
  -- word 15 has no use
  pub last : q.last ≡ 0
