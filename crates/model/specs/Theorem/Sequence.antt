-- Document 01, "The refusal ladder"; rules 8.2 and 8.3: what a user's notice says after any number of steps on words. It holds the first refusal 5 to 16
-- of that user since the last accepted acknowledgement, with its operation, and counts all of them. The laws are in Theorem/SequenceLaws.
use Rattle.std.specs.Prelude.{Bool, ◌&&◌, List, ◌≢◌, ◌⊎◌, ◌≡◌, ◌+◌, ◌<◌, ◌≤◌, suc, zero, ℕ, eqb, leb}
use Rattle.model.specs.Basics.Choice.{pick}
use Rattle.model.specs.Request.Form.{Names}
use Rattle.model.specs.Request.Operations.{to_acknowledge}
use Rattle.model.specs.Request.Step.{after_of, answer_of}
use Rattle.model.specs.Request.Words.{request_of}
use Rattle.model.specs.Tables.Layout.{tables_of}
use Rattle.model.specs.Tables.Words.{Tables, first_noticed, held, held_op, last_noticed, missed, missed_most, operation_count}
use Rattle.model.specs.Request.Refusals as refusal

-- m steps one after another: request i, of any length, is put to what the steps before it have left. What stands beyond step m is not spoken of.
pub record Steps (m : ℕ) (tables requests : ℕ → List ℕ) (answers : ℕ → ℕ) : Type 0 where
  pub answered : (i : ℕ) → i < m → answers i ≡ answer_of (tables i) (requests i)
  pub left : (i : ℕ) → i < m → tables (suc i) ≡ after_of (tables i) (requests i)

-- What a notice holds: a refusal, and the operation that was refused.
pub record Held : Type 0 where
  pub refusal : ℕ
  pub operation : ℕ

-- what is held for user u
abbrev pub held_for : Tables → ℕ → Held
held_for d u = record { refusal = d.user u held; operation = d.user u held_op }

-- no refusal is held
abbrev pub none_held : Held
none_held = record { refusal = 0; operation = 0 }

-- The notice of user u is empty: nothing is held, and nothing was missed.
abbrev pub NoNotice : Tables → ℕ → Type 0
NoNotice d u = (held_for d u ≡ none_held) × (d.user u missed ≡ 0)

-- Rule 8.2: the operation that a notice keeps of a request for number n: n itself, or 0 where it is not 1 to 20.
abbrev pub operation_kept : ℕ → ℕ
operation_kept n = pick (leb 1 n && leb n operation_count) n 0

-- Rule 8.2: the number missed that n refusals make: n, or 65,535 where it is more.
abbrev pub missed_for : ℕ → ℕ
missed_for n = pick (leb n missed_most) n missed_most

module _ (requests : ℕ → List ℕ) (answers : ℕ → ℕ) (u : ℕ) where
  -- Request i is of user u, and was refused with 5 to 16.
  abbrev pub Refused : ℕ → Type 0
  Refused i = ((request_of (requests i)).user ≡ u) × (first_noticed ≤ answers i) × (answers i ≤ last_noticed)

  -- its test
  abbrev pub refused_test : ℕ → Bool
  refused_test i = eqb (request_of (requests i)).user u && (leb first_noticed (answers i) && leb (answers i) last_noticed)

  -- Request i is an acknowledgement of user u, and was accepted.
  abbrev pub Acknowledged : ℕ → Type 0
  Acknowledged i = ((request_of (requests i)).user ≡ u) × (Names (request_of (requests i)) to_acknowledge) × (answers i ≡ refusal.accepted)

  -- how many of the k requests from number n on are so refused
  unfoldable pub refusals : ℕ → ℕ → ℕ
  refusals n zero = 0
  refusals n (suc k) = pick (refused_test (n + k)) (suc (refusals n k)) (refusals n k)

  -- Request j is the first from number n on that is so refused.
  pub record FirstRefused (n j : ℕ) : Type 0 where
    pub from : n ≤ j
    pub itself : Refused j
    pub earlier : (i : ℕ) → n ≤ i → i < j → Refused i → ⊥

-- what the refusal of request j leaves held where nothing was
abbrev pub left_by : (requests : ℕ → List ℕ) (answers : ℕ → ℕ) → ℕ → Held
left_by requests answers j = record { refusal = answers j; operation = operation_kept (request_of (requests j)).operation }

-- Rules 8.2 and 8.3: the notice of user u after m steps.
pub record Noticed (tables requests : ℕ → List ℕ) (answers : ℕ → ℕ) (u m : ℕ) : Type 0 where
  -- the requests that count are those from number `since` on, and there are so many of them
  pub since : ℕ
  pub later : ℕ
  pub parts : since + later ≡ m
  -- they begin at the start, or right after an acknowledgement of u's that was accepted
  pub begins : (since ≡ 0) ⊎ ((j : ℕ) × (since ≡ suc j) × Acknowledged requests answers u j)
  -- and that one is the last
  pub none : (i : ℕ) → since ≤ i → i < m → Acknowledged requests answers u i → ⊥
  -- the acknowledgement has left the notice empty
  pub emptied : since ≢ 0 → NoNotice (tables_of (tables since)) u
  -- what was held at the start is held still
  pub stays : (tables_of (tables since)).user u held ≢ 0 → held_for (tables_of (tables m)) u ≡ held_for (tables_of (tables since)) u
  -- else the first refusal since then is held, with its operation
  pub first : (tables_of (tables since)).user u held ≡ 0 → (j : ℕ) → j < m → FirstRefused requests answers u since j
      → held_for (tables_of (tables m)) u ≡ left_by requests answers j
  -- and where there was none, nothing is
  pub quiet : (tables_of (tables since)).user u held ≡ 0 → ((i : ℕ) → since ≤ i → i < m → Refused requests answers u i → ⊥)
      → NoNotice (tables_of (tables m)) u
  -- the number missed is that of all refusals since then, added to what was missed at the start
  pub missed : (tables_of (tables m)).user u missed ≡ missed_for ((tables_of (tables since)).user u missed + refusals requests answers u since later)
