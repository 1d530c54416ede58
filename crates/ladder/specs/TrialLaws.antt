-- What makes a trial of new tables: they are secure and were set, or are not and the words are as they were.
use Rattle.std.specs.Prelude.{false, true, List, ◌≡◌, ℕ}
use Rattle.std.proofs.Common.{arith}
use Rattle.model.specs.Request.Refusals as refusal
use Rattle.model.specs.State.Check.{secure_test}
use Rattle.model.specs.Tables.Layout.{tables_of}
use Rattle.model.specs.Tables.Words.{Tables}
use Rattle.ladder.specs.Trial.{Tried}

pub tried_set : (new : Tables) (t s : List ℕ) → true ≡ secure_test new → tables_of s ≡ new → Tried new t refusal.accepted s
tried_set new t s h e = record { answer = rw (← h); kept = λ z. e; unchanged = λ z. absurd (omega arith) }

pub tried_left : (new : Tables) (t n : List ℕ) → false ≡ secure_test new → n ≡ t → Tried new t refusal.level_or_roles n
tried_left new t n h b = record { answer = rw (← h); kept = λ z. absurd (omega arith); unchanged = λ z. b }
