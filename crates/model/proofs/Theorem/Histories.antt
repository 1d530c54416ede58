-- Every finite history of requests from well-formed, secure tables ends in such tables, and so does each state of an endless one (Definitions 2 and 4).
use Rattle.std.specs.Prelude.{List, [], ◌∷◌, suc, zero, ℕ}
use Rattle.std.proofs.Common.{subst, sym}
use Rattle.model.specs.Request.After.{after}
use Rattle.model.specs.Request.Words.{Request}
use Rattle.model.specs.State.Secure.{Good}
use Rattle.model.specs.Tables.Words.{Tables}
use Rattle.model.specs.Theorem.Definitions.{History}
use Rattle.model.proofs.Theorem.Kept.{request_good}
use Rattle.model.specs.Theorem.Statements.{after_all}

pub history_good : (d : Tables) → Good d → (qs : List Request) → Good (after_all d qs)
unfolding after_all
history_good d g [] = g
history_good d g (q ∷ qs) = history_good (after d q) (request_good d g q) qs

-- Rule 9.4: every state of a history of the desk.
pub states_good : (start : Tables) → Good start → (tables : ℕ → Tables) (requests : ℕ → Request) → History after start tables requests → (n : ℕ)
    → Good (tables n)
states_good start g tables requests h zero = subst Good (sym h.starts) g
states_good start g tables requests h (suc n) =
    subst Good (sym (h.goes_on n)) (request_good (tables n) (states_good start g tables requests h n) (requests n))
