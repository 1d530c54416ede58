-- Document 01, "The refusal ladder" and "How the definitions are read"; rules 8.2, 8.3 and 9.8: what some theorems say, put in words of its own:
-- notices that stay, IDs on devices, and the tables after many requests.
use Rattle.std.specs.Prelude.{List, [], ◌∷◌, ◌≢◌, ◌⊎◌, ◌≡◌, ◌≤◌, ℕ}
use Rattle.std.proofs.Math.Option.{some}
use Rattle.model.specs.Request.After.{after}
use Rattle.model.specs.Request.Ladder.{answer}
use Rattle.model.specs.Request.Operations.{op_of, to_acknowledge}
use Rattle.model.specs.Request.Step.{after_of}
use Rattle.model.specs.Request.Words.{Request}
use Rattle.model.specs.Tables.Words.{Tables, devices, held, held_op, missed}
use Rattle.model.specs.Theorem.Definitions.{Both, NamedOpenly, ShowsId}
use Rattle.model.specs.Request.Refusals as refusal

-- the notice of user u is the same in both tables
abbrev pub SameNotice : Tables → Tables → ℕ → Type 0
SameNotice d d' u = (d'.user u held ≡ d.user u held) × (d'.user u held_op ≡ d.user u held_op) × (d'.user u missed ≡ d.user u missed)

-- Rule 8.2: what is held stays held, with its operation, and the number missed does not fall, until its user's acknowledgement is accepted.
pub record StillHeld (d d' : Tables) (x : ℕ) : Type 0 where
  pub refusal : d'.user x held ≡ d.user x held
  pub operation : d'.user x held_op ≡ d.user x held_op
  pub more : d.user x missed ≤ d'.user x missed

-- Rule 9.8 of every device: an ID newly shown, on whatever device, is on the requester's, and is one that the request names openly.
abbrev pub Ids : Tables → Request → Tables → Type 0
Ids d q d' = (v x : ℕ) → Both d d' x → ShowsId d' v x → ShowsId d v x ⊎ ((v ≡ devices d q.user) × NamedOpenly d q x)

-- the tables after a list of requests
unfoldable pub after_all : Tables → List Request → Tables
after_all d [] = d
after_all d (q ∷ qs) = after_all (after d q) qs

-- the words after a list of requests, each any words
unfoldable pub after_words : List ℕ → List (List ℕ) → List ℕ
after_words t [] = t
after_words t (q ∷ qs) = after_words (after_of t q) qs

-- along a list of requests from d on, no acknowledgement of user x is accepted
unfoldable pub Unacknowledged : Tables → ℕ → List Request → Type 0
Unacknowledged d x [] = Unit {0}
Unacknowledged d x (q ∷ qs) = (answer d q ≡ refusal.accepted → op_of q.operation ≡ some to_acknowledge → x ≢ q.user) × Unacknowledged (after d q) x qs
