-- Document 02, M-100; rule 15.1: the words of a run are requests one after another.
use Rattle.std.specs.Prelude.{List, [], ◌∷◌, ◌≡◌, ◌/◌, suc, zero, ℕ, drop, length, take}
use Rattle.model.specs.Basics.Together.{together}
use Rattle.model.specs.Request.Words.{request_words}

-- every request has sixteen words
abbrev pub AllSixteen : List (List ℕ) → Type 0
AllSixteen [] = Unit {0}
AllSixteen (q ∷ qs) = (length q ≡ request_words) × AllSixteen qs

-- Rule 15.1: the words w are those of the requests qs, in order.
pub record Requests (w : List ℕ) (qs : List (List ℕ)) : Type 0 where
  pub words : w ≡ together qs
  pub sixteen : AllSixteen qs

-- how many requests the words hold
abbrev pub request_count : List ℕ → ℕ
request_count w = length w / request_words

-- the first n requests of the words
unfoldable pub first_requests : ℕ → List ℕ → List (List ℕ)
first_requests zero w = []
first_requests (suc n) w = take request_words w ∷ first_requests n (drop request_words w)

-- all of them
abbrev pub requests_in : List ℕ → List (List ℕ)
requests_in w = first_requests (request_count w) w
