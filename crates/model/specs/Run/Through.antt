-- Document 02, M-100; rules 15.3 to 15.5: requests one after another, each answered from the tables that it finds.
use Rattle.std.specs.Prelude.{List, [], ◌++◌, ◌∷◌, ◌≡◌, ℕ, get_or, length}
use Rattle.model.specs.Request.Step.{Settles, after_of, answer_of}
use Rattle.model.specs.Theorem.Sequence.{Steps}

-- Through t qs ns r: put to the tables t in order, the requests qs are answered with ns, and leave r. Each answer is a step's on the tables that its request
-- finds, and the next request finds what that step leaves; a refusal is an answer like any other.
pub data Through : List ℕ → List (List ℕ) → List ℕ → List ℕ → Type 0 where
  end : {t : List ℕ} → Through t [] [] t
  next : {t q r u : List ℕ} {a : ℕ} {qs : List (List ℕ)} {ns : List ℕ} → Settles t q a r → Through r qs ns u → Through t (q ∷ qs) (a ∷ ns) u

-- Rule 15.3: the same as numbered steps: request i finds what the steps before it have left.
pub record AsSteps (t : List ℕ) (qs : List (List ℕ)) (ns r : List ℕ) : Type 0 where
  pub tables : ℕ → List ℕ
  pub starts : tables 0 ≡ t
  pub steps : Steps (length qs) tables (λ i. get_or qs i []) (λ i. get_or ns i 0)
  pub ends : tables (length qs) ≡ r

-- Rule 15.5: the requests ps and then qs, from what ps left, with the answers ns to all of them.
pub record Halves (t : List ℕ) (ps qs : List (List ℕ)) (ns u : List ℕ) : Type 0 where
  pub first : List ℕ
  pub second : List ℕ
  pub between : List ℕ
  pub answers : ns ≡ first ++ second
  pub before : Through t ps first between
  pub behind : Through between qs second u

-- Rule 15.5, Pieces t ps ns r: any number of pieces of requests, each put to what the piece before it left.
pub data Pieces : List ℕ → List (List (List ℕ)) → List ℕ → List ℕ → Type 0 where
  no_piece : {t : List ℕ} → Pieces t [] [] t
  piece : {t r u : List ℕ} {qs : List (List ℕ)} {ps : List (List (List ℕ))} {ns ms : List ℕ} → Through t qs ns r → Pieces r ps ms u
      → Pieces t (qs ∷ ps) (ns ++ ms) u

-- the answers of the steps, one after another
unfoldable pub answers_to : List ℕ → List (List ℕ) → List ℕ
answers_to t [] = []
answers_to t (q ∷ qs) = answer_of t q ∷ answers_to (after_of t q) qs
