-- How a case is written: what was asked before and was answered, what is asked, the answer, and words that stand afterwards. A request is written as
-- its sixteen words. An answer is written as its number, here and in every table of cases, as document 01 writes it.
use Rattle.std.specs.Prelude.{Bool, ◌&&◌, false, true, List, [], ◌++◌, ◌∷◌, ◌*◌, ◌+◌, ◌-◌, ◌^◌, ℕ, eqb, length}
use Rattle.model.specs.Level.{compartment_count, level_count}
use Rattle.model.specs.Request.After.{after}
use Rattle.model.specs.Request.Ladder.{answer}
use Rattle.model.specs.Request.Words.{Request, name_count, request_of, request_words}
use Rattle.model.specs.Tables.Sheet.{padded}
use Rattle.model.specs.Tables.Words.{EntityWord, Tables, UserWord, held, held_op, missed, place_count}

-- a level, by its rank and its compartments; the lowest, which has neither, is written 0
abbrev pub at : ℕ → ℕ → ℕ
at r c = r * 2 ^ compartment_count + c

-- every compartment
abbrev pub every_compartment : ℕ
every_compartment = 2 ^ compartment_count - 1

-- the highest level: the highest rank, and every compartment
abbrev pub highest : ℕ
highest = level_count - 1

-- an entity of a sheet: kind, type, level, mark, value, releaser, maximum; its contents, what is shown of them, its triples
unfoldable pub item : ℕ → ℕ → ℕ → ℕ → ℕ → ℕ → ℕ → List ℕ → List ℕ → List ℕ → List ℕ
item k t l m v r x cs ss ts =
    k ∷ t ∷ l ∷ m ∷ v ∷ r ∷ x ∷ length cs ∷ (padded place_count cs ++ (padded place_count ss ++ ts))

-- an absent entity of a sheet
unfoldable pub gone : List ℕ
gone = []

-- the sixteen words of a request: user, operation, first and second reference, a, b, c
unfoldable pub asking : ℕ → ℕ → List ℕ → List ℕ → ℕ → ℕ → ℕ → List ℕ
asking u o r s a b c = u ∷ o ∷ length r ∷ (padded name_count r ++ (length s ∷ (padded name_count s ++ (a ∷ b ∷ c ∷ 0 ∷ []))))

-- the same as a request of the model
unfoldable pub ask : ℕ → ℕ → List ℕ → List ℕ → ℕ → ℕ → ℕ → Request
ask u o r s a b c = request_of (asking u o r s a b c)

-- a word that stands
pub data Stands : Type 0 where
  user_is : ℕ → UserWord → ℕ → Stands
  entity_is : ℕ → EntityWord → ℕ → Stands

unfoldable pub stand : List Stands → Tables → Bool
stand [] d = true
stand (user_is u f v ∷ ws) d = elim (eqb (d.user u f) v) [ true ↦ stand ws d | false ↦ false ]
stand (entity_is e f v ∷ ws) d = elim (eqb (d.entity e f) v) [ true ↦ stand ws d | false ↦ false ]

-- the words of a request, and the answer that they get
infix 70 ◌gets◌
pub data Exchange : Type 0 where
  ◌gets◌ : List ℕ → ℕ → Exchange

-- requests one after another with their answers, and the words that stand after the last of them
pub record Case : Type 0 where
  pub exchanges : List Exchange
  pub standing : List Stands

-- what was asked before and what it got; what is asked and what it gets; the words that then stand
unfoldable pub expect : List Exchange → List ℕ → ℕ → List Stands → Case
expect es q n ws = record { exchanges = es ++ (q gets n ∷ []); standing = ws }

-- the requester's first refusal: the notice has its number and the operation, and counts one; then the words that stand besides
unfoldable pub noted : List ℕ → ℕ → List Stands → Case
noted q n ws =
    let u = (request_of q).user in
    expect [] q n (user_is u held n ∷ user_is u held_op (request_of q).operation ∷ user_is u missed 1 ∷ ws)

-- every request gets its answer, each on what the one before it left, and at the end the words stand; the state is handed on, so that what was
-- computed of it is found again
unfoldable pub passes_at : Tables → List Exchange → List Stands → Bool
passes_at d [] ws = stand ws d
passes_at d (q gets n ∷ es) ws = eqb (answer d (request_of q)) n && passes_at (after d (request_of q)) es ws

unfoldable pub all_pass : Tables → List Case → Bool
all_pass d [] = true
all_pass d (c ∷ cs) = elim (passes_at d c.exchanges c.standing) [ true ↦ all_pass d cs | false ↦ false ]

-- the requests of a case, and the answers that they get
abbrev pub asked : List Exchange → List (List ℕ)
asked [] = []
asked (q gets n ∷ es) = q ∷ asked es

abbrev pub gotten : List Exchange → List ℕ
gotten [] = []
gotten (q gets n ∷ es) = n ∷ gotten es

-- every request has sixteen words
abbrev pub in_sixteen : List Exchange → Bool
in_sixteen [] = true
in_sixteen (q gets n ∷ es) = eqb (length q) request_words && in_sixteen es

abbrev pub all_in_sixteen : List Case → Bool
all_in_sixteen [] = true
all_in_sixteen (c ∷ cs) = in_sixteen c.exchanges && all_in_sixteen cs
