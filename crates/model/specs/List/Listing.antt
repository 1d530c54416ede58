-- Document 01, "The refusal ladder"; rules 10.1 to 10.4 and 10.7: the disclosure list of any words, any user's number and any room.
use Rattle.std.specs.Prelude.{Bool, ◌||◌, List, [], ◌++◌, ◌∷◌, ◌⊎◌, ◌≡◌, ◌*◌, ℕ, eqb, leb, drop, get_or, length}
use Rattle.model.specs.Basics.Choice.{pick}
use Rattle.model.specs.List.Complete.{Complete}
use Rattle.model.specs.Request.Ladder.{not_logged_on, unknown_user}
use Rattle.model.specs.Request.Operations.{number_of, to_show}
use Rattle.model.specs.Request.Step.{answer_of}
use Rattle.model.specs.Request.Words.{request_of}
use Rattle.model.specs.State.Check.{check}
use Rattle.model.specs.Tables.Layout.{tables_of}
use Rattle.model.specs.Request.Refusals as refusal

-- Rule 10.4: an entry is five words, the length and four names; those past the length are zero.
abbrev pub entry_words : ℕ
entry_words = 5

abbrev pub entry : List ℕ → List ℕ
entry r = length r ∷ get_or r 0 0 ∷ get_or r 1 0 ∷ get_or r 2 0 ∷ get_or r 3 0 ∷ []

-- the words of a list, entry after entry
unfoldable pub entries : List (List ℕ) → List ℕ
entries [] = []
entries (r ∷ rs) = entry r ++ entries rs

-- Rule 10.3: value and label are what a reader needs to see.
abbrev pub value_and_label : ℕ
value_and_label = 3

-- the sixteen words by which the user u asks to show what the reference r names
unfoldable pub showing : ℕ → List ℕ → List ℕ
showing u r = u ∷ number_of to_show ∷ (entry r ++ (0 ∷ 0 ∷ 0 ∷ 0 ∷ 0 ∷ value_and_label ∷ 0 ∷ 0 ∷ 0 ∷ []))

-- Rule 10.3: the step accepts that request, or refuses it for want of room on the screen and for nothing else.
abbrev pub Opens : List ℕ → ℕ → List ℕ → Type 0
Opens t u r = (answer_of t (showing u r) ≡ refusal.accepted) ⊎ (answer_of t (showing u r) ≡ refusal.no_room)

unfoldable pub opens : List ℕ → ℕ → List ℕ → Bool
opens t u r = eqb (answer_of t (showing u r)) refusal.accepted || eqb (answer_of t (showing u r)) refusal.no_room

-- Rule 10.2: the lowest of 1, 2, 3, 4 and 6 that applies, or 0. Rungs 4 and 6 ask only who requests, so no name is needed for them.
unfoldable pub barred : List ℕ → ℕ → ℕ
barred t u =
    pick (eqb (check t) refusal.accepted)
    (pick (unknown_user (tables_of t) (request_of (showing u []))) refusal.unknown_requester
    (pick (not_logged_on (tables_of t) (request_of (showing u []))) refusal.not_logged_on refusal.accepted))
    (check t)

-- Rules 10.2 and 7.17: the answer where b is that refusal, l the complete list and n the words of room,
abbrev pub list_answer : ℕ → List (List ℕ) → ℕ → ℕ
list_answer b l n = pick (eqb b refusal.accepted) (pick (leb (entry_words * length l) n) refusal.accepted refusal.too_short) b

-- and its number: the entries written or needed, and none with another refusal.
abbrev pub list_number : ℕ → List (List ℕ) → ℕ
list_number b l = pick (eqb b refusal.accepted) (length l) 0

-- Rule 10.7: with 0 the entries stand at the front and the words after them stay; with a refusal all stay.
abbrev pub room_after : ℕ → List (List ℕ) → List ℕ → List ℕ
room_after a l room = pick (eqb a refusal.accepted) (entries l ++ drop (length (entries l)) room) room

-- Rule 10: what the list is, said of any answer a, any number n and any words r in the room afterwards.
pub record Lists (t : List ℕ) (u : ℕ) (room : List ℕ) (a n : ℕ) (r : List ℕ) : Type 0 where
  pub list : List (List ℕ)
  pub complete : Complete (opens t u) list
  pub answer : a ≡ list_answer (barred t u) list (length room)
  pub number : n ≡ list_number (barred t u) list
  pub words : r ≡ room_after a list room
