-- What the list promises of any words, any user's number and any room.
use Rattle.std.specs.Prelude.{List, Result, ℕ}
use Rattle.model.specs.List.Listing.{Lists}
use Rattle.names.specs.Refusals.{refused_no, told}
use Rattle.names.specs.declared.refusal.Refused.{Refused}

-- Rule 10: the answer and the count are the list's, and so are the words of the room afterwards.
abbrev pub Listing : List ℕ → ℕ → List ℕ → Result ℕ Refused → List ℕ → Type 0
Listing t u room a r = Lists t u room (refused_no a) (told a) r
