-- Document 01, "Request text"; rules 11.1 to 11.3: which requests have a text, in the words of the rules: of a wording, and of sixteen words.
use Rattle.std.specs.Prelude.{List, [], ◌∷◌, ◌≡◌, ◌<◌, ◌≤◌, ℕ, length}
use Rattle.model.specs.Request.Words.{Request, name_count}
use Rattle.model.specs.Text.Numbers.{most}
use Rattle.model.specs.Text.Wording.{Wording}

-- every number of a list is one of 32 bits
abbrev pub AllFit : List ℕ → Type 0
AllFit [] = Unit {0}
AllFit (n ∷ ns) = (n ≤ most) × AllFit ns

-- Rule 11.2: a wording that can be written: its numbers have 32 bits, and no reference has more than four names.
pub record Written (m : Wording) : Type 0 where
  pub user : m.user ≤ most
  pub operation : m.operation ≤ most
  pub first : (length m.first ≤ name_count) × AllFit m.first
  pub second : (length m.second ≤ name_count) × AllFit m.second
  pub a : m.a ≤ most
  pub b : m.b ≤ most
  pub c : m.c ≤ most

-- each of these wordings can
abbrev pub AllWritten : List Wording → Type 0
AllWritten [] = Unit {0}
AllWritten (m ∷ ms) = Written m × AllWritten ms

-- Rule 11.3: words that a text has: no reference longer than four names, the name words after them zero, and word 15 zero.
pub record Textual (q : Request) : Type 0 where
  pub first_few : q.first.length ≤ name_count
  pub second_few : q.second.length ≤ name_count
  pub first_zeros : (i : ℕ) → i < name_count → q.first.length ≤ i → q.first.name i ≡ 0
  pub second_zeros : (i : ℕ) → i < name_count → q.second.length ≤ i → q.second.name i ≡ 0
  pub last_zero : q.last ≡ 0
