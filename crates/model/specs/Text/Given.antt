-- Document 01, "Request text"; rules 11.3 to 11.5: which words a text gives, and which words have a text, said without the writer.
use Rattle.std.specs.Prelude.{List, [], ◌≡◌, ◌≤◌, ℕ, get_or}
use Rattle.model.specs.Text.Numbers.{most}
use Rattle.model.specs.Text.Wording.{Wording, lines, read_text, sixteen}

-- every word is one of 32 bits
abbrev pub Small : List ℕ → Type 0
Small w = (i : ℕ) → get_or w i 0 ≤ most

-- Rule 11.4: the text s gives the words w: it is read to its end, and they are those of its wording.
pub record Gives (s w : List ℕ) : Type 0 where
  pub wording : Wording
  pub read : read_text s ≡ lines wording []
  pub words : sixteen wording ≡ w

-- Rule 11.3: the words w have a text: some text gives them.
pub record HasText (w : List ℕ) : Type 0 where
  pub text : List ℕ
  pub gives : Gives text w
