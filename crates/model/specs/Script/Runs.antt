-- Document 01, "Request text"; rules 12.2 to 12.4: a script is request after request, and each is answered by the tables that the requests before
-- it have left.
use Rattle.std.specs.Prelude.{List, [], ◌++◌, ◌∷◌, ◌≡◌, ◌<◌, ℕ, get_or, length, take}
use Rattle.model.specs.Request.Step.{after_of}
use Rattle.model.specs.Script.Reports.{Report, output, report, unread}
use Rattle.model.specs.Text.Textual.{AllWritten}
use Rattle.model.specs.Text.Wording.{Wording, bad_line, lines, read_seven, sixteen, text_of}
use Rattle.model.specs.Theorem.Statements.{after_words}

-- Runs t s rs t' s': from the tables t on, the script s is answered with rs as far as s', and then the tables are t'. A request's report is that of
-- the tables it finds, and the next request finds what it leaves.
pub data Runs : List ℕ → List ℕ → List Report → List ℕ → List ℕ → Type 0 where
  stay : {t s : List ℕ} → Runs t s [] t s
  turn : {t s x t' s' : List ℕ} {m : Wording} {rs : List Report} → read_seven s ≡ lines m x → Runs (after_of t (sixteen m)) x rs t' s'
      → Runs t s (report t (sixteen m) ∷ rs) t' s'

-- Rules 12.2 and 12.4: all of a script: to its end, or to the first request that cannot be read, which is answered 18 and is the last.
pub data Answered (t s : List ℕ) : List Report → Type 0 where
  whole : {t' : List ℕ} {rs : List Report} → Runs t s rs t' [] → Answered t s rs
  cut : {t' x : List ℕ} {b k : ℕ} {rs : List Report} → Runs t s rs t' (b ∷ x) → read_seven (b ∷ x) ≡ bad_line k → Answered t s (rs ++ (unread ∷ []))

-- Rule 12: what the program writes, o, of the tables t and the script s.
pub record Outputs (t s o : List ℕ) : Type 0 where
  pub reports : List Report
  pub answered : Answered t s reports
  pub written : o ≡ output reports

-- Rule 12.2: request texts one after another, and the words of the requests.
abbrev pub texts : List Wording → List ℕ
texts [] = []
texts (m ∷ ms) = text_of m ++ texts ms

abbrev pub requests : List Wording → List (List ℕ)
requests [] = []
requests (m ∷ ms) = sixteen m ∷ requests ms

-- Rule 12.3: a run is that of a list of wordings that have a text. Their texts stand one after another in front of the rest, report i is that of
-- request i on the tables which exactly the requests before it leave, and the tables at the end are those after all of them.
pub record Reported (t s : List ℕ) (rs : List Report) (t' s' : List ℕ) : Type 0 where
  pub wordings : List Wording
  pub written : AllWritten wordings
  pub text : s ≡ texts wordings ++ s'
  pub many : length rs ≡ length wordings
  pub each : (i : ℕ) → i < length rs → get_or rs i unread ≡ report (after_words t (take i (requests wordings))) (get_or (requests wordings) i [])
  pub after : t' ≡ after_words t (requests wordings)
