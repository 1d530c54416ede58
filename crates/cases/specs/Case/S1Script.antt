-- Document 01, "Case state S1"; rule 13: the script of S1 and its whole output, byte for byte: user 2 shows 4.1 and then 5, each with a = 3.
use Rattle.std.specs.Prelude.{Bool, ◌&&◌, true, List, [], ◌∷◌, ◌≡◌, refl, ◌≤◌, suc, zero, ℕ, T, leb, get_or}
use Rattle.std.proofs.Common.{◌∙◌, ap, ap₂, subst, sym, arith}
use Rattle.model.specs.Basics.Agree.{agrees_le}
use Rattle.model.specs.Basics.TestLaws.{T-l, T-r}
use Rattle.cases.specs.Case.Opened.{opened}
use Rattle.cases.specs.Case.S1.{s1, s1_sheet}
use Rattle.cases.specs.Case.S1Words.{s1_entities, s1_users, s1_words, s1_words_after, s1_words_length, s1_words_tables}
use Rattle.model.specs.Request.After.{after}
use Rattle.model.specs.Request.Step.{after_of}
use Rattle.model.specs.Request.Words.{request_of}
use Rattle.model.proofs.Script.ReportLaws.{report_told, told}
use Rattle.model.specs.Script.Reports.{Report, output, report, report_text, untold}
use Rattle.model.specs.Script.Runs.{Outputs, stay, turn, whole}
use Rattle.model.specs.Script.RunsLaws.{outputs_unique}
use Rattle.model.specs.Script.State.{bytes_of, state_of}
use Rattle.model.proofs.Script.StateLaws.{state_bytes}
use Rattle.model.specs.Text.Lines.{line, read_line}
use Rattle.model.specs.Text.Numbers.{digits, most}
use Rattle.model.specs.Text.Wording.{Wording, lines, read_seven, sixteen}
use Rattle.model.proofs.Theorem.Steps.{after_of_length}

-- the second request, line by line: user=2, op=10, ref=5, ref2=, a=3, b=0, c=0
abbrev s1_second : List ℕ
s1_second =
    117 ∷ 115 ∷ 101 ∷ 114 ∷ 61 ∷ 50 ∷ 10
    ∷ 111 ∷ 112 ∷ 61 ∷ 49 ∷ 48 ∷ 10
    ∷ 114 ∷ 101 ∷ 102 ∷ 61 ∷ 53 ∷ 10
    ∷ 114 ∷ 101 ∷ 102 ∷ 50 ∷ 61 ∷ 10
    ∷ 97 ∷ 61 ∷ 51 ∷ 10
    ∷ 98 ∷ 61 ∷ 48 ∷ 10
    ∷ 99 ∷ 61 ∷ 48 ∷ 10
    ∷ []

-- the script: user=2, op=10, ref=4.1, ref2=, a=3, b=0, c=0, and then the second
abbrev pub s1_script : List ℕ
s1_script =
    117 ∷ 115 ∷ 101 ∷ 114 ∷ 61 ∷ 50 ∷ 10
    ∷ 111 ∷ 112 ∷ 61 ∷ 49 ∷ 48 ∷ 10
    ∷ 114 ∷ 101 ∷ 102 ∷ 61 ∷ 52 ∷ 46 ∷ 49 ∷ 10
    ∷ 114 ∷ 101 ∷ 102 ∷ 50 ∷ 61 ∷ 10
    ∷ 97 ∷ 61 ∷ 51 ∷ 10
    ∷ 98 ∷ 61 ∷ 48 ∷ 10
    ∷ 99 ∷ 61 ∷ 48 ∷ 10
    ∷ s1_second

-- the output: answer=9, held=9, missed=1, answer=0, held=9, missed=1
abbrev pub s1_output : List ℕ
s1_output =
    97 ∷ 110 ∷ 115 ∷ 119 ∷ 101 ∷ 114 ∷ 61 ∷ 57 ∷ 10
    ∷ 104 ∷ 101 ∷ 108 ∷ 100 ∷ 61 ∷ 57 ∷ 10
    ∷ 109 ∷ 105 ∷ 115 ∷ 115 ∷ 101 ∷ 100 ∷ 61 ∷ 49 ∷ 10
    ∷ 97 ∷ 110 ∷ 115 ∷ 119 ∷ 101 ∷ 114 ∷ 61 ∷ 48 ∷ 10
    ∷ 104 ∷ 101 ∷ 108 ∷ 100 ∷ 61 ∷ 57 ∷ 10
    ∷ 109 ∷ 105 ∷ 115 ∷ 115 ∷ 101 ∷ 100 ∷ 61 ∷ 49 ∷ 10
    ∷ []

-- what the two requests say
abbrev asks_to_show : List ℕ → Wording
asks_to_show r = record { user = 2; operation = 10; first = r; second = []; a = 3; b = 0; c = 0 }

abbrev first : Wording
first = asks_to_show (4 ∷ 1 ∷ [])

abbrev second : Wording
second = asks_to_show (5 ∷ [])

first_read : read_seven s1_script ≡ lines first s1_second
unfolding read_seven read_line
first_read = refl

second_read : read_seven s1_second ≡ lines second []
unfolding read_seven read_line
second_read = refl

-- the two reports
abbrev reported : ℕ → Report
reported n = record { answer = n; held = 9; missed = 1 }

first_told : told s1 (request_of (sixteen first)) ≡ reported 9
unfolding opened s1 s1_sheet sixteen untold
first_told = refl

second_told : told (after s1 (request_of (sixteen first))) (request_of (sixteen second)) ≡ reported 0
unfolding opened s1 s1_sheet sixteen untold
second_told = refl

first_reported : report s1_words (sixteen first) ≡ reported 9
unfolding sixteen
first_reported = report_told s1_words (sixteen first) s1 s1_words_length refl s1_words_tables ∙ first_told

second_reported : report (after_of s1_words (sixteen first)) (sixteen second) ≡ reported 0
unfolding sixteen
second_reported =
    report_told (after_of s1_words (sixteen first)) (sixteen second) (after s1 (request_of (sixteen first)))
    (after_of_length s1_words (sixteen first) ∙ s1_words_length) refl (s1_words_after (sixteen first) refl)
    ∙ second_told

-- their six lines
output_is : output (reported 9 ∷ reported 0 ∷ []) ≡ s1_output
unfolding output report_text line digits
output_is = refl

-- Rule 13: of S1 and this script the program writes these six lines,
pub s1_script_writes : Outputs s1_words s1_script s1_output
s1_script_writes = record {
  reports = report s1_words (sixteen first) ∷ report (after_of s1_words (sixteen first)) (sixteen second) ∷ [];
  answered = whole (turn first_read (turn second_read stay));
  written = sym (ap output (ap₂ (λ r p. r ∷ p ∷ []) first_reported second_reported) ∙ output_is);
}

-- and nothing else;
pub s1_script_only : (o : List ℕ) → Outputs s1_words s1_script o → o ≡ s1_output
s1_script_only o w = outputs_unique w s1_script_writes

-- ---- S1 as a file

-- every word fits in four bytes
abbrev fitting : List ℕ → Bool
fitting [] = true
fitting (w ∷ ws) = leb w most && fitting ws

fitting_at : (ws : List ℕ) → T (fitting ws) → (i : ℕ) → get_or ws i 0 ≤ most
fitting_at [] t i = omega arith
fitting_at (w ∷ ws) t zero = (agrees_le w most).to (T-l (leb w most) (fitting ws) t)
fitting_at (w ∷ ws) t (suc i) = fitting_at ws (T-r (leb w most) (fitting ws) t) i

s1_words_fitting : T (fitting s1_words)
unfolding s1_words s1_users s1_entities
s1_words_fitting = tt

pub s1_file : state_of (bytes_of s1_words) ≡ s1_words
s1_file = state_bytes s1_words s1_words_length (fitting_at s1_words s1_words_fitting)

-- and so of the file with the bytes of S1.
pub s1_file_writes : Outputs (state_of (bytes_of s1_words)) s1_script s1_output
s1_file_writes = subst (λ t. Outputs t s1_script s1_output) (sym s1_file) s1_script_writes

pub s1_file_only : (o : List ℕ) → Outputs (state_of (bytes_of s1_words)) s1_script o → o ≡ s1_output
s1_file_only o w = outputs_unique w s1_file_writes
