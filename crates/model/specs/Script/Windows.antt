-- Document 01, "Request text"; rules 12.2 to 12.4 for a script that arrives piece by piece: a window holds what has arrived and is not answered
-- yet, and what the program writes of all windows together is what is written of the whole script (`Script/WindowLaws`).
use Rattle.std.specs.Prelude.{Bool, ◌&&◌, ◌||◌, false, not, true, List, [], ◌++◌, ◌∷◌, ◌≢◌, ◌⊎◌, ◌≡◌, ◌-◌, suc, zero, ℕ, eqb, ltb, length}
use Rattle.model.specs.Basics.Choice.{pick}
use Rattle.model.specs.Request.Step.{after_of}
use Rattle.model.specs.Script.Reports.{Report, report, report_text, unread}
use Rattle.model.specs.Text.Unfinished.{unfinished}
use Rattle.model.specs.Text.Wording.{Lines, bad_line, lines, read_seven, sixteen}

-- What is done with a window: the reports, the tables afterwards, the bytes that are left, and the line at which a request could not be
-- read, 0 where all could.
pub record Ran : Type 0 where
  pub reports : List Report
  pub tables : List ℕ
  pub rest : List ℕ
  pub line : ℕ

abbrev pub stopped : List ℕ → List ℕ → Ran
stopped t s = record { reports = []; tables = t; rest = s; line = 0 }

abbrev pub broken : List ℕ → List ℕ → ℕ → Ran
broken t s k = record { reports = unread ∷ []; tables = t; rest = s; line = k }

abbrev pub preceded : Report → Ran → Ran
preceded r n = record { reports = r ∷ n.reports; tables = n.tables; rest = n.rest; line = n.line }

-- Three lines with the largest numbers have 52 bytes: with less room for reports no request is begun.
abbrev pub report_bytes : ℕ
report_bytes = 52

-- whether nothing more is begun in a window with the bytes s left and room for n
unfoldable pub waiting : ℕ → List ℕ → Bool
waiting n s = ltb n report_bytes || eqb (length s) 0

-- One request of a window, where reading gave l: its report and then the others, by `on`; or that it cannot be read, unless it may be unfinished.
-- `last` says that nothing will follow the window.
abbrev pub onward : (List ℕ → List ℕ → ℕ → Ran) → List ℕ → List ℕ → Bool → ℕ → Lines → Ran
onward on t s last n (lines m x) =
    preceded (report t (sixteen m)) (on (after_of t (sixteen m)) x (n - length (report_text (report t (sixteen m)))))
onward on t s last n (bad_line k) = pick (not last && unfinished s) (stopped t s) (broken t s k)

-- At most k requests of a window, from the tables t on, with room for n bytes of reports.
unfoldable pub run : ℕ → Bool → List ℕ → List ℕ → ℕ → Ran
run zero last t s n = stopped t s
run (suc k) last t s n = pick (waiting n s) (stopped t s) (onward (run k last) t s last n (read_seven s))

-- All requests of a window: it has no more of them than bytes.
unfoldable pub ran : List ℕ → List ℕ → Bool → ℕ → Ran
ran t s last n = run (length s) last t s n

-- Fed n t w cs rs: with room for n bytes of reports at a time, the program holds the bytes w, gets the pieces cs one after another and then finds
-- the end of the script; rs is all that it reports. Each time it appends what came to what it holds, runs that, and keeps the rest; it ends with a
-- request that could not be read, or at the end of the script with nothing left.
pub data Fed (n : ℕ) : List ℕ → List ℕ → List (List ℕ) → List Report → Type 0 where
  piece : {t w c : List ℕ} {cs : List (List ℕ)} {rs : List Report} → (ran t (w ++ c) false n).line ≡ 0
      → Fed n (ran t (w ++ c) false n).tables (ran t (w ++ c) false n).rest cs rs → Fed n t w (c ∷ cs) ((ran t (w ++ c) false n).reports ++ rs)
  over : {t w c : List ℕ} {cs : List (List ℕ)} → (ran t (w ++ c) false n).line ≢ 0 → Fed n t w (c ∷ cs) (ran t (w ++ c) false n).reports
  again : {t w : List ℕ} {rs : List Report} → (ran t w true n).line ≡ 0 → (ran t w true n).rest ≢ []
      → Fed n (ran t w true n).tables (ran t w true n).rest [] rs → Fed n t w [] ((ran t w true n).reports ++ rs)
  done : {t w : List ℕ} → ((ran t w true n).line ≢ 0) ⊎ ((ran t w true n).rest ≡ []) → Fed n t w [] (ran t w true n).reports
