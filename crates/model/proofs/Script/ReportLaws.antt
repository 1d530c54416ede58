-- The laws of reports: how long they are, and that a report on words is what it is on the tables of those words.
use Rattle.std.specs.Prelude.{List, ◌++◌, ◌≡◌, ◌≤◌, ℕ, length}
use Rattle.std.proofs.Common.{arith, length-append}
use Rattle.model.specs.Basics.Choice.{pick}
use Rattle.model.specs.Request.After.{after}
use Rattle.model.specs.Request.Ladder.{answer}
use Rattle.model.specs.Request.Words.{Request, request_of, request_words}
use Rattle.model.specs.Script.Reports.{Report, answer_key, bare, held_key, missed_key, report, report_text, untold}
use Rattle.model.specs.Script.Windows.{report_bytes}
use Rattle.model.specs.Tables.Layout.{tables_of, word_count}
use Rattle.model.specs.Tables.Words.{Tables, held, missed}
use Rattle.model.specs.Text.LineLaws.{length_line}
use Rattle.model.specs.Text.Lines.{line}
use Rattle.model.specs.Text.NumberLaws.{length_most}
use Rattle.model.specs.Text.Numbers.{digits}
use Rattle.model.proofs.Theorem.Steps.{after_of_tables, answer_of_sized, sized_agrees}

-- a report has at most 52 bytes
pub report_length : (r : Report) → length (report_text r) ≤ report_bytes
unfolding report_text
report_length r =
    let a = digits r.answer in
    let h = digits r.held in
    let m = digits r.missed in
    rw (length-append (line answer_key a) (line held_key h ++ line missed_key m), length-append (line held_key h) (line missed_key m))
    (omega (
      arith,
      length_line answer_key a,
      length_line held_key h,
      length_line missed_key m,
      length_most r.answer,
      length_most r.held,
      length_most r.missed,
    ))

-- Rule 12.3: the report of a request on tables
abbrev pub told : Tables → Request → Report
told d q =
    pick (untold (answer d q))
    (bare (answer d q))
    (record { answer = answer d q; held = (after d q).user q.user held; missed = (after d q).user q.user missed })

-- is that on any words of these tables
pub report_told : (t q : List ℕ) (d : Tables) → length t ≡ word_count → length q ≡ request_words → tables_of t ≡ d → report t q ≡ told d (request_of q)
unfolding report
report_told t q d h g e =
    let s = (sized_agrees t q).from (h, g) in
    rw (answer_of_sized t q s, after_of_tables t q s, e)
