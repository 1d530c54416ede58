-- No second answer and no second tables satisfy what a public call promises; and what the step promises is the model's own statement of a
-- step, which names no code.
use Rattle.std.specs.Prelude.{List, ◌≡◌, refl, ◌%◌, ◌*◌, ◌+◌, ◌/◌, ◌<◌, ℕ, length}
use Rattle.std.proofs.Common.{◌∙◌, ap, sym, arith}
use Rattle.mms.specs.Contract.{Exports, Listing, Reading, ReadingTables, Running, Stepping, Writing, WritingTables, checking, exported, numbers}
use Rattle.mms.specs.declared.Answer.{Answer}
use Rattle.model.specs.List.Complete.{Complete}
use Rattle.model.specs.List.Listing.{barred, list_answer, list_number, opens, room_after}
use Rattle.model.proofs.List.ListingLaws.{lists_any, lists_small, lists_unique}
use Rattle.model.specs.Request.Step.{Settles, after_of, answer_of}
use Rattle.model.specs.Run.Run.{Run}
use Rattle.model.proofs.Run.RunLaws.{run_computed, run_unique}
use Rattle.model.proofs.Text.BothWays.{read_number_small, reads_unique, write_number_small, writes_unique}
use Rattle.model.proofs.Theorem.Unique.{settles, settles_unique}
use Rattle.tables_text.proofs.CallLaws.{reads_unique as tables-reads-unique, writes_unique as tables-writes-unique}
use Rattle.tables_text.proofs.LineMostLaws.{read_number_most}
use Rattle.tables_text.proofs.LongestCallLaws.{number_longest}

-- The state check has one answer.
pub check_unique : (t : List ℕ) (a b : Answer) → a ≡ checking t → b ≡ checking t → a ≡ b
check_unique t a b p q = p ∙ sym q

-- The step has one answer, and leaves one list of words.
pub step_unique : (t q : List ℕ) (a b : Answer) (r s : List ℕ) → Stepping t q a r → Stepping t q b s → (a ≡ b) × (r ≡ s)
step_unique t q a b r s x y = (x.answer ∙ sym y.answer, x.words ∙ sym y.words)

-- What the step promises is a step as the model states it,
pub step_settles : (t q : List ℕ) (a : Answer) (r : List ℕ) → Stepping t q a r → Settles t q a.no r
step_settles t q a r x = rw (x.answer, x.words) (settles t q)

-- and whatever the model calls a step is promised: there is no other.
pub settles_step : (t q : List ℕ) (a : Answer) (r : List ℕ) → a.number ≡ 0 → Settles t q a.no r → Stepping t q a r
settles_step t q a r z s =
    let u = settles_unique t q a.no (answer_of t q) r (after_of t q) s (settles t q) in
    record { answer = λ i. record { no = u.0 i; number = z i }; words = u.1 }

-- The run has one answer, and leaves one list of words in the tables and one in the room.
pub run_once : (t w room : List ℕ) (a b : Answer) (r s u v : List ℕ) → Running t w room a r s → Running t w room b u v → (a ≡ b) × (r ≡ u) × (s ≡ v)
run_once t w room a b r s u v x y = (x.answer ∙ sym y.answer, x.tables ∙ sym y.tables, x.answers ∙ sym y.answers)

-- What the run promises is a run as the model states it,
pub running_run : (t w room : List ℕ) (a : Answer) (r s : List ℕ) → Running t w room a r s → Run t w room a.no r s
running_run t w room a r s x = rw (x.answer, x.tables, x.answers) (run_computed t w room)

-- and whatever the model calls a run is promised: there is no other.
pub run_running : (t w room : List ℕ) (a : Answer) (r s : List ℕ) → a.number ≡ 0 → Run t w room a.no r s → Running t w room a r s
run_running t w room a r s z x =
    let u = run_unique x (run_computed t w room) in
    record { answer = λ i. record { no = u.0 i; number = z i }; tables = u.1; answers = u.2 }

-- The list has one answer, and leaves one room.
pub list_unique : (t : List ℕ) (u : ℕ) (room : List ℕ) (a b : Answer) (r s : List ℕ) → Listing t u room a r → Listing t u room b s → (a ≡ b) × (r ≡ s)
list_unique t u room a b r s x y =
    let z = lists_unique x y in
    (λ i. record { no = z.0 i; number = z.1 i }, z.2)

-- Whatever list is complete for the step's own answers, by its length and its words the list is answered.
pub list_any : (t : List ℕ) (u : ℕ) (room : List ℕ) (a : Answer) (r : List ℕ) → Listing t u room a r → (l : List (List ℕ)) → Complete (opens t u) l
    → (a.no ≡ list_answer (barred t u) l (length room)) × (a.number ≡ list_number (barred t u) l) × (r ≡ room_after a.no l room)
list_any t u room a r x l c = lists_any x l c

-- The reader has one answer, and leaves one list of words.
pub read_unique : (s w : List ℕ) (a b : Answer) (u v : List ℕ) → Reading s w a u → Reading s w b v → (a ≡ b) × (u ≡ v)
read_unique s w a b u v x y =
    let z = reads_unique x y in
    (λ i. record { no = z.0 i; number = z.1 i }, z.2)

-- The writer has one answer, and leaves one room.
pub write_unique : (w room : List ℕ) (a b : Answer) (r s : List ℕ) → Writing w room a r → Writing w room b s → (a ≡ b) × (r ≡ s)
write_unique w room a b r s x y =
    let z = writes_unique x y in
    (λ i. record { no = z.0 i; number = z.1 i }, z.2)

-- The writer of tables has one answer, and leaves one room.
pub write_tables_unique : (t room : List ℕ) (a b : Answer) (r s : List ℕ) → WritingTables t room a r → WritingTables t room b s → (a ≡ b) × (r ≡ s)
write_tables_unique t room a b r s x y =
    let z = tables-writes-unique x y in
    (λ i. record { no = z.0 i; number = z.1 i }, z.2)

-- The reader of tables has one answer, and leaves one list of words.
pub read_tables_unique : (s t : List ℕ) (a b : Answer) (u v : List ℕ) → ReadingTables s t a u → ReadingTables s t b v → (a ≡ b) × (u ≡ v)
read_tables_unique s t a b u v x y =
    let z = tables-reads-unique x y in
    (λ i. record { no = z.0 i; number = z.1 i }, z.2)

-- Two answers of 32 bits each are one where C gets one word.
pub exported_unique : (a b : Answer) → a.number < numbers → b.number < numbers → exported a ≡ exported b → a ≡ b
exported_unique a b h k e =
    let n : a.no ≡ b.no = omega arith in
    let m : a.number ≡ b.number = omega arith in
    λ i. record { no = n i; number = m i }

-- Whatever has one answer and leaves one slice has them for C too,
pub exports_unique : (P : Answer → List ℕ → Type 0) → ((a b : Answer) (r s : List ℕ) → P a r → P b s → (a ≡ b) × (r ≡ s))
    → (a b : ℕ) (r s : List ℕ) → Exports P a r → Exports P b s → (a ≡ b) × (r ≡ s)
exports_unique P one a b r s x y =
    let z = one x.answer y.answer r s x.called y.called in
    (x.word ∙ ap (λ (c : Answer). exported c) z.0 ∙ sym y.word, z.1)

-- and where the number has 32 bits the pair can be told from the word.
exports_parts : (P : Answer → List ℕ → Type 0) → ((a : Answer) (r : List ℕ) → P a r → a.number < numbers) → (a : ℕ) (r : List ℕ) (x : Exports P a r)
    → (a / numbers ≡ x.answer.no) × (a % numbers ≡ x.answer.number)
exports_parts P small a r x =
    let n = small x.answer r x.called in
    let w : a ≡ x.answer.no * numbers + x.answer.number = x.word in
    (omega arith, omega arith)

-- So it is with the step,
pub exported_step_unique : (t q : List ℕ) (a b : ℕ) (r s : List ℕ) → Exports (Stepping t q) a r → Exports (Stepping t q) b s → (a ≡ b) × (r ≡ s)
exported_step_unique t q = exports_unique (Stepping t q) (step_unique t q)

-- with the run,
pub exported_run_unique : (t w room : List ℕ) (a b : ℕ) (r s u v : List ℕ) → Exports (λ c l. Running t w room c l s) a r
    → Exports (λ c l. Running t w room c l v) b u → (a ≡ b) × (r ≡ u) × (s ≡ v)
exported_run_unique t w room a b r s u v x y =
    let z = run_once t w room x.answer y.answer r s u v x.called y.called in
    (x.word ∙ ap (λ (c : Answer). exported c) z.0 ∙ sym y.word, z.1, z.2)

-- with the list,
pub exported_list_unique : (t : List ℕ) (u : ℕ) (room : List ℕ) (a b : ℕ) (r s : List ℕ) → Exports (Listing t u room) a r → Exports (Listing t u room) b s
    → (a ≡ b) × (r ≡ s)
exported_list_unique t u room = exports_unique (Listing t u room) (list_unique t u room)

pub exported_list_parts : (t : List ℕ) (u : ℕ) (room : List ℕ) (a : ℕ) (r : List ℕ) (x : Exports (Listing t u room) a r)
    → (a / numbers ≡ x.answer.no) × (a % numbers ≡ x.answer.number)
exported_list_parts t u room = exports_parts (Listing t u room) (λ a r y. omega (arith, lists_small y))

-- with the reader,
pub exported_read_unique : (s w : List ℕ) (a b : ℕ) (u v : List ℕ) → Exports (Reading s w) a u → Exports (Reading s w) b v → (a ≡ b) × (u ≡ v)
exported_read_unique s w = exports_unique (Reading s w) (read_unique s w)

pub exported_read_parts : (s w : List ℕ) (a : ℕ) (u : List ℕ) (x : Exports (Reading s w) a u)
    → (a / numbers ≡ x.answer.no) × (a % numbers ≡ x.answer.number)
exported_read_parts s w = exports_parts (Reading s w) (λ a u y. omega (arith, y.number, read_number_small s w))

-- with the writer,
pub exported_write_unique : (w room : List ℕ) (a b : ℕ) (r s : List ℕ) → Exports (Writing w room) a r → Exports (Writing w room) b s → (a ≡ b) × (r ≡ s)
exported_write_unique w room = exports_unique (Writing w room) (write_unique w room)

pub exported_write_parts : (w room : List ℕ) (a : ℕ) (r : List ℕ) (x : Exports (Writing w room) a r)
    → (a / numbers ≡ x.answer.no) × (a % numbers ≡ x.answer.number)
exported_write_parts w room = exports_parts (Writing w room) (λ a r y. omega (arith, y.number, write_number_small w))

-- with the writer of tables,
pub exported_write_tables_unique : (t room : List ℕ) (a b : ℕ) (r s : List ℕ) → Exports (WritingTables t room) a r → Exports (WritingTables t room) b s
    → (a ≡ b) × (r ≡ s)
exported_write_tables_unique t room = exports_unique (WritingTables t room) (write_tables_unique t room)

pub exported_write_tables_parts : (t room : List ℕ) (a : ℕ) (r : List ℕ) (x : Exports (WritingTables t room) a r)
    → (a / numbers ≡ x.answer.no) × (a % numbers ≡ x.answer.number)
exported_write_tables_parts t room = exports_parts (WritingTables t room) (λ a r y. omega (arith, y.number, number_longest t))

-- and with the reader of tables.
pub exported_read_tables_unique : (s t : List ℕ) (a b : ℕ) (u v : List ℕ) → Exports (ReadingTables s t) a u → Exports (ReadingTables s t) b v
    → (a ≡ b) × (u ≡ v)
exported_read_tables_unique s t = exports_unique (ReadingTables s t) (read_tables_unique s t)

pub exported_read_tables_parts : (s t : List ℕ) (a : ℕ) (u : List ℕ) (x : Exports (ReadingTables s t) a u)
    → (a / numbers ≡ x.answer.no) × (a % numbers ≡ x.answer.number)
exported_read_tables_parts s t = exports_parts (ReadingTables s t) (λ a u y. omega (arith, y.number, read_number_most s t))

-- whatever meets a promise does so for C
pub exporting : (P : Answer → List ℕ → Type 0) (n k : ℕ) (r : List ℕ) → P (record { no = n; number = k }) r → (a : ℕ) × (r : List ℕ) × Exports P a r
exporting P n k r p = (exported (record { no = n; number = k }), r, record { answer = record { no = n; number = k }; called = p; word = refl })
