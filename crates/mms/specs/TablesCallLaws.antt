-- Rule 16 of the calls: what their words say, and that what is stated of the tables as text holds.
use Rattle.std.specs.Prelude.{List, ◌↔◌, ◌≡◌, refl, ◌≤◌, ℕ, length}
use Rattle.std.proofs.Common.{subst, sym, arith}
use Rattle.mms.specs.Calls.{OneAnswer, ReadTablesCall, TextWritten, WriteTablesCall, no_in, number_in}
use Rattle.mms.specs.Contract.{ReadingTables, WritingTables}
use Rattle.mms.specs.TablesAnswerLaws.{read_tables_answers_lem, read_tables_length, read_tables_line, read_tables_number, write_tables_answers_lem}
use Rattle.mms.specs.TablesAnswerLaws.{write_tables_length, write_tables_number}
use Rattle.mms.specs.TablesAsText.{TablesAsText, TablesSettled}
use Rattle.mms.specs.Unique.{exported_read_tables_parts, exported_read_tables_unique, exported_write_tables_parts, exported_write_tables_unique}
use Rattle.mms.specs.Unique.{exporting}
use Rattle.model.specs.Basics.Cases.{cases, lt_or_le}
use Rattle.model.specs.State.WellFormed.{WellFormed}
use Rattle.model.specs.Tables.Layout.{tables_of, word_count}
use Rattle.model.specs.Tables.Words.{Tables}
use Rattle.tables_text.proofs.CallLaws.{write_then_read_lem}
use Rattle.tables_text.specs.Calls.{ReadsTables, WritesTables, read_answer, read_number, room_after, tables_after, text_of_tables, write_answer, write_number}
use Rattle.tables_text.specs.Due.{Whole, at_first}
use Rattle.tables_text.proofs.DueCallLaws.{broken_reads, reads_broken}
use Rattle.tables_text.proofs.DueLaws.{past_whole}
use Rattle.tables_text.proofs.DueOnceLaws.{whole_past}
use Rattle.tables_text.specs.Given.{Tells, TextOf}
use Rattle.tables_text.proofs.GivenLaws.{tells_once, tells_reading, tells_text, text_once, text_tells, words_once}
use Rattle.tables_text.specs.Longest.{longest_text}
use Rattle.tables_text.proofs.LongestCallLaws.{number_longest}
use Rattle.tables_text.proofs.LongestLaws.{text_longest}
use Rattle.tables_text.specs.LongestMetLaws.{longest_fit, longest_formed, longest_length, longest_met_lem}
use Rattle.tables_text.specs.LongestTables.{longest_words}
use Rattle.tables_text.proofs.ReadLaws.{read_bad_exactly, read_exactly, read_refused, read_unformed_exactly, reads_text, text_reads}
use Rattle.tables_text.proofs.WriteLaws.{text_short, text_writes, write_refused, write_unformed_exactly}
use Rattle.model.specs.Request.Refusals as refusal

-- the words that C gets, by their halves
pub write_tables_halves : {t room r : List ℕ} {a : ℕ} → WriteTablesCall t room a r → WritesTables t room (no_in a) (number_in a) r
write_tables_halves {t} {room} {r} {a} x =
    let p = exported_write_tables_parts t room a r x in
    rw (p.0, p.1) x.called

pub read_tables_halves : {s t r : List ℕ} {a : ℕ} → ReadTablesCall s t a r → ReadsTables s t (no_in a) (number_in a) r
read_tables_halves {s} {t} {r} {a} x =
    let p = exported_read_tables_parts s t a r x in
    rw (p.0, p.1) x.called

-- ---- settled

write_tables_settled : (t room : List ℕ) → OneAnswer (WriteTablesCall t room)
write_tables_settled t room = record {
  ends = exporting (WritingTables t room) (write_answer t (length room)) (write_number t)
      (room_after (write_answer t (length room)) t room) (record { answer = refl; number = refl; bytes = refl });
  once = exported_write_tables_unique t room;
}

read_tables_settled : (s t : List ℕ) → OneAnswer (ReadTablesCall s t)
read_tables_settled s t = record {
  ends = exporting (ReadingTables s t) (read_answer s t) (read_number s t) (tables_after s t)
      (record { answer = refl; number = refl; words = refl });
  once = exported_read_tables_unique s t;
}

pub tables_settled : TablesSettled
tables_settled = record {
  write_settled = write_tables_settled;
  read_settled = read_tables_settled;
  write_answers = λ x. write_tables_answers_lem (write_tables_halves x);
  number_of_write = λ x. write_tables_number (write_tables_halves x);
  bytes_of_write = λ {t} x. omega (arith, (write_tables_halves x).number, number_longest t);
  read_answers = λ x. read_tables_answers_lem (read_tables_halves x);
  number_of_read = λ x. read_tables_number (read_tables_halves x);
  line_of_read = λ x. read_tables_line (read_tables_halves x);
  write_unchanged = λ x. write_refused (write_tables_halves x);
  read_unchanged = λ x. read_refused (read_tables_halves x);
}

-- ---- written

text_written_lem : {s t room r : List ℕ} {b : ℕ} → TextOf s t → WriteTablesCall t room b r → TextWritten s room b r
text_written_lem {s} {t} {room} {r} {b} g x = record {
  bytes = cases (lt_or_le (length room) (length s)) (λ h. (text_short g (write_tables_halves x) h).1) (λ h. (text_writes g (write_tables_halves x) h).1);
  fits = λ h. let z = text_writes g (write_tables_halves x) h in (z.0, z.2);
  short = λ h. let z = text_short g (write_tables_halves x) h in (z.0, z.2);
}

write_refuses_lem : {t room r : List ℕ} {b : ℕ} → length t ≡ word_count → WriteTablesCall t room b r
    → (no_in b ≡ refusal.not_well_formed) ↔ (WellFormed (tables_of t) → ⊥)
write_refuses_lem h x =
    let z = write_unformed_exactly (write_tables_halves x) in
    (λ e. (z.0 e).1, λ n. z.1 (h, n))

-- ---- read

accepted_text : {s v w : List ℕ} {a : ℕ} → ReadTablesCall s v a w → no_in a ≡ refusal.accepted → TextOf s w
accepted_text {s} {v} {w} {a} x e = reads_text (subst (λ (k : ℕ). ReadsTables s v k (number_in a) w) e (read_tables_halves x))

-- a text that keeps the line rules, and of which no well-formed tables are told
read_unformed_lem : {s v w : List ℕ} {a : ℕ} → length v ≡ word_count → ReadTablesCall s v a w
    → (no_in a ≡ refusal.not_well_formed) ↔ (Whole at_first s × ((t : List ℕ) → TextOf s t → ⊥))
read_unformed_lem {s} {v} {w} {a} h x = (there, back)
  where
    z : (no_in a ≡ refusal.not_well_formed) ↔ ((d : Tables) × Tells s d × (¬ WellFormed d))
    z = read_unformed_exactly h (read_tables_halves x)

    there : no_in a ≡ refusal.not_well_formed → Whole at_first s × ((t : List ℕ) → TextOf s t → ⊥)
    there e =
        let y = z.0 e in (
          past_whole s y.0 _ ((tells_reading s y.0).0 y.1),
          λ t g. y.2 (subst WellFormed (tells_once (text_tells g) y.1) g.well_formed),
        )

    back : Whole at_first s × ((t : List ℕ) → TextOf s t → ⊥) → no_in a ≡ refusal.not_well_formed
    back y =
        let p = whole_past s y.0 in
        let g = (tells_reading s p.0).1 p.1 in
        z.1 (p.0, g, λ f. y.1 _ (tells_text g f))

-- a text breaks the line rules, or it is read to its end
read_breaks_lem : {s v w : List ℕ} {a : ℕ} → length v ≡ word_count → ReadTablesCall s v a w → (no_in a ≡ refusal.not_a_request) ↔ (Whole at_first s → ⊥)
read_breaks_lem {s} {v} {w} {a} h x =
    let z = read_bad_exactly h (read_tables_halves x) in (
      λ e k. let p = whole_past s k in z.0 e p.0 ((tells_reading s p.0).1 p.1),
      λ n. z.1 (λ d g. n (past_whole s d _ ((tells_reading s d).0 g))),
    )

-- ---- all of it

pub tables_as_text : TablesAsText
tables_as_text = record {
  has_text = λ t h s f. (text_of_tables t, record { size = h; small = s; well_formed = f; is = refl });
  one_text = words_once;
  one_table = text_once;
  written = text_written_lem;
  write_length = λ x. write_tables_length (write_tables_halves x);
  write_refuses = write_refuses_lem;
  read_accepts = λ h x. read_exactly h (read_tables_halves x);
  read = λ g h x. let z = text_reads g h (read_tables_halves x) in (z.0, z.2);
  only_read = accepted_text;
  read_length = λ x. read_tables_length (read_tables_halves x);
  read_breaks = read_breaks_lem;
  read_refuses = λ {s} {v} {w} {a} x e. (reads_broken (subst (λ (k : ℕ). ReadsTables s v k (number_in a) w) e (read_tables_halves x))).0;
  read_names = λ f h x. let z = broken_reads f h (read_tables_halves x) in (z.0, z.1);
  read_unformed = read_unformed_lem;
  read_then_write = λ x e y. text_written_lem (accepted_text x e) y;
  write_then_read = λ {t} {room} {r} {v} {u} {a} {b} s x e h y.
      let z = write_then_read_lem s (subst (λ (k : ℕ). WritesTables t room k (number_in b) r) e (write_tables_halves x)) h (read_tables_halves y) in (z.0, z.2);
  longest = λ {s} {t} g. subst (λ (l : List ℕ). length l ≤ longest_text) (sym g.is) (text_longest (tables_of t) g.well_formed);
  longest_met = (
    text_of_tables longest_words,
    longest_words,
    record { size = longest_length; small = longest_fit; well_formed = longest_formed; is = refl },
    longest_met_lem,
  );
}
