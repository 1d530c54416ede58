-- When a request has a requester whose words can be told, and what a report's lines need.
use Rattle.std.proofs.Math.Bool.{false}
use Rattle.std.specs.Prelude.{true, ◌⊎◌, ◌≡◌, ◌+◌, ◌<◌, ◌≤◌, ℕ, T, length}
use mathlib.Core.List.{List, ◌++◌, append_assoc}
use Rattle.std.proofs.Common.{inl, inr, ◌∙◌, ap, subst, sym, arith, length-append}
use Rattle.std.proofs.Math.Path.{refl}
use borrow.Author.Tests.{le-leb, lt-leb}
use Rattle.model.specs.Basics.Cases.{cases, true_or_false}
use Rattle.model.specs.Basics.TestLaws.{is_false, is_true}
use Rattle.model.specs.Request.Allowed.{Known}
use Rattle.model.specs.Request.Ladder.{applies, ladder, rung_at, unknown_user}
use Rattle.model.proofs.Request.RungLaws.{unknown_user_fails}
use Rattle.model.specs.Request.Step.{Settles, after_of, answer_of, sized}
use Rattle.model.specs.Request.Words.{request_of}
use Rattle.model.proofs.Script.ReportLaws.{report_length}
use Rattle.model.specs.Script.Reports.{answer_key, bare, held_key, missed_key, report, report_text, untold}
use Rattle.model.specs.Script.Windows.{report_bytes}
use Rattle.model.specs.Tables.Layout.{tables_of}
use Rattle.model.specs.Text.Lines.{line}
use Rattle.model.specs.Text.Numbers.{digits}
use Rattle.model.proofs.Theorem.Steps.{after_of_length, sized_agrees, unsized}
use Rattle.model.proofs.Theorem.Unique.{settles}
use Rattle.script.specs.Reported.{Settled, from_code, holding, in_code}
use Rattle.script.specs.declared.reports.Report.{Report}
use Rattle.step.specs.Contract as step
use Rattle.tables.specs.Singles.{UserIn}
use Rattle.model.specs.Request.Refusals as refusal

-- the rung of that refusal is the one that asks who requests
rung_known : (t q : List ℕ) → applies refusal.unknown_requester (tables_of t) (request_of q) ≡ unknown_user (tables_of t) (request_of q)
unfolding applies rung_at ladder
rung_known t q = refl

module _ (t q : List ℕ) where
  -- the requester of a request that is not answered 1 to 4 is a user
  abbrev pub Told : Type 0
  Told = UserIn (after_of t q) (request_of q).user

  pub told_if : (answer_of t q ≡ refusal.accepted) ⊎ (refusal.unknown_requester < answer_of t q) → Told
  told_if h = cases (true_or_false (sized t q)) sized_case (λ e. absurd (no_size e))
    where
      s : Settles t q (answer_of t q) (after_of t q)
      s = settles t q

      no_size : sized t q ≡ false → ⊥
      no_size e = let one : answer_of t q ≡ refusal.bad_length = (unsized t q (is_false (sized t q) e)).0 in cases h (λ z. omega arith) (λ z. omega arith)

      sized_case : sized t q ≡ true → Told
      sized_case e =
          let ok : T (sized t q) = is_true (sized t q) e in
          let sizes = (sized_agrees t q).to ok in
          let a = s.answered ok in
          let four : applies refusal.unknown_requester (tables_of t) (request_of q) ≡ false =
          cases h (λ z. a.accepted z refusal.unknown_requester) (λ z. a.below refusal.unknown_requester z) in
          let no : unknown_user (tables_of t) (request_of q) ≡ false = sym (rung_known t q) ∙ four in
          let k : Known (tables_of t) (request_of q).user =
          (unknown_user_fails (tables_of t) (request_of q)).to (is_false (unknown_user (tables_of t) (request_of q)) no) in
          (after_of_length t q ∙ sizes.0, k.low, k.high)

  -- the report of an answer from 1 to 4 is the answer alone,
  pub report_bare : 1 ≤ answer_of t q → answer_of t q ≤ refusal.unknown_requester → report t q ≡ bare (answer_of t q)
  unfolding report untold
  report_bare h k = rw (le-leb 1 (answer_of t q) h, le-leb (answer_of t q) refusal.unknown_requester k) refl

  -- and that of another tells the requester's words.
  pub report_full : (answer_of t q ≡ refusal.accepted) ⊎ (refusal.unknown_requester < answer_of t q)
      → report t q
      ≡ from_code (holding (after_of t q) (request_of q).user (answer_of t q))
  unfolding report untold
  report_full h = rw (full h) refl
    where
      full : (answer_of t q ≡ refusal.accepted) ⊎ (refusal.unknown_requester < answer_of t q) → untold (answer_of t q) ≡ false
      full (inl z) = rw z refl
      full (inr z) = rw (le-leb 1 (answer_of t q) (omega arith), lt-leb (answer_of t q) refusal.unknown_requester z) refl

-- ---- a request that the step answered with a and left the words n

module _ {t q n : List ℕ} {a : ℕ} (s : step.Settled t q a n) where
  told_of_lem : (a ≡ refusal.accepted) ⊎ (refusal.unknown_requester < a) → (answer_of t q ≡ refusal.accepted) ⊎ (refusal.unknown_requester < answer_of t q)
  told_of_lem = subst (λ (k : ℕ). (k ≡ refusal.accepted) ⊎ (refusal.unknown_requester < k)) s.answer

  -- its requester is a user in these words
  pub settled_known : (a ≡ refusal.accepted) ⊎ (refusal.unknown_requester < a) → UserIn n (request_of q).user
  settled_known h = subst (λ (l : List ℕ). UserIn l (request_of q).user) (sym s.words) (told_if t q (told_of_lem h))

  -- and is told what these words hold,
  pub settled_full : (r : Report) → (a ≡ refusal.accepted) ⊎ (refusal.unknown_requester < a)
      → r ≡ holding n (request_of q).user a → Settled t q r n
  settled_full r h e = record { reported = e ∙ rw (s.answer, s.words) (sym (ap in_code (report_full t q (told_of_lem h)))); words = s.words }

  -- or only the answer.
  pub settled_bare : (r : Report) → 1 ≤ a → a ≤ refusal.unknown_requester → r ≡ record { answer = a; held = 0; missed = 0 } → Settled t q r n
  settled_bare r h k e =
      let b = report_bare t q (subst (λ (i : ℕ). 1 ≤ i) s.answer h) (subst (λ (i : ℕ). i ≤ refusal.unknown_requester) s.answer k) in
      record { reported = e ∙ rw s.answer (sym (ap in_code b)); words = s.words }

-- ---- the lines of a report

abbrev pub answer_line : Report → List ℕ
answer_line r = line answer_key (digits r.answer)

abbrev pub held_line : Report → List ℕ
held_line r = line held_key (digits r.held)

abbrev pub missed_line : Report → List ℕ
missed_line r = line missed_key (digits r.missed)

module _ (r : Report) where
  -- they are its text, as they are written one after another,
  pub report_lines : (answer_line r ++ held_line r) ++ missed_line r ≡ report_text (from_code r)
  unfolding report_text
  report_lines = append_assoc (answer_line r) (held_line r) (missed_line r)

  -- and find room where the longest report does.
  pub report_room : {n : ℕ} → report_bytes ≤ n
      → (length (answer_line r) + length (held_line r) ≤ n) × (length (answer_line r ++ held_line r) + length (missed_line r) ≤ n)
  report_room h =
      let l : length (report_text (from_code r)) ≤ report_bytes = report_length (from_code r) in
      let e : length ((answer_line r ++ held_line r) ++ missed_line r) ≡ length (report_text (from_code r)) = ap length report_lines in (
        omega (arith, length-append (answer_line r ++ held_line r) (missed_line r), length-append (answer_line r) (held_line r)),
        omega (arith, length-append (answer_line r ++ held_line r) (missed_line r)),
      )
