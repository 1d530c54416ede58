-- Demand 2 is met.
use Rattle.std.specs.Prelude.{◌↔◌, ◌≡◌, refl, ℕ}
use Rattle.std.proofs.Common.{◌∙◌, subst, sym}
use Rattle.mms.specs.CallLaws.{check_no, check_sound_lem, sound_check, step_no}
use Rattle.mms.specs.Calls.{no_in}
use Rattle.mms.specs.CheckLaws.{check_lowest_lem}
use Rattle.mms.specs.Demands.{DemandTwo}
use Rattle.mms.specs.HistoryLaws.{calls_accountable_lem, calls_fixed_lem, calls_history_lem, calls_obey_lem, calls_paper_lem, calls_released_lem}
use Rattle.mms.specs.HistoryLaws.{calls_sound_lem}
use Rattle.mms.specs.HistoryLaws.{step_effect_lem, step_released, step_transform_lem}
use Rattle.mms.specs.MixedLaws.{mixed_history_lem, mixed_once_lem, mixed_through, through_run, through_singly}
use Rattle.mms.specs.RunCallLaws.{run_accepts, run_nothing_lem, run_refuses, run_spare, run_through, run_unsound_lem}
use Rattle.mms.specs.ScriptOutputLaws.{script_calls_lem}
use Rattle.mms.specs.TablesCallLaws.{tables_as_text}
use Rattle.mms.specs.TextCallLaws.{others_refused_lem, read_length_lem, read_names_lem, read_only, read_refuses_lem, read_text_lem, read_written}
use Rattle.mms.specs.TextCallLaws.{words_of_text_lem, write_length_lem, write_refuses_lem, write_text, written_read}
use Rattle.model.specs.Request.Applies.{Lowest}
use Rattle.model.proofs.Request.AppliesLaws.{leads_operand, operand_leads}
use Rattle.model.specs.Request.Step.{answer_of}
use Rattle.model.specs.Request.Words.{request_of}
use Rattle.model.specs.Run.Requests.{requests_in}
use Rattle.model.specs.Run.RequestsLaws.{requests_are, requests_in_lem}
use Rattle.model.specs.State.Check.{check}
use Rattle.model.specs.Tables.Layout.{tables_of}
use Rattle.model.proofs.Theorem.Stated.{lowest_unique, words_stated}

-- where P holds of the lowest number n, a call's answer that is n is that number and no other
lowest_only : {P : ℕ → Type 0} (a n : ℕ) → no_in a ≡ n → Lowest P n → (m : ℕ) → (no_in a ≡ m) ↔ Lowest P m
lowest_only {P} a n e l m = (λ z. subst (Lowest P) (sym e ∙ z) l, λ z. e ∙ lowest_unique l z)

pub demand_two : DemandTwo
demand_two = record {
  check_lowest = λ t a x. lowest_only a (check t) (check_no t a x) (check_lowest_lem t);
  check_sound = λ t a x. (λ e. check_sound_lem t (sym (check_no t a x) ∙ e), λ s. check_no t a x ∙ sound_check t s);
  step_lowest = λ {t} {q} {a} x. lowest_only a (answer_of t q) (step_no x) ((words_stated t q (answer_of t q)).0 refl);
  operands_found = λ t q. operand_leads (tables_of t) (request_of q);
  operands_led = λ t q. leads_operand (tables_of t) (request_of q);
  step_effect = step_effect_lem;
  step_transform = step_transform_lem;
  calls_sound = calls_sound_lem;
  calls_obey = calls_obey_lem;
  calls_paper = calls_paper_lem;
  calls_accountable = calls_accountable_lem;
  calls_history = calls_history_lem;
  run_refused = λ x. run_refuses x;
  run_accepted = λ x. run_accepts x;
  run_requests = λ w h. (requests_in w, requests_in_lem w h, λ ps r. requests_are r);
  run_steps = λ x e p. (_, through_singly (run_through x e p), run_spare x e p);
  run_unsound = λ {t} {w} {room} {r} {s} {a} {c} x e. run_unsound_lem x e c;
  run_nothing = run_nothing_lem;
  mixed_history = mixed_history_lem;
  mixed_once = mixed_once_lem;
  mixed_run = λ m h l z x. through_run (mixed_through m) h l z x;
  only_released = step_released;
  calls_released = calls_released_lem;
  calls_fixed = calls_fixed_lem;
  script_calls = script_calls_lem;
  read_length = read_length_lem;
  write_length = write_length_lem;
  text_read = read_text_lem;
  only_text_read = read_only;
  others_refused = others_refused_lem;
  read_refuses = read_refuses_lem;
  read_names = read_names_lem;
  text_written = write_text;
  words_of_text = words_of_text_lem;
  write_refuses = write_refuses_lem;
  read_then_write = read_written;
  write_then_read = written_read;
  tables_as_text = tables_as_text;
}
