-- Document 01, "What a reader can rely on"; document 02, M-100, M-101 and M-103: the client's three demands, each as one statement about the calls that are
-- linked, with a part for each sentence. They are said of any slices, any lengths and any words. Who believes this page, the definitions that it cites
-- and the toolchain need read no law and no code: demand_one, demand_two and demand_three, in the law files beside this one, prove them.
use mathlib.Core.List.{List, Memᴰ, [], ◌++◌, ◌∷◌}
use Rattle.std.specs.Prelude.{◌↔◌, ◌≢◌, ◌⊎◌, ◌≡◌, ◌%◌, ◌*◌, ◌<◌, ◌≤◌, suc, ℕ, drop, get_or, length, take}
use Rattle.mms.specs.Calls.{CheckCall, ListCall, MixedCalls, NoRequest, OneAnswer, OnlyNotice, Passes, ReadCall, RunCall, ScriptCalls, SingleSteps}
use Rattle.mms.specs.Calls.{Sound, StepCall, StepCalls, TextWritten, Unsound, WriteCall, no_in, number_in, requester}
use Rattle.mms.specs.TablesAsText.{TablesAsText, TablesSettled}
use Rattle.model.specs.Basics.Together.{together}
use Rattle.model.specs.List.Admitted.{Admitted}
use Rattle.model.specs.List.Listing.{entries, entry_words, showing}
use Rattle.model.specs.List.Order.{Sorted}
use Rattle.model.specs.Request.After.{after}
use Rattle.model.specs.Request.Applies.{AppliesTo, Lowest, reference_of}
use Rattle.model.specs.Request.Asked.{asked, basis_of, operand}
use Rattle.model.specs.Request.Form.{Names}
use Rattle.model.specs.Request.Operations.{Op}
use Rattle.model.specs.Request.Reference.{Leads}
use Rattle.model.specs.Request.Words.{name_count, names, request_of, request_words}
use Rattle.model.specs.Run.Requests.{AllSixteen, Requests, request_count}
use Rattle.model.specs.Run.Run.{Sizes}
use Rattle.model.specs.Script.Reports.{Report, answers_in, output, unread}
use Rattle.model.specs.Script.Runs.{Outputs, requests}
use Rattle.model.specs.Tables.Layout.{tables_of, word_count}
use Rattle.model.specs.Tables.Words.{first_noticed}
use Rattle.model.specs.Text.Broken.{FirstBad, sorts}
use Rattle.model.specs.Text.Given.{Small}
use Rattle.model.specs.Text.Textual.{Textual, Written}
use Rattle.model.specs.Text.Unfinished.{line_total}
use Rattle.model.specs.Text.Wording.{Wording, sixteen, text_of}
use Rattle.model.specs.Theorem.Accountable.{Accountable}
use Rattle.model.specs.Theorem.Beyond.{OnlyReleased, ReleasedStays, SameDevices, SameUsers}
use Rattle.model.specs.Theorem.Definitions.{History, HistorySecure, Obeys, PaperDowngradeSecure, SystemSecure}
use Rattle.model.specs.Theorem.Done.{Outcome}
use Rattle.model.specs.Theorem.Sequence.{Noticed}
use Rattle.model.specs.Theorem.Statements.{SameNotice}
use Rattle.model.specs.Request.Refusals as refusal

-- Rules 14.1 and 14.2: what the run promises can be met, and in one way only, as with the other calls (`OneAnswer`); it may write two things.
pub record OneRun (t w room : List ℕ) : Type 0 where
  pub ends : (a : ℕ) × (r s : List ℕ) × RunCall t w room a r s
  pub once : (a b : ℕ) (r s u v : List ℕ) → RunCall t w room a r s → RunCall t w room b u v → (a ≡ b) × (r ≡ u) × (s ≡ v)

-- Demand 1: every call ends with an answer, refusals change nothing but a notice, and a notice keeps the first unread refusal and a count.
pub record DemandOne : Type 0 where
  -- Every call, lent any words or bytes, has one answer, and leaves one thing in what it may write; what it only reads, its signature keeps.
  pub check_settled : (t : List ℕ) → (a : ℕ) × CheckCall t a × ((b : ℕ) → CheckCall t b → b ≡ a)
  pub step_settled : (t q : List ℕ) → OneAnswer (StepCall t q)
  pub run_settled : (t w room : List ℕ) → OneRun t w room
  pub list_settled : (t : List ℕ) (u : ℕ) (room : List ℕ) → OneAnswer (ListCall t u room)
  pub read_settled : (s w : List ℕ) → OneAnswer (ReadCall s w)
  pub write_settled : (w room : List ℕ) → OneAnswer (WriteCall w room)
  -- The check answers 0 to 3. No number goes with its answer.
  pub check_answers : (t : List ℕ) (a : ℕ) → CheckCall t a → (no_in a ≤ refusal.not_secure) × (number_in a ≡ 0)
  -- The step answers 0 to 16. No number goes with its answer.
  pub step_answers : {t q : List ℕ} {a : ℕ} {r : List ℕ} → StepCall t q a r → (no_in a ≤ refusal.not_acknowledged) × (number_in a ≡ 0)
  -- The run answers 0 or 1. No number goes with its answer.
  pub run_answers : {t w room r s : List ℕ} {a : ℕ} → RunCall t w room a r s → (no_in a ≤ refusal.bad_length) × (number_in a ≡ 0)
  -- The list answers 0, 1 to 4, 6 or 17. A number goes with 0 and 17 only.
  pub list_answers : {t room r : List ℕ} {u a : ℕ} → ListCall t u room a r
      → Memᴰ (no_in a) (refusal.accepted ∷ refusal.bad_length ∷ refusal.not_well_formed ∷ refusal.not_secure ∷ refusal.unknown_requester
      ∷ refusal.not_logged_on ∷ refusal.too_short ∷ [])
  pub number_of_list : {t room r : List ℕ} {u a : ℕ} → ListCall t u room a r → no_in a ≢ refusal.accepted → no_in a ≢ refusal.too_short
      → number_in a ≡ 0
  -- The reader answers 0, 1 or 18. A number goes with 18 only, and is 1 to 8.
  pub read_answers : {s w r : List ℕ} {a : ℕ} → ReadCall s w a r
      → Memᴰ (no_in a) (refusal.accepted ∷ refusal.bad_length ∷ refusal.not_a_request ∷ [])
  pub number_of_read : {s w r : List ℕ} {a : ℕ} → ReadCall s w a r → no_in a ≢ refusal.not_a_request → number_in a ≡ 0
  pub line_of_read : {s w r : List ℕ} {a : ℕ} → ReadCall s w a r → no_in a ≡ refusal.not_a_request → (1 ≤ number_in a) × (number_in a ≤ suc line_total)
  -- The writer answers 0, 1, 5 or 17. A number goes with 0 and 17 only.
  pub write_answers : {w room r : List ℕ} {a : ℕ} → WriteCall w room a r
      → Memᴰ (no_in a) (refusal.accepted ∷ refusal.bad_length ∷ refusal.bad_request ∷ refusal.too_short ∷ [])
  pub number_of_write : {w room r : List ℕ} {a : ℕ} → WriteCall w room a r → no_in a ≢ refusal.accepted → no_in a ≢ refusal.too_short
      → number_in a ≡ 0
  -- After a refusal 1 to 4 of the step the tables are as they were;
  pub step_unchanged : {t q : List ℕ} {a : ℕ} {r : List ℕ} → StepCall t q a r → refusal.bad_length ≤ no_in a → no_in a < first_noticed → r ≡ t
  -- after the refusal of a run the tables are, and so is the room for answers;
  pub run_unchanged : {t w room r s : List ℕ} {a : ℕ} → RunCall t w room a r s → no_in a ≢ refusal.accepted → (r ≡ t) × (s ≡ room)
  -- after any refusal of the list, 6 and 17 among them, the room is;
  pub list_unchanged : {t room r : List ℕ} {u a : ℕ} → ListCall t u room a r → no_in a ≢ refusal.accepted → r ≡ room
  -- after any of the reader, 18 among them, the request is;
  pub read_unchanged : {s w r : List ℕ} {a : ℕ} → ReadCall s w a r → no_in a ≢ refusal.accepted → r ≡ w
  -- and after any of the writer, 5 and 17 among them, the room is.
  pub write_unchanged : {w room r : List ℕ} {a : ℕ} → WriteCall w room a r → no_in a ≢ refusal.accepted → r ≡ room
  -- The same of the writer and the reader of tables: it is stated on the page of the tables as text.
  pub tables_settled : TablesSettled
  -- After a refusal 5 to 16 of the step the tables differ in words 5 to 7 of the requester at most.
  pub step_notice : {t q : List ℕ} {a : ℕ} {r : List ℕ} → StepCall t q a r → first_noticed ≤ no_in a → OnlyNotice t (requester q) r
  -- After any calls of the step, from tables that the check passes on, each user's notice holds the first refusal 5 to 16 of that user since the
  -- last acknowledgement that was accepted, or what was held at the start; with its operation; and counts them, up to 65,535.
  pub notice_kept : (m : ℕ) (tables requests : ℕ → List ℕ) (answers : ℕ → ℕ) → StepCalls m tables requests answers → Passes (tables 0)
      → (u : ℕ) → Noticed tables requests (λ i. no_in (answers i)) u m
  -- After any mixture of steps and runs it is the same, request by request: single steps have the same answers, and what they leave is so.
  pub notice_mixed : {t u : List ℕ} {qs : List (List ℕ)} {ns : List ℕ} → MixedCalls t qs ns u → Passes t
      → (k : SingleSteps t qs ns u) × ((x i : ℕ) → i ≤ length qs → Noticed k.tables (λ j. get_or qs j []) (λ j. get_or ns j 0) x i)
  -- No request changes the notice of anybody but the requester.
  pub notice_of_others : {t q : List ℕ} {a : ℕ} {r : List ℕ} → StepCall t q a r → (x : ℕ) → x ≢ requester q
      → SameNotice (tables_of t) (tables_of r) x

-- Rules 6 and 8.4: what an accepted request q has made of the tables t.
pub record Effected (t q r : List ℕ) : Type 0 where
  -- the operation is the one that it names
  pub operation : Op
  pub named : Names (request_of q) operation
  -- the words of that operation's rule have the values that it names, and every other word is as before
  pub size : length r ≡ length t
  pub outcome : Outcome operation (asked (tables_of t) (request_of q)) (tables_of t) (tables_of r)
  -- and of no other words can that be said
  pub only : (s : List ℕ) → length s ≡ length t → Outcome operation (asked (tables_of t) (request_of q)) (tables_of t) (tables_of s) → s ≡ r

-- Rules 9.4, 9.13 and 9.14: calls that never end are a history of the papers' model, of the transform `after`; the history is secure, and so is the
-- system of that transform, from those tables on.
pub record SecureHistory (tables requests : ℕ → List ℕ) : Type 0 where
  pub history : History after (tables_of (tables 0)) (λ i. tables_of (tables i)) (λ i. request_of (requests i))
  pub secure : HistorySecure after (λ i. tables_of (tables i))
  pub system : SystemSecure after (tables_of (tables 0))

-- Rules 9.4 and 9.13: m requests, and the tables before and after each, are the beginning of a secure history. A request that has not sixteen words
-- changes nothing and is none of the papers' requests; the history has one in its place that asks nothing.
pub record BeginsHistory (m : ℕ) (tables requests : ℕ → List ℕ) : Type 0 where
  pub all_tables : ℕ → List ℕ
  pub all_requests : ℕ → List ℕ
  pub secure : SecureHistory all_tables all_requests
  pub same_tables : (i : ℕ) → i ≤ m → all_tables i ≡ tables i
  pub same_requests : (i : ℕ) → i < m → length (requests i) ≡ request_words → all_requests i ≡ requests i

-- Rule 15.5: what a mixture of steps and runs is that has put the requests qs to the tables t, was answered ns, and has left u.
pub record MixedHistory (t : List ℕ) (qs : List (List ℕ)) (ns u : List ℕ) : Type 0 where
  -- single steps have the same answers and leave the same words,
  pub singly : SingleSteps t qs ns u
  -- and whatever the tables were, each pair of them obeys Definitions 5 to 11;
  pub obeys : (i : ℕ) → i < length qs → Obeys (tables_of (singly.tables i)) (request_of (get_or qs i [])) (tables_of (singly.tables (suc i)))
  -- and of the first i requests one accounts for any level that they have lost;
  pub accountable : (i : ℕ) → i ≤ length qs → Accountable i (λ j. tables_of (singly.tables j)) (λ j. request_of (get_or qs j [])) (λ j. get_or ns j 0)
  -- from tables that the check passes the tables after each request pass too, and are well-formed and secure,
  pub sound : Passes t → (i : ℕ) → i ≤ length qs → Passes (singly.tables i) × Sound (singly.tables i)
  -- and requests and tables are the beginning of a secure history;
  pub history : Passes t → BeginsHistory (length qs) singly.tables (λ i. get_or qs i [])
  -- what is released stays so, and users and devices are those of the start.
  pub released : Passes t → ReleasedStays (tables_of t) (tables_of u)
  pub fixed : Passes t → SameUsers (tables_of t) (tables_of u) × SameDevices (tables_of t) (tables_of u)

-- Rules 15.3 and 15.5: a run, with the answer a and what stands in the tables and in the room afterwards, was accepted and left u, and has put the answers
-- ns at the front of the room; behind them the room is as it was.
pub record RanAs (room : List ℕ) (ns u : List ℕ) (a : ℕ) (r s : List ℕ) : Type 0 where
  pub accepted : no_in a ≡ refusal.accepted
  pub tables : r ≡ u
  pub answers : s ≡ ns ++ drop (length ns) room

-- Rule 12: the output o of the script s on the tables t, as calls of the step. `Outputs`, of which it is said, is the relation that the parts of the
-- program are proved to meet.
pub record ScriptOutput (t s o : List ℕ) : Type 0 where
  -- the output is the text of reports, one of each request that was read,
  pub reports : List Report
  pub written : o ≡ output reports
  pub before : List Report
  pub left : List ℕ
  pub rest : List ℕ
  pub calls : ScriptCalls t s before left rest
  -- up to the end of the script; or up to where no request stands, of which 18 is reported, and that is the last
  pub last : ((rest ≡ []) × (reports ≡ before)) ⊎ (NoRequest rest × (rest ≢ []) × (reports ≡ before ++ (unread ∷ [])))
  -- from tables that the check passes the tables behind each report are well-formed and secure,
  pub sound : Passes t → (i : ℕ) → i ≤ length before → Sound (calls.tables i)
  -- and with the requests they are the beginning of a secure history
  pub history : Passes t → BeginsHistory (length before) calls.tables (λ i. get_or (requests calls.wordings) i [])
  -- The run of the first i requests, on tables of the right size and with a place for each, has the answers that the first i reports tell, and leaves the
  -- tables that they tell of; so it is with the run of all.
  pub run : {room r v : List ℕ} {a : ℕ} → length t ≡ word_count → (i : ℕ) → i ≤ length before → i ≤ length room
      → RunCall t (together (take i (requests calls.wordings))) room a r v → RanAs room (take i (answers_in before)) (calls.tables i) a r v
  -- whatever the tables were, each pair of them obeys Definitions 5 to 11
  pub obeys : (i : ℕ) → i < length before
      → Obeys (tables_of (calls.tables i)) (request_of (get_or (requests calls.wordings) i [])) (tables_of (calls.tables (suc i)))
  -- and of the first i requests one accounts for any level that they have lost
  pub accountable : (i : ℕ) → i ≤ length before
      → Accountable i (λ j. tables_of (calls.tables j)) (λ j. request_of (get_or (requests calls.wordings) j [])) (λ j. get_or (answers_in before) j 0)

-- Demand 2: a request is refused exactly when a condition applies, with the lowest number; else it has its stated effect and no other; every history
-- stays secure; and text and words convert both ways without loss.
pub record DemandTwo : Type 0 where
  -- The check's answer is 1 for words that are not 2,304, else 2 where the tables are not well-formed, else 3 where they are not secure, else 0:
  pub check_lowest : (t : List ℕ) (a : ℕ) → CheckCall t a → (n : ℕ) → (no_in a ≡ n) ↔ Lowest (Unsound t) n
  -- it passes words exactly where they are well-formed and secure tables.
  pub check_sound : (t : List ℕ) (a : ℕ) → CheckCall t a → (no_in a ≡ refusal.accepted) ↔ Sound t
  -- The step's answer is the lowest number whose refusal applies, and 0 where none does.
  pub step_lowest : {t q : List ℕ} {a : ℕ} {r : List ℕ} → StepCall t q a r → (n : ℕ) → (no_in a ≡ n) ↔ Lowest (AppliesTo t q) n
  -- What a request acts on, in this page and in what it cites, is what its references lead to, name by name, and by that way,
  pub operands_found : (t q : List ℕ) (k : ℕ) → operand (asked (tables_of t) (request_of q)) k ≢ 0
      → Leads (tables_of t) (names (reference_of (request_of q) k)) (basis_of (asked (tables_of t) (request_of q)) k)
      (operand (asked (tables_of t) (request_of q)) k)
  -- and nothing else.
  pub operands_led : (t q : List ℕ) (k x : ℕ) (way : List ℕ) → Leads (tables_of t) (names (reference_of (request_of q) k)) way x
      → (operand (asked (tables_of t) (request_of q)) k ≡ x) × (basis_of (asked (tables_of t) (request_of q)) k ≡ way)
  -- With 0 the tables are what the operation makes of them, and nothing else.
  pub step_effect : {t q : List ℕ} {a : ℕ} {r : List ℕ} → StepCall t q a r → no_in a ≡ refusal.accepted → Effected t q r
  -- What the step makes of tables and a request of the right lengths is the transform that the Definitions are said of.
  pub step_transform : {t q : List ℕ} {a : ℕ} {r : List ℕ} → StepCall t q a r → length t ≡ word_count → length q ≡ request_words
      → tables_of r ≡ after (tables_of t) (request_of q)
  -- From tables that the check passes, the tables after each of any calls of the step are well-formed and secure,
  pub calls_sound : (m : ℕ) (tables requests : ℕ → List ℕ) (answers : ℕ → ℕ) → StepCalls m tables requests answers → Passes (tables 0)
      → (i : ℕ) → i ≤ m → Passes (tables i) × Sound (tables i)
  -- and whatever the tables were, each pair of them obeys Definitions 5 to 11.
  pub calls_obey : (m : ℕ) (tables requests : ℕ → List ℕ) (answers : ℕ → ℕ) → StepCalls m tables requests answers
      → (i : ℕ) → i < m → Obeys (tables_of (tables i)) (request_of (requests i)) (tables_of (tables (suc i)))
  -- Each obeys Definition 10 as the paper has it, too, which asks less.
  pub calls_paper : (m : ℕ) (tables requests : ℕ → List ℕ) (answers : ℕ → ℕ) → StepCalls m tables requests answers
      → (i : ℕ) → i < m → PaperDowngradeSecure (tables_of (tables i)) (request_of (requests i)) (tables_of (tables (suc i)))
  -- No level is lost that nobody accounts for. Where an entity has been there all the time and its level no longer reaches that of the start, a request was
  -- accepted that asked for the level of that very entity, and a downgrader had sent it; or, of a device, the one who was on it.
  pub calls_accountable : (m : ℕ) (tables requests : ℕ → List ℕ) (answers : ℕ → ℕ) → StepCalls m tables requests answers
      → Accountable m (λ i. tables_of (tables i)) (λ i. request_of (requests i)) (λ i. no_in (answers i))
  -- Calls that never end, with requests of sixteen words, are a secure history (Definitions 4, 13 and 14).
  pub calls_history : (tables requests : ℕ → List ℕ) (answers : ℕ → ℕ) → ((m : ℕ) → StepCalls m tables requests answers) → Passes (tables 0)
      → ((i : ℕ) → length (requests i) ≡ request_words) → SecureHistory tables requests
  -- A run is refused, with 1, exactly where a size does not fit: 2,304 words of tables, a multiple of sixteen of requests, a place for each answer.
  pub run_refused : {t w room r s : List ℕ} {a : ℕ} → RunCall t w room a r s → (no_in a ≡ refusal.bad_length) ↔ (Sizes t w room → ⊥)
  pub run_accepted : {t w room r s : List ℕ} {a : ℕ} → RunCall t w room a r s → (no_in a ≡ refusal.accepted) ↔ Sizes t w room
  -- A multiple of sixteen words is a list of requests of sixteen words each, and one list only.
  pub run_requests : (w : List ℕ) → length w % request_words ≡ 0 → (qs : List (List ℕ)) × Requests w qs × ((ps : List (List ℕ)) → Requests w ps → ps ≡ qs)
  -- Where the run is not refused, its requests have the answers of single steps, each in its place, and leave what these leave; the places behind them are
  -- as they were.
  pub run_steps : {t w room r s : List ℕ} {a : ℕ} {qs : List (List ℕ)} → RunCall t w room a r s → no_in a ≡ refusal.accepted → Requests w qs
      → (ns : List ℕ) × SingleSteps t qs ns r × (s ≡ ns ++ drop (length ns) room)
  -- Where the check refuses the tables, with 2 or 3, they stay, and that number is the answer to every request.
  pub run_unsound : {t w room r s : List ℕ} {a c : ℕ} → RunCall t w room a r s → no_in a ≡ refusal.accepted → CheckCall t c → no_in c ≢ refusal.accepted
      → (r ≡ t) × ((i : ℕ) → i < request_count w → get_or s i 0 ≡ no_in c) × ((no_in c ≡ refusal.not_well_formed) ⊎ (no_in c ≡ refusal.not_secure))
  -- No request at all is accepted, and nothing is written, whatever the 2,304 words are.
  pub run_nothing : {t room r s : List ℕ} {a : ℕ} → RunCall t [] room a r s → length t ≡ word_count → (no_in a ≡ refusal.accepted) × (r ≡ t) × (s ≡ room)
  -- Any mixture of steps and runs, each given what the last one left, is single steps, and from tables that the check passes one secure history.
  pub mixed_history : {t u : List ℕ} {qs : List (List ℕ)} {ns : List ℕ} → MixedCalls t qs ns u → MixedHistory t qs ns u
  -- Two mixtures that put the same requests to the same tables have the same answers and leave the same words: a run may be cut anywhere, into any number
  -- of pieces, single steps among them.
  pub mixed_once : {t u v : List ℕ} {qs : List (List ℕ)} {ns ms : List ℕ} → MixedCalls t qs ns u → MixedCalls t qs ms v → (ns ≡ ms) × (u ≡ v)
  -- So the run of all requests of a mixture is that mixture, where the tables have 2,304 words, each request has sixteen, and the room has a place for each.
  pub mixed_run : {t u room r s : List ℕ} {qs : List (List ℕ)} {ns : List ℕ} {a : ℕ} → MixedCalls t qs ns u → AllSixteen qs → length t ≡ word_count
      → length qs ≤ length room → RunCall t (together qs) room a r s → RanAs room ns u a r s
  -- Beyond the Definitions: nothing becomes released but by a release of that very draft, created entities included;
  pub only_released : {t q : List ℕ} {a : ℕ} {r : List ℕ} → StepCall t q a r → Passes t → OnlyReleased (tables_of t) (request_of q) (tables_of r)
  -- what is released is never deleted, and stays released by the same user, through any calls of the step;
  pub calls_released : (m : ℕ) (tables requests : ℕ → List ℕ) (answers : ℕ → ℕ) → StepCalls m tables requests answers → Passes (tables 0)
      → ReleasedStays (tables_of (tables 0)) (tables_of (tables m))
  -- and users and devices are those of the start.
  pub calls_fixed : (m : ℕ) (tables requests : ℕ → List ℕ) (answers : ℕ → ℕ) → StepCalls m tables requests answers → Passes (tables 0)
      → SameUsers (tables_of (tables 0)) (tables_of (tables m)) × SameDevices (tables_of (tables 0)) (tables_of (tables m))
  -- The output of a script is that of such calls.
  pub script_calls : {t s o : List ℕ} → Outputs t s o → ScriptOutput t s o
  -- The reader and the writer answer 1 exactly where the request is not sixteen words.
  pub read_length : {s v w : List ℕ} {a : ℕ} → ReadCall s v a w → (no_in a ≡ refusal.bad_length) ↔ (length v ≢ request_words)
  pub write_length : {w room r : List ℕ} {b : ℕ} → WriteCall w room b r → (no_in b ≡ refusal.bad_length) ↔ (length w ≢ request_words)
  -- The text of a request is read, and gives the request's words;
  pub text_read : (m : Wording) → Written m → {v w : List ℕ} {a : ℕ} → length v ≡ request_words → ReadCall (text_of m) v a w
      → (no_in a ≡ refusal.accepted) × (w ≡ sixteen m)
  -- whatever is read is the text of a request, and gives that request's words;
  pub only_text_read : {s v w : List ℕ} {a : ℕ} → ReadCall s v a w → no_in a ≡ refusal.accepted
      → (m : Wording) × Written m × (s ≡ text_of m) × (w ≡ sixteen m)
  -- and any other text is answered 18,
  pub others_refused : {s v w : List ℕ} {a : ℕ} → length v ≡ request_words → ReadCall s v a w
      → (no_in a ≡ refusal.not_a_request) ↔ ((m : Wording) → Written m → s ≡ text_of m → ⊥)
  -- with the first line that is bad or missing.
  pub read_refuses : {s v w : List ℕ} {a : ℕ} → ReadCall s v a w → no_in a ≡ refusal.not_a_request → FirstBad sorts s (number_in a)
  pub read_names : {s v w : List ℕ} {a k : ℕ} → FirstBad sorts s k → length v ≡ request_words → ReadCall s v a w
      → (no_in a ≡ refusal.not_a_request) × (number_in a ≡ k)
  -- A request's words are written as its text, where that fits; where it does not, the answer is 17. The number is that of its bytes either way.
  pub text_written : (m : Wording) → Written m → {room r : List ℕ} {b : ℕ} → WriteCall (sixteen m) room b r → TextWritten (text_of m) room b r
  -- The sixteen words of 32 bits that have a text are those of some request;
  pub words_of_text : (w : List ℕ) → length w ≡ request_words → Small w → Textual (request_of w) → (m : Wording) × Written m × (w ≡ sixteen m)
  -- and any other sixteen are answered 5.
  pub write_refuses : {w room r : List ℕ} {b : ℕ} → length w ≡ request_words → WriteCall w room b r
      → (no_in b ≡ refusal.bad_request) ↔ (Textual (request_of w) → ⊥)
  -- A text that is read is written again, byte for byte, from the words that were read, in any room that it fits.
  pub read_then_write : {s v w room r : List ℕ} {a b : ℕ} → ReadCall s v a w → no_in a ≡ refusal.accepted → WriteCall w room b r
      → TextWritten s room b r
  -- Words of 32 bits that are written are read again, word for word, from the bytes that were written.
  pub write_then_read : {w room r v u : List ℕ} {a b : ℕ} → Small w → WriteCall w room b r → no_in b ≡ refusal.accepted → length v ≡ request_words
      → ReadCall (take (number_in b) r) v a u → (no_in a ≡ refusal.accepted) × (u ≡ w)
  -- The tables convert both ways too: it is stated on the page of the tables as text.
  pub tables_as_text : TablesAsText

-- Demand 3: the list of the user u on the tables t, in a room, with the answer a and what stands in the room afterwards.
pub record Disclosed (t : List ℕ) (u : ℕ) (room : List ℕ) (a : ℕ) (r : List ℕ) : Type 0 where
  pub list : List (List ℕ)
  -- Each entry is a reference of one to four names,
  pub lengths : (x : List ℕ) → Memᴰ x list → (1 ≤ length x) × (length x ≤ name_count)
  -- and a reference of one to four names is an entry exactly where the step, asked by u to show it with value and label, accepts, or refuses for want
  -- of room only.
  pub exactly : (x : List ℕ) → 1 ≤ length x → length x ≤ name_count → {b : ℕ} {s : List ℕ} → StepCall t (showing u x) b s
      → Memᴰ x list ↔ ((no_in b ≡ refusal.accepted) ⊎ (no_in b ≡ refusal.no_room))
  -- No entry stands twice,
  pub once : (i j : ℕ) → i < j → j < length list → get_or list i [] ≡ get_or list j [] → ⊥
  -- and they stand in order.
  pub ordered : Sorted list
  -- The number is how many there are, with room or without.
  pub count : number_in a ≡ length list
  -- In a room that is large enough the answer is 0, the entries stand at the front, five words each, and all behind them is as it was.
  pub fits : entry_words * length list ≤ length room → (no_in a ≡ refusal.accepted) × (r ≡ entries list ++ drop (entry_words * length list) room)
  -- In a room that is too short it is 17, and the room is as it was.
  pub short : length room < entry_words * length list → (no_in a ≡ refusal.too_short) × (r ≡ room)

pub record DemandThree : Type 0 where
  -- For a user who is there and logged on, on tables that the check passes, the list is what the record above says.
  pub disclosed : {t room r : List ℕ} {u a : ℕ} → ListCall t u room a r → Admitted t u → Disclosed t u room a r
  -- For anybody else, or on other tables, it is refused, and with the number by which the step refuses to show anything at all.
  pub refused : {t room r : List ℕ} {u a : ℕ} → ListCall t u room a r → (Admitted t u → ⊥)
      → (x : List ℕ) → 1 ≤ length x → length x ≤ name_count → {b : ℕ} {s : List ℕ} → StepCall t (showing u x) b s
      → (no_in a ≡ no_in b) × (no_in a ≢ refusal.accepted)
