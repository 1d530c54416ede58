-- Document 01, "What a reader can rely on"; document 02, M-100 and M-103: the calls that are linked, as sentences about what was lent, the word that C gets and
-- what stands afterwards. Each is what the call's contract in src/lib.rt ensures, under a name that can be read aloud.
use Rattle.std.specs.Prelude.{List, [], ◌++◌, ◌∷◌, ◌≢◌, ◌⊎◌, ◌≡◌, ◌%◌, ◌*◌, ◌/◌, ◌<◌, ◌≤◌, suc, ℕ, drop, get_or, length, take}
use Rattle.mms.specs.Contract.{Exports, Listing, Reading, ReadingTables, Running, Stepping, Writing, WritingTables, checking, exported, numbers}
use Rattle.model.specs.Request.Words.{request_of}
use Rattle.model.specs.Run.Requests.{Requests}
use Rattle.model.specs.Script.Reports.{Report, unread}
use Rattle.model.specs.Script.Runs.{requests, texts}
use Rattle.model.specs.State.Secure.{Secure}
use Rattle.model.specs.State.WellFormed.{WellFormed}
use Rattle.model.specs.Tables.Layout.{tables_of, user_at, word_count}
use Rattle.model.specs.Tables.Words.{first_noticed, held, missed}
use Rattle.model.specs.Text.Textual.{AllWritten, Written}
use Rattle.model.specs.Text.Wording.{Wording, text_of}
use Rattle.model.specs.Request.Refusals as refusal

-- `mms_check`, lent the words t, answers a.
abbrev pub CheckCall : List ℕ → ℕ → Type 0
CheckCall t a = a ≡ exported (checking t)

-- `mms_step`, lent the tables t and the request q, answers a and leaves r in the tables.
abbrev pub StepCall : List ℕ → List ℕ → ℕ → List ℕ → Type 0
StepCall t q a r = Exports (Stepping t q) a r

-- `mms_list`, lent the tables t and a room, and given the user u, answers a and leaves r in the room.
abbrev pub ListCall : List ℕ → ℕ → List ℕ → ℕ → List ℕ → Type 0
ListCall t u room a r = Exports (Listing t u room) a r

-- `mms_read`, lent the text s and the request w, answers a and leaves r in the request.
abbrev pub ReadCall : List ℕ → List ℕ → ℕ → List ℕ → Type 0
ReadCall s w a r = Exports (Reading s w) a r

-- `mms_write`, lent the request w and a room, answers a and leaves r in the room.
abbrev pub WriteCall : List ℕ → List ℕ → ℕ → List ℕ → Type 0
WriteCall w room a r = Exports (Writing w room) a r

-- `mms_run`, lent the tables t, the words w of requests and a room for answers, answers a, and leaves r in the tables and s in the room.
abbrev pub RunCall : List ℕ → List ℕ → List ℕ → ℕ → List ℕ → List ℕ → Type 0
RunCall t w room a r s = Exports (λ b u. Running t w room b u s) a r

-- `mms_write_tables`, lent the tables t and a room, answers a and leaves r in the room.
abbrev pub WriteTablesCall : List ℕ → List ℕ → ℕ → List ℕ → Type 0
WriteTablesCall t room a r = Exports (WritingTables t room) a r

-- `mms_read_tables`, lent the text s and the words t, answers a and leaves r in the words.
abbrev pub ReadTablesCall : List ℕ → List ℕ → ℕ → List ℕ → Type 0
ReadTablesCall s t a r = Exports (ReadingTables s t) a r

-- Rules 14.1 and 14.2: what a call promises can be met, and by one answer and one thing left only. That the code ends and meets it, the toolchain proves.
pub record OneAnswer (Call : ℕ → List ℕ → Type 0) : Type 0 where
  pub ends : (a : ℕ) × (r : List ℕ) × Call a r
  pub once : (a b : ℕ) (r s : List ℕ) → Call a r → Call b s → (a ≡ b) × (r ≡ s)

-- Rule 8.6: the answer in the word that C gets,
abbrev pub no_in : ℕ → ℕ
no_in a = a / numbers

-- and the number that goes with it.
abbrev pub number_in : ℕ → ℕ
number_in a = a % numbers

-- who asks: word 0 of a request
abbrev pub requester : List ℕ → ℕ
requester q = (request_of q).user

-- `mms_check` passes the words t.
abbrev pub Passes : List ℕ → Type 0
Passes t = CheckCall t refusal.accepted

-- Rules 2.1, 3 and 4: the words are tables, well-formed and secure.
pub record Sound (t : List ℕ) : Type 0 where
  pub size : length t ≡ word_count
  pub well_formed : WellFormed (tables_of t)
  pub secure : Secure (tables_of t)

-- Rule 8.5: what the words t lack, by the check's numbers.
pub data Unsound (t : List ℕ) : ℕ → Type 0 where
  bad_length : length t ≢ word_count → Unsound t refusal.bad_length
  not_well_formed : (WellFormed (tables_of t) → ⊥) → Unsound t refusal.not_well_formed
  not_secure : (Secure (tables_of t) → ⊥) → Unsound t refusal.not_secure

-- Calls of `mms_step` one after another, m of them, each given what the last one left. A request may have any length.
pub record StepCalls (m : ℕ) (tables requests : ℕ → List ℕ) (answers : ℕ → ℕ) : Type 0 where
  pub each : (i : ℕ) → i < m → StepCall (tables i) (requests i) (answers i) (tables (suc i))

-- Rule 15.5: calls of `mms_step` and of `mms_run` in any order, from the tables t on, each given what the last one left. Together they have put the
-- requests qs, one after another, which were answered ns, and have left u. A run that is refused puts no request.
pub data MixedCalls : List ℕ → List (List ℕ) → List ℕ → List ℕ → Type 0 where
  no_call : {t : List ℕ} → MixedCalls t [] [] t
  stepped : {t q r u : List ℕ} {a : ℕ} {qs : List (List ℕ)} {ns : List ℕ} → StepCall t q a r → MixedCalls r qs ns u → MixedCalls t (q ∷ qs) (no_in a ∷ ns) u
  run_done : {t w room r s u : List ℕ} {a : ℕ} {ps qs : List (List ℕ)} {ns : List ℕ} → RunCall t w room a r s → no_in a ≡ refusal.accepted → Requests w ps
      → MixedCalls r qs ns u → MixedCalls t (ps ++ qs) (take (length ps) s ++ ns) u
  run_barred : {t w room r s u : List ℕ} {a : ℕ} {qs : List (List ℕ)} {ns : List ℕ} → RunCall t w room a r s → no_in a ≢ refusal.accepted
      → MixedCalls r qs ns u → MixedCalls t qs ns u

-- the word that C gets of an answer with which no number goes
abbrev pub alone : ℕ → ℕ
alone n = n * numbers

-- The requests qs, put to the tables t by calls of `mms_step` alone: they are answered ns, an answer for each, and leave u.
pub record SingleSteps (t : List ℕ) (qs : List (List ℕ)) (ns u : List ℕ) : Type 0 where
  pub tables : ℕ → List ℕ
  pub starts : tables 0 ≡ t
  pub calls : StepCalls (length qs) tables (λ i. get_or qs i []) (λ i. alone (get_or ns i 0))
  pub many : length ns ≡ length qs
  pub ends : tables (length qs) ≡ u

-- Rule 8.2: r differs from t in words 5 to 7 of the user u, or in none.
pub record OnlyNotice (t : List ℕ) (u : ℕ) (r : List ℕ) : Type 0 where
  pub size : length r ≡ length t
  pub others : (i : ℕ) → (user_at u held ≤ i → i ≤ user_at u missed → ⊥) → get_or r i 0 ≡ get_or t i 0

-- Rules 11.3 and 16.4: a writer, with the answer b and what stands in the room afterwards, has written the text s, or had too little room for it.
pub record TextWritten (s room : List ℕ) (b : ℕ) (r : List ℕ) : Type 0 where
  pub bytes : number_in b ≡ length s
  pub fits : length s ≤ length room → (no_in b ≡ refusal.accepted) × (r ≡ s ++ drop (length s) room)
  pub short : length room < length s → (no_in b ≡ refusal.too_short) × (r ≡ room)

-- Rule 12.4: no text of a request stands at the front of the bytes s.
abbrev pub NoRequest : List ℕ → Type 0
NoRequest s = (m : Wording) (x : List ℕ) → Written m → s ≡ text_of m ++ x → ⊥

-- Rule 12.3: the report p tells what `mms_step` answered to q and left: the answer, and the requester's words 5 and 7; with 1 to 4 nobody's.
pub record Tells (p : Report) (q : List ℕ) (a : ℕ) (r : List ℕ) : Type 0 where
  pub answer : p.answer ≡ no_in a
  pub told : (no_in a ≡ refusal.accepted) ⊎ (first_noticed ≤ no_in a)
      → (p.held ≡ (tables_of r).user (requester q) held) × (p.missed ≡ (tables_of r).user (requester q) missed)
  pub untold : refusal.bad_length ≤ no_in a → no_in a < first_noticed → (p.held ≡ 0) × (p.missed ≡ 0)

-- Rule 12.2: the script s from the tables t on, as far as s' and the tables t', is calls of `mms_step`: it begins with texts of requests, which are put to
-- the tables in order, and the reports rs tell of the calls, one of each.
pub record ScriptCalls (t s : List ℕ) (rs : List Report) (t' s' : List ℕ) : Type 0 where
  pub wordings : List Wording
  pub written : AllWritten wordings
  pub text : s ≡ texts wordings ++ s'
  pub many : length rs ≡ length wordings
  pub tables : ℕ → List ℕ
  pub answers : ℕ → ℕ
  pub starts : tables 0 ≡ t
  pub calls : StepCalls (length rs) tables (λ i. get_or (requests wordings) i []) answers
  pub ends : tables (length rs) ≡ t'
  pub tells : (i : ℕ) → i < length rs → Tells (get_or rs i unread) (get_or (requests wordings) i []) (answers i) (tables (suc i))
