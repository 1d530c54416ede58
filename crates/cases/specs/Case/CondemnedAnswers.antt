-- Wrong runs in one call on case state S1, and that the model's statement of a run rejects them (rules 14.3 and 15).
use Rattle.std.specs.Prelude.{List, [], ◌++◌, ◌∷◌, ◌≢◌, ◌≡◌, refl, ◌-◌, ◌<◌, ◌≤◌, ℕ, T, eqb, drop, get_or, length, take}
use Rattle.std.proofs.Common.{subst, sym, arith, length-take-le}
use Rattle.std.proofs.Math.Dec.{eqb_refl}
use Rattle.cases.specs.Case.Cases.{Exchange, Stands, ◌gets◌, asked, asking, entity_is, gotten, in_sixteen, passes_at, stand, user_is}
use Rattle.cases.specs.Case.Opened.{opened}
use Rattle.cases.specs.Case.Others.{none_at, other}
use Rattle.cases.specs.Case.RunLaws.{asked_length, asked_sixteen, case_through}
use Rattle.cases.specs.Case.S1.{s1, s1_sheet}
use Rattle.cases.specs.Case.S1Words.{s1_words, s1_words_length, s1_words_tables}
use Rattle.model.specs.Basics.Together.{together}
use Rattle.model.specs.Request.Ladder.{answer}
use Rattle.model.specs.Request.Words.{Request, request_of}
use Rattle.model.specs.Run.Requests.{Requests}
use Rattle.model.specs.Run.RequestsLaws.{requests_count, requests_whole}
use Rattle.model.specs.Run.Run.{Run, Sizes}
use Rattle.model.proofs.Run.RunLaws.{run_refused_lem, run_sized, run_unique}
use Rattle.model.specs.Tables.Layout.{tables_of, word_count}
use Rattle.model.specs.Tables.Sheet.{padded}
use Rattle.model.specs.Tables.Words.{Tables, held, held_op, missed, released_type, type}
use Rattle.model.specs.Theorem.Statements.{after_all, after_words}
use Rattle.model.specs.Request.Refusals as refusal

-- User 2 is refused 9 and 15, acknowledges 9 and 1 in vain, and then 9 and 3.
abbrev pub four_exchanges : List Exchange
four_exchanges =
    asking 2 10 (4 ∷ 1 ∷ []) [] 3 0 0 gets 9
    ∷ asking 2 10 (5 ∷ []) [] 1 0 0 gets 15
    ∷ asking 2 20 [] [] 9 1 0 gets 16
    ∷ asking 2 20 [] [] 9 3 0 gets 0
    ∷ []

-- nothing is held at the end
abbrev nothing_held : List Stands
nothing_held = user_is 2 held 0 ∷ user_is 2 held_op 0 ∷ user_is 2 missed 0 ∷ []

four_pass : T (passes_at s1 four_exchanges nothing_held)
unfolding opened s1 s1_sheet
four_pass = tt

four_sixteen : T (in_sixteen four_exchanges)
unfolding asking padded
four_sixteen = tt

-- a room with a place to spare
abbrev pub five_places : List ℕ
five_places = 7 ∷ 7 ∷ 7 ∷ 7 ∷ 7 ∷ []

-- The run of the four: each answer in its place, and the fifth place as it was.
abbrev pub right_places : List ℕ
right_places = 9 ∷ 15 ∷ 16 ∷ 0 ∷ 7 ∷ []

-- the words of a case's requests
abbrev pub words_of : List Exchange → List ℕ
words_of es = together (asked es)

-- a case that passes on S1 is its run, in a room with a place for each answer
passed_run : (es : List Exchange) (ws : List Stands) (room : List ℕ) → T (in_sixteen es) → T (passes_at s1 es ws) → length es ≤ length room
    → Run s1_words (words_of es) room refusal.accepted (after_words s1_words (asked es)) (gotten es ++ drop (length (gotten es)) room)
    × T (stand ws (tables_of (after_words s1_words (asked es))))
passed_run es ws room x y h =
    let z = case_through s1_words s1 es ws s1_words_length s1_words_tables x y in
    let p : Requests (words_of es) (asked es) = record { words = refl; sixteen = asked_sixteen es x } in
    let k : Sizes s1_words (words_of es) room =
    record { tables = s1_words_length; multiple = requests_whole p; places = omega (arith, requests_count p, asked_length es) } in (
      record {
        refused = λ n. absurd (n k);
        accepted = λ _. refl;
        answered = λ _. record { requests = asked es; parts = p; answers = gotten es; through = z.0; places = refl };
      },
      z.1,
    )

pub four_run : Run s1_words (words_of four_exchanges) five_places refusal.accepted (after_words s1_words (asked four_exchanges)) right_places
four_run = (passed_run four_exchanges nothing_held five_places four_sixteen four_pass (omega arith)).0

-- User 1 takes on roles 5, and then releases 6; so the tables are others at the end.
abbrev pub two_exchanges : List Exchange
two_exchanges = asking 1 14 [] [] 1 5 0 gets 0 ∷ asking 1 19 (6 ∷ []) [] 0 0 0 gets 0 ∷ []

abbrev released : List Stands
released = entity_is 6 type released_type ∷ []

two_pass : T (passes_at s1 two_exchanges released)
unfolding opened s1 s1_sheet
two_pass = tt

two_sixteen : T (in_sixteen two_exchanges)
unfolding asking padded
two_sixteen = tt

abbrev pub three_places : List ℕ
three_places = 7 ∷ 7 ∷ 7 ∷ []

two_passed : Run s1_words (words_of two_exchanges) three_places refusal.accepted (after_words s1_words (asked two_exchanges)) (0 ∷ 0 ∷ 7 ∷ [])
    × T (stand released (tables_of (after_words s1_words (asked two_exchanges))))
two_passed = passed_run two_exchanges released three_places two_sixteen two_pass (omega arith)

pub two_run : Run s1_words (words_of two_exchanges) three_places refusal.accepted (after_words s1_words (asked two_exchanges)) (0 ∷ 0 ∷ 7 ∷ [])
two_run = two_passed.0

-- ---- what is not its run

-- the answers of requests, each on the same tables
abbrev each_on : Tables → List (List ℕ) → List ℕ
each_on d [] = []
each_on d (q ∷ qs) = answer d (request_of q) ∷ each_on d qs

-- the requests as the model reads them
abbrev requests_of : List (List ℕ) → List Request
requests_of [] = []
requests_of (q ∷ qs) = request_of q ∷ requests_of qs

-- what a run gives that answers the two on the tables d
abbrev two_on : Tables → List ℕ
two_on d = each_on d (asked two_exchanges) ++ (7 ∷ [])

-- Rules 14.3 and 15.3: everything was done at the first request, and each answer given from the tables that all of them leave: the release is then of what
-- is no draft any more.
pub hurried_answers_condemned : (r : List ℕ)
    → Run s1_words (words_of two_exchanges) three_places refusal.accepted r (two_on (after_all s1 (requests_of (asked two_exchanges)))) → ⊥
unfolding opened s1 s1_sheet after_all
hurried_answers_condemned r x =
    other eqb eqb_refl (two_on (after_all s1 (requests_of (asked two_exchanges)))) (0 ∷ 0 ∷ 7 ∷ []) tt (run_unique x two_run).2

-- Rule 15.3: each request found the tables as they were at the start: the release is then without the role.
pub stale_answers_condemned : (r : List ℕ)
    → Run s1_words (words_of two_exchanges) three_places refusal.accepted r (two_on s1) → ⊥
unfolding opened s1 s1_sheet
stale_answers_condemned r x = other eqb eqb_refl (two_on s1) (0 ∷ 0 ∷ 7 ∷ []) tt (run_unique x two_run).2

-- Rule 15.3: the answers are right, and the tables are put back.
still_draft : T (stand released s1) → ⊥
unfolding opened s1 s1_sheet
still_draft t = t

pub put_back_condemned : (s : List ℕ) → Run s1_words (words_of two_exchanges) three_places refusal.accepted s1_words s → ⊥
put_back_condemned s x =
    still_draft (subst (λ (d : Tables). T (stand released d)) s1_words_tables
    (subst (λ (l : List ℕ). T (stand released (tables_of l))) (sym (run_unique x two_run).1) two_passed.1))

-- a run of the four that leaves these places, whatever it makes of the tables
abbrev Leaves : List ℕ → Type 0
Leaves s = (r : List ℕ) → Run s1_words (words_of four_exchanges) five_places refusal.accepted r s → ⊥

-- What else the five places are not:
abbrev pub wrong_places : List (List ℕ)
wrong_places =
    -- nothing is written (rule 15.3)
    five_places
    -- each answer stands one place late, in the spare place too or not (rule 15.3)
    ∷ (7 ∷ 9 ∷ 15 ∷ 16 ∷ 0 ∷ [])
    ∷ (7 ∷ 9 ∷ 15 ∷ 16 ∷ 7 ∷ [])
    -- it stops at the first refusal (rule 15.4)
    ∷ (9 ∷ 7 ∷ 7 ∷ 7 ∷ 7 ∷ [])
    -- the last request is left out, or the first (rule 15.3)
    ∷ (9 ∷ 15 ∷ 16 ∷ 7 ∷ 7 ∷ [])
    ∷ (15 ∷ 16 ∷ 16 ∷ 7 ∷ 7 ∷ [])
    -- all have the first refusal (rule 15.4)
    ∷ (9 ∷ 9 ∷ 9 ∷ 9 ∷ 7 ∷ [])
    -- the place to spare is wiped, or has an answer too (rule 15.3)
    ∷ (9 ∷ 15 ∷ 16 ∷ 0 ∷ 0 ∷ [])
    ∷ (9 ∷ 15 ∷ 16 ∷ 0 ∷ 16 ∷ [])
    -- the answers stand in another order (rule 15.3)
    ∷ (0 ∷ 16 ∷ 15 ∷ 9 ∷ 7 ∷ [])
    -- the room is shorter, or longer (rule 15.3)
    ∷ (9 ∷ 15 ∷ 16 ∷ 0 ∷ [])
    ∷ (9 ∷ 15 ∷ 16 ∷ 0 ∷ 7 ∷ 7 ∷ [])
    ∷ []

pub places_condemned : (i : ℕ) → i < length wrong_places → Leaves (get_or wrong_places i [])
places_condemned i h r x = none_at eqb eqb_refl right_places wrong_places tt i h (run_unique x four_run).2

-- Rule 15.2: the call's own answer is 0: sizes that fit are not refused, and no request's answer is the run's.
pub answers_condemned : (a : ℕ) → a ≢ refusal.accepted → (r s : List ℕ) → Run s1_words (words_of four_exchanges) five_places a r s → ⊥
answers_condemned a n r s x = n (run_unique x four_run).0

-- ---- sizes

-- Rule 15.2: four requests in three places are not accepted,
pub short_condemned : (r s : List ℕ) → Run s1_words (words_of four_exchanges) three_places refusal.accepted r s → ⊥
short_condemned r s x =
    let p : Requests (words_of four_exchanges) (asked four_exchanges) = record { words = refl; sixteen = asked_sixteen four_exchanges four_sixteen } in
    omega (arith, (run_sized x refl).places, requests_count p)

-- and where they are refused no answer is written, though there were places for some;
pub partly_condemned : (r : List ℕ) → Run s1_words (words_of four_exchanges) three_places refusal.bad_length r (9 ∷ 15 ∷ 16 ∷ []) → ⊥
partly_condemned r x = other eqb eqb_refl (9 ∷ 15 ∷ 16 ∷ []) three_places tt (run_refused_lem x (λ e. omega arith)).2

-- a word too few of tables is no matter of the check;
pub sized_condemned : (w room r s : List ℕ) → Run (take (word_count - 1) s1_words) w room refusal.not_well_formed r s → ⊥
sized_condemned w room r s x =
    let h = length-take-le (word_count - 1) s1_words (omega (arith, s1_words_length)) in
    omega (arith, (x.refused (λ z. omega (arith, z.tables, h))).0)

-- and where there is no request nothing is, whatever 2,304 words are lent.
pub empty_run_condemned : (t room r s : List ℕ) (a : ℕ) → length t ≡ word_count → a ≢ refusal.accepted → Run t [] room a r s → ⊥
empty_run_condemned t room r s a h n x = n (x.accepted (record { tables = h; multiple = refl; places = omega arith }))
