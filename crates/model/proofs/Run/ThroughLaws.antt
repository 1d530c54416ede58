-- The laws of requests one after another: they have one list of answers and leave one list of words, those of single steps; and wherever they are cut
-- into pieces, the pieces one after another are the whole.
use Rattle.std.specs.Prelude.{List, [], ◌++◌, ◌∷◌, ◌≢◌, ◌≡◌, refl, ◌<◌, suc, zero, ℕ, get_or, length, take}
use Rattle.std.proofs.Common.{◌∙◌, ap, ap₂, subst, sym, arith}
use Rattle.std.proofs.Math.Seq.{take-length}
use Rattle.model.specs.Basics.Together.{together}
use Rattle.model.specs.Request.Step.{after_of, answer_of}
use Rattle.model.specs.Run.Requests.{AllSixteen}
use Rattle.model.specs.Run.Through.{AsSteps, Halves, Pieces, Through, answers_to, end, next, no_piece, piece}
use Rattle.model.specs.State.Check.{check}
use Rattle.model.proofs.Theorem.SequenceUnique.{listed_steps}
use Rattle.model.specs.Theorem.Statements.{after_words}
use Rattle.model.proofs.Theorem.Steps.{check_refuses}
use Rattle.model.proofs.Theorem.Unique.{settles, settles_unique}
use Rattle.model.specs.Request.Refusals as refusal

-- ---- one result

-- Rule 15.3: there is one,
pub through_steps : (t : List ℕ) (qs : List (List ℕ)) → Through t qs (answers_to t qs) (after_words t qs)
unfolding answers_to after_words
through_steps t [] = end
through_steps t (q ∷ qs) = next (settles t q) (through_steps (after_of t q) qs)

-- and one only.
pub through_unique : {t r s : List ℕ} {qs : List (List ℕ)} {ns ms : List ℕ} → Through t qs ns r → Through t qs ms s → (ns ≡ ms) × (r ≡ s)
through_unique end end = (refl, refl)
through_unique {s = s} (next {t} {q} {r} {u} {a} {qs} x f) (next {r = r'} {a = a'} {ns = ms} y g) =
    let e = settles_unique t q a a' r r' x y in
    let g' : Through r qs ms s = subst (λ (l : List ℕ). Through l qs ms s) (sym e.1) g in
    let z = through_unique f g' in
    (ap₂ ◌∷◌ e.0 z.0, z.1)

-- So it is what the steps answer and leave.
pub through_are : {t r : List ℕ} {qs : List (List ℕ)} {ns : List ℕ} → Through t qs ns r → (ns ≡ answers_to t qs) × (r ≡ after_words t qs)
through_are {t} {qs = qs} x = through_unique x (through_steps t qs)

-- a place for each request
pub through_length : {t r : List ℕ} {qs : List (List ℕ)} {ns : List ℕ} → Through t qs ns r → length ns ≡ length qs
through_length end = refl
through_length (next x f) = ap suc (through_length f)

pub answers_length : (t : List ℕ) (qs : List (List ℕ)) → length (answers_to t qs) ≡ length qs
answers_length t qs = through_length (through_steps t qs)

-- the answer at a place is that of the tables after exactly the requests before it
pub answers_at : (t : List ℕ) (qs : List (List ℕ)) (i : ℕ) → i < length qs
    → get_or (answers_to t qs) i 0 ≡ answer_of (after_words t (take i qs)) (get_or qs i [])
unfolding answers_to after_words
answers_at t [] i h = absurd (omega arith)
answers_at t (q ∷ qs) zero h = refl
answers_at t (q ∷ qs) (suc i) h = answers_at (after_of t q) qs i (omega arith)

-- the answers to one request more
pub answers_next : (t : List ℕ) (qs : List (List ℕ)) (i : ℕ) → i < length qs
    → answers_to t (take (suc i) qs) ≡ answers_to t (take i qs) ++ (answer_of (after_words t (take i qs)) (get_or qs i []) ∷ [])
unfolding answers_to after_words
answers_next t [] i h = absurd (omega arith)
answers_next t (q ∷ qs) zero h = refl
answers_next t (q ∷ qs) (suc i) h = ap (λ l. answer_of t q ∷ l) (answers_next (after_of t q) qs i (omega arith))

-- Rule 15.3: the requests are numbered steps.
pub through_numbered : {t r : List ℕ} {qs : List (List ℕ)} {ns : List ℕ} → Through t qs ns r → AsSteps t qs ns r
unfolding after_words
through_numbered {t} {r} {qs} {ns} x =
    let e = through_are x in
    let s = listed_steps t qs in record {
      tables = λ i. after_words t (take i qs);
      starts = refl;
      steps = record {
        answered = λ i h. ap (λ (l : List ℕ). get_or l i 0) e.0 ∙ answers_at t qs i h;
        left = s.left;
      };
      ends = ap (after_words t) (take-length qs) ∙ sym e.1;
    }

-- ---- cuts

-- Rule 15.5: requests and then others are all of them,
pub through_append : {t r u : List ℕ} {ps qs : List (List ℕ)} {ns ms : List ℕ} → Through t ps ns r → Through r qs ms u → Through t (ps ++ qs) (ns ++ ms) u
through_append end y = y
through_append (next s x) y = next s (through_append x y)

-- and all of them, cut anywhere, are the first and then the others.
pub through_cut : {t u : List ℕ} (ps : List (List ℕ)) {qs : List (List ℕ)} {ns : List ℕ} → Through t (ps ++ qs) ns u → Halves t ps qs ns u
through_cut {t} [] {ns = ns} x = record { first = []; second = ns; between = t; answers = refl; before = end; behind = x }
through_cut (p ∷ ps) (next {a = a} s x) =
    let h = through_cut ps x in record {
      first = a ∷ h.first;
      second = h.second;
      between = h.between;
      answers = ap (λ l. a ∷ l) h.answers;
      before = next s h.before;
      behind = h.behind;
    }

-- So it is with any number of pieces: one after another they are the whole,
pub pieces_through : {t u : List ℕ} {ps : List (List (List ℕ))} {ns : List ℕ} → Pieces t ps ns u → Through t (together ps) ns u
pieces_through no_piece = end
pieces_through (piece x p) = through_append x (pieces_through p)

-- and the whole is the pieces.
pub through_pieces : {t u : List ℕ} (ps : List (List (List ℕ))) {ns : List ℕ} → Through t (together ps) ns u → Pieces t ps ns u
through_pieces [] end = no_piece
through_pieces {t} {u} (qs ∷ ps) {ns} x =
    let h = through_cut qs x in
    subst (λ (l : List ℕ). Pieces t (qs ∷ ps) l u) (sym h.answers) (piece h.before (through_pieces {t = h.between} ps h.behind))

-- ---- tables that fail the check

-- Rule 15.4: words that fail the state check stay, and every request is answered with its number.
pub through_refused : {t r : List ℕ} {qs : List (List ℕ)} {ns : List ℕ} → Through t qs ns r → AllSixteen qs → check t ≢ refusal.accepted
    → (r ≡ t) × ((i : ℕ) → i < length qs → get_or ns i 0 ≡ check t)
through_refused end h n = (refl, λ i k. absurd (omega arith))
through_refused (next {t} {q} {r} {u} {a} {qs} {ns} s x) h n =
    let e = settles_unique t q a (answer_of t q) r (after_of t q) s (settles t q) in
    let c = check_refuses t q h.0 n in
    let l : r ≡ t = e.1 ∙ c.1 in
    let z = through_refused x h.1 (λ k. n (ap check (sym l) ∙ k)) in
    (z.0 ∙ l, at (e.0 ∙ c.0) (λ i k. z.1 i k ∙ ap check l))
  where
    at : a ≡ check t → ((i : ℕ) → i < length qs → get_or ns i 0 ≡ check t) → (i : ℕ) → i < suc (length qs) → get_or (a ∷ ns) i 0 ≡ check t
    at e f zero k = e
    at e f (suc i) k = f i (omega arith)
