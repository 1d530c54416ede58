-- Rule 15.5: any mixture of steps and runs is single steps, and is the run of all its requests.
use Rattle.std.specs.Prelude.{Bool, List, [], ◌++◌, ◌∷◌, ◌≡◌, eqb, leb, drop, get_or, replicate, take}
use Rattle.std.proofs.Math.Bool.{false, true}
use Rattle.std.proofs.Common.{◌∙◌, ap, subst, arith, take-suc}
use Rattle.std.proofs.Math.Path.{ap₂, refl, sym}
use Prim.Native.Nat.{◌*◌, ◌+◌, ◌<◌, ◌≤◌, suc, zero, ℕ}
use Rattle.std.proofs.Math.ListN.{length}
use Rattle.mms.specs.CallLaws.{step_call, step_left, step_no}
use Rattle.mms.specs.Calls.{MixedCalls, Passes, RunCall, SingleSteps, StepCall, alone, no_call, no_in, run_barred, run_done, stepped}
use Rattle.mms.specs.Contract.{numbers}
use Rattle.mms.specs.Demands.{BeginsHistory, MixedHistory, RanAs}
use Rattle.mms.specs.HistoryLaws.{calls_fixed_lem, calls_history_lem, calls_obey_lem, calls_released_lem, calls_sound_lem}
use Rattle.mms.specs.RunCallLaws.{run_accepts, run_spare, run_through, run_unchanged_lem}
use Rattle.model.specs.Basics.Agree.{agrees_eq, agrees_le, agrees_not}
use Rattle.model.specs.Basics.Choice.{Same, it, other, pick, same}
use Rattle.model.specs.Basics.TestLaws.{pick_true}
use Rattle.model.specs.Basics.Together.{together}
use Rattle.model.specs.Request.Step.{Settles, after_of, answer_of}
use Rattle.model.specs.Request.Words.{request_of, request_words}
use Rattle.model.specs.Run.Requests.{AllSixteen, Requests}
use Rattle.model.specs.Run.RequestsLaws.{requests_count, requests_whole}
use Rattle.model.specs.Run.Run.{Sizes}
use Rattle.model.specs.Run.Through.{Through, end, next}
use Rattle.model.proofs.Run.ThroughLaws.{through_append, through_length, through_numbered, through_unique}
use Rattle.model.specs.Tables.Layout.{tables_of, word_count}
use Rattle.model.specs.Theorem.Accountable.{Accountable}
use Rattle.model.proofs.Theorem.AccountableLaws.{steps_accountable}
use Rattle.model.specs.Theorem.Beyond.{ReleasedStays, SameDevices, SameUsers}
use Rattle.model.specs.Theorem.Sequence.{Steps}
use Rattle.model.proofs.Theorem.Steps.{nobody_words, sized_agrees, unsized}
use Rattle.model.proofs.Theorem.Unique.{settles}

-- a call of the step is a step of the model
pub call_settles : {t q r : List ℕ} {a : ℕ} → StepCall t q a r → Settles t q (no_in a) r
call_settles {t} {q} {a = a} x =
    subst (λ (l : List ℕ). Settles t q (no_in a) l) (sym (step_left x)) (subst (λ (n : ℕ). Settles t q n (after_of t q)) (sym (step_no x)) (settles t q))

-- Whatever the mixture, the requests go through the tables one after another.
pub mixed_through : {t u : List ℕ} {qs : List (List ℕ)} {ns : List ℕ} → MixedCalls t qs ns u → Through t qs ns u
mixed_through no_call = end
mixed_through (stepped x m) = next (call_settles x) (mixed_through m)
mixed_through (run_done x e p m) = through_append (run_through x e p) (mixed_through m)
mixed_through {u = u} (run_barred {qs = qs} {ns = ns} x n m) =
    subst (λ (l : List ℕ). Through l qs ns u) (run_unchanged_lem x n).0 (mixed_through m)

-- and so by single steps
pub through_singly : {t u : List ℕ} {qs : List (List ℕ)} {ns : List ℕ} → Through t qs ns u → SingleSteps t qs ns u
through_singly {qs = qs} {ns = ns} x =
    let k = through_numbered x in record {
      tables = k.tables;
      starts = k.starts;
      calls = record {
        each = λ i h.
            let e : answer_of (k.tables i) (get_or qs i []) * numbers + 0 ≡ alone (get_or ns i 0) = omega (arith, k.steps.answered i h) in
            rw (k.steps.left i h, ← e) (step_call (k.tables i) (get_or qs i []));
      };
      many = through_length x;
      ends = k.ends;
    }

module _ {t u : List ℕ} {qs : List (List ℕ)} {ns : List ℕ} (k : SingleSteps t qs ns u) where
  -- Single steps are a sequence of steps of the model,
  pub singly_steps : (i : ℕ) → i ≤ length qs → Steps i k.tables (λ j. get_or qs j []) (λ j. get_or ns j 0)
  singly_steps i h = record {
    answered = λ j l. let z = step_no (k.calls.each j (omega arith)) in omega arith;
    left = λ j l. step_left (k.calls.each j (omega arith));
  }

  -- so each level that is lost is accounted for,
  pub singly_accountable : (i : ℕ) → i ≤ length qs → Accountable i (λ j. tables_of (k.tables j)) (λ j. request_of (get_or qs j [])) (λ j. get_or ns j 0)
  singly_accountable i h = steps_accountable i k.tables (λ j. get_or qs j []) (λ j. get_or ns j 0) (singly_steps i h)

  -- and so many of the requests go through, up to where the tables stand then.
  pub singly_through : (i : ℕ) → i ≤ length qs → Through t (take i qs) (take i ns) (k.tables i)
  singly_through zero h = subst (λ (l : List ℕ). Through t [] [] l) (sym k.starts) end
  singly_through (suc i) h =
      let m = k.many in
      let c = k.calls.each i (omega arith) in
      let e : no_in (alone (get_or ns i 0)) ≡ get_or ns i 0 = omega arith in
      let one : Through (k.tables i) (get_or qs i [] ∷ []) (get_or ns i 0 ∷ []) (k.tables (suc i)) =
      subst (λ (n : ℕ). Through (k.tables i) (get_or qs i [] ∷ []) (n ∷ []) (k.tables (suc i))) e (next (call_settles c) end) in
      rw (take-suc qs i [] (omega arith), take-suc ns i 0 (omega arith)) (through_append (singly_through i (omega arith)) one)

-- ---- the history

-- a request of sixteen words, all zero: nobody asks, and nothing changes
abbrev nothing : List ℕ
nothing = replicate request_words 0

nobody_asks : (request_of nothing).user ≡ 0
unfolding request_of
nobody_asks = refl

-- the request itself where it has sixteen words
of_sixteen : List ℕ → List ℕ
of_sixteen q = pick (eqb (length q) request_words) q nothing

of_sixteen_lem : (q : List ℕ) → length (of_sixteen q) ≡ request_words
unfolding of_sixteen
of_sixteen_lem q = go (eqb (length q) request_words) (same (length q) request_words)
  where
    go : (b : Bool) → Same (length q) request_words b → length (pick b q nothing) ≡ request_words
    go true (it e) = e
    go false n = refl

of_itself : (q : List ℕ) → length q ≡ request_words → of_sixteen q ≡ q
unfolding of_sixteen
of_itself q e = pick_true (eqb (length q) request_words) q nothing ((agrees_eq (length q) request_words).from e)

of_after : (t q : List ℕ) → after_of t (of_sixteen q) ≡ after_of t q
unfolding of_sixteen
of_after t q = go (eqb (length q) request_words) (same (length q) request_words)
  where
    go : (b : Bool) → Same (length q) request_words b → after_of t (pick b q nothing) ≡ after_of t q
    go true e = refl
    go false (other n) = nobody_words t nothing nobody_asks ∙ sym (unsized t q ((agrees_not (sized_agrees t q)).from (λ z. n z.1))).1

-- the words after so many of endless requests
going : List ℕ → (ℕ → List ℕ) → ℕ → List ℕ
going t qs zero = t
going t qs (suc i) = after_of (going t qs i) (qs i)

-- Steps go on for ever with requests that ask nothing, and begin a secure history.
module _ {t : List ℕ} (p : Passes t) (m : ℕ) (tables requests : ℕ → List ℕ) (starts : tables 0 ≡ t)
    (left : (i : ℕ) → i < m → tables (suc i) ≡ after_of (tables i) (requests i)) where
  all : ℕ → List ℕ
  all i = pick (leb (suc i) m) (of_sixteen (requests i)) nothing

  all_within : (i : ℕ) → i < m → all i ≡ of_sixteen (requests i)
  unfolding all
  all_within i h = pick_true (leb (suc i) m) (of_sixteen (requests i)) nothing ((agrees_le (suc i) m).from h)

  all_sixteen : (i : ℕ) → length (all i) ≡ request_words
  unfolding all
  all_sixteen i = go (leb (suc i) m)
    where
      go : (b : Bool) → length (pick b (of_sixteen (requests i)) nothing) ≡ request_words
      go true = of_sixteen_lem (requests i)
      go false = refl

  going_same : (i : ℕ) → i ≤ m → going t all i ≡ tables i
  unfolding going
  going_same zero h = sym starts
  going_same (suc i) h =
      ap₂ after_of (going_same i (omega arith)) (all_within i (omega arith)) ∙ of_after (tables i) (requests i) ∙ sym (left i (omega arith))

  pub begins_history : BeginsHistory m tables requests
  unfolding going
  begins_history = record {
    all_tables = going t all;
    all_requests = all;
    secure = calls_history_lem (going t all) all (λ i. answer_of (going t all i) (all i) * numbers + 0)
        (λ n. record { each = λ i h. step_call (going t all i) (all i) }) p all_sixteen;
    same_tables = going_same;
    same_requests = λ i h e. all_within i h ∙ of_itself (requests i) e;
  }

-- Rules 9.13 and 15.5: any mixture is one secure history.
pub mixed_history_lem : {t u : List ℕ} {qs : List (List ℕ)} {ns : List ℕ} → MixedCalls t qs ns u → MixedHistory t qs ns u
mixed_history_lem {t} {u} {qs} {ns} m =
    let k = through_singly (mixed_through m) in
    let n : ℕ → ℕ = λ i. alone (get_or ns i 0) in
    let q : ℕ → List ℕ = λ i. get_or qs i [] in
    let begun : Passes t → Passes (k.tables 0) = λ p. subst Passes (sym k.starts) p in record {
      singly = k;
      obeys = calls_obey_lem (length qs) k.tables q n k.calls;
      accountable = singly_accountable k;
      sound = λ p. calls_sound_lem (length qs) k.tables q n k.calls (begun p);
      history = λ p. begins_history p (length qs) k.tables q k.starts (singly_steps k (length qs) (omega arith)).left;
      released = λ p. subst (λ (l : List ℕ). ReleasedStays (tables_of t) (tables_of l)) k.ends
          (subst (λ (l : List ℕ). ReleasedStays (tables_of l) (tables_of (k.tables (length qs)))) k.starts
          (calls_released_lem (length qs) k.tables q n k.calls (begun p)));
      fixed = λ p. subst (λ (l : List ℕ). Fixed t l) k.ends (subst (λ (l : List ℕ). Fixed l (k.tables (length qs))) k.starts
          (calls_fixed_lem (length qs) k.tables q n k.calls (begun p)));
    }
  where
    Fixed : List ℕ → List ℕ → Type 0
    Fixed a b = SameUsers (tables_of a) (tables_of b) × SameDevices (tables_of a) (tables_of b)

-- Rule 15.5: two mixtures of the same requests on the same tables are alike.
pub mixed_once_lem : {t u v : List ℕ} {qs : List (List ℕ)} {ns ms : List ℕ} → MixedCalls t qs ns u → MixedCalls t qs ms v → (ns ≡ ms) × (u ≡ v)
mixed_once_lem x y = through_unique (mixed_through x) (mixed_through y)

-- ---- the run of all

-- Rule 15.5: the run of all requests of a mixture, in any room with a place for each, is the mixture.
pub through_run : {t u room r s : List ℕ} {qs : List (List ℕ)} {ns : List ℕ} {a : ℕ} → Through t qs ns u → AllSixteen qs → length t ≡ word_count
    → length qs ≤ length room → RunCall t (together qs) room a r s → RanAs room ns u a r s
through_run {t} {room = room} {qs = qs} {ns = ns} x h l z c =
    let p : Requests (together qs) qs = record { words = refl; sixteen = h } in
    let f : Sizes t (together qs) room = record { tables = l; multiple = requests_whole p; places = omega (arith, requests_count p) } in
    let e = (run_accepts c).1 f in
    let w = through_unique (run_through c e p) x in
    record {
      accepted = e;
      tables = w.1;
      answers = run_spare c e p ∙ ap (λ (y : List ℕ). y ++ drop (length y) room) w.0;
    }
