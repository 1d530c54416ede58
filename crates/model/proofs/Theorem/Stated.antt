-- The answer is the lowest number whose refusal applies, and 0 where none does: the ladder is what `Request/Applies` states (rules 7.0 to 7.16).
use Rattle.std.specs.Prelude.{Bool, false, true, ◌↔◌, ◌≡◌, refl}
use mathlib.Core.List.{List, Memᴰ, [], ◌∷◌}
use Rattle.std.proofs.Math.Path.{subst}
use Rattle.std.proofs.Common.{sym, lit<}
use Prim.Native.Nat.{◌+◌, ◌<◌, suc, zero, ℕ}
use native.Mathlib.Omega.{arith}
use Rattle.std.proofs.Math.Dec.{T}
use Rattle.model.specs.Basics.Agree.{Agrees, agrees_not}
use Rattle.model.specs.Basics.Fails.{fails_agrees}
use Rattle.model.specs.Basics.TestLaws.{is_false, is_true}
use Rattle.model.specs.Request.Applies.{Applies, AppliesTo, Lowest, Own, Refers, Suits, bad_length, bad_request, lowest, marked, no_access, no_such_name}
use Rattle.model.specs.Request.Applies.{none, not_logged_on, not_secure, not_well_formed, on_tables, own_refusal, unknown_requester, wrong_kind}
use Rattle.model.proofs.Request.AppliesLaws.{kinds_suit, leads_operand, leads_nowhere_agrees}
use Rattle.model.proofs.Request.AppliesLaws.{no_access_agrees, not_cleared_agrees, not_logged_on_agrees, not_understood_agrees, operand_leads}
use Rattle.model.proofs.Request.AppliesLaws.{wrong_kind_agrees}
use Rattle.model.specs.Request.Allowed.{Operand, Permitted}
use Rattle.model.specs.Request.Asked.{asked, basis_of, operand}
use Rattle.model.specs.Request.Form.{Fits}
use Rattle.model.specs.Request.Ladder.{IsAnswer, Rung, answer, applies, ladder, never, own_rung, refused, rung_at}
use Rattle.model.specs.Request.LadderLaws.{answer_is, of_op_agrees, own_rung_lem}
use Rattle.model.proofs.Request.OperationLaws.{Found, found_names, names_found}
use Rattle.model.specs.Request.Operations.{Op, number_of, row_of}
use Rattle.model.proofs.Request.OwnLaws.{Spoken, Suited, own_agrees, own_number}
use Rattle.model.proofs.Request.RungLaws.{leads_nowhere_fails, not_secure_fails, not_understood_fails, not_well_formed_fails, own_rung_fails}
use Rattle.model.proofs.Request.RungLaws.{unknown_user_fails}
use Rattle.model.specs.Request.Step.{answer_of, sized}
use Rattle.model.specs.Request.Words.{Request, request_of}
use Rattle.model.specs.State.WellFormed.{WellFormed}
use Rattle.model.specs.Tables.Layout.{Bounded, tables_of}
use Rattle.model.specs.Tables.LayoutLaws.{bounded}
use Rattle.model.specs.Tables.Words.{Tables}
use Rattle.model.proofs.Theorem.Steps.{answer_of_sized, sized_agrees, unsized}
use Rattle.model.specs.Request.Refusals as refusal

-- a request reaches rung n: no lower one applies
abbrev pub Reaches : ℕ → Tables → Request → Type 0
Reaches n d q = (m : ℕ) → m < n → applies m d q ≡ false

-- Something holds of every rung of a list, by number.
abbrev AllRungs : ℕ → List Rung → (ℕ → Rung → Type 0) → Type 0
AllRungs n [] P = Unit {0}
AllRungs n (r ∷ rs) P = P n r × AllRungs (suc n) rs P

-- It holds of the one at place k, where that applies.
rung_at_lem : (n k : ℕ) (rs : List Rung) (P : ℕ → Rung → Type 0) (d : Tables) (q : Request) → AllRungs n rs P → T (rung_at k rs d q) → P (n + k) (rung_at k rs)
unfolding rung_at never
rung_at_lem n k [] P d q a t = absurd t
rung_at_lem n zero (r ∷ rs) P d q a t = let e : n + 0 ≡ n = omega arith in rw e a.0
rung_at_lem n (suc k) (r ∷ rs) P d q a t = let e : n + suc k ≡ suc n + k = omega arith in rw e (rung_at_lem (suc n) k rs P d q a.1 t)

module _ (d : Tables) (b : Bounded d) (q : Request) where
  module _ (n : ℕ) (r : Reaches n d q) where
    -- past rung 2 the tables are well-formed,
    well : refusal.not_well_formed < n → WellFormed d
    unfolding applies rung_at ladder
    well h = (not_well_formed_fails d q b).to (is_false _ (r refusal.not_well_formed h))

    -- past rung 5 the request fits the operation that it names,
    form : refusal.bad_request < n → (o : Op) → Found q o → Fits o q
    unfolding applies rung_at ladder
    form h o e =
        let z = (not_understood_fails d q).to (is_false _ (r refusal.bad_request h)) in
        subst (λ (p : Op). Fits p q) (let i : z.0 ≡ o = cc in i) z.2

    -- past rung 7 each of its references leads to an operand,
    referring : refusal.no_such_name < n → (o : Op) (k : ℕ) → Found q o → Operand o k → Refers o k d q (basis_of (asked d q) k) (operand (asked d q) k)
    unfolding applies rung_at ladder
    referring h o k e i = record {
      named = found_names q o e;
      taken = i;
      leads = operand_leads d q k ((leads_nowhere_fails d q o e).to (is_false _ (r refusal.no_such_name h)) k i);
    }

    -- past rung 10 its operands suit it,
    suited : refusal.wrong_kind < n → (o : Op) → Found q o → Suited o (asked d q) d
    unfolding applies rung_at ladder asked
    suited h o e = record {
      well_formed = well (omega arith);
      arguments = (form (omega arith) o e).arguments;
      operands = kinds_suit d q o e (is_false _ (r refusal.wrong_kind h));
    }

    -- and past rung 11 the user spoken of is there.
    spoken : (o : Op) → Found q o → Spoken n o (asked d q) d
    unfolding applies rung_at ladder
    spoken o e h = (own_rung_fails d q o e refusal.no_such_user).to (is_false _ (r refusal.no_such_user h))

  -- Rules 7.11 to 7.16: a rung of the operation's own that applies is stated.
  own_stated : (n : ℕ) → refusal.wrong_kind < n → Reaches n d q → T (own_rung n d q) → Applies d q n
  unfolding own_rung
  own_stated n h r t =
      let z = (of_op_agrees q (λ o. refused n (row_of o).conditions d (asked d q))).to t in
      own_refusal z.0 (found_names q z.0 z.1) ((own_agrees d (asked d q) z.0 n (suited n r h z.0 z.1) (spoken n r z.0 z.1)).to z.2)

  -- Each rung that is reached and applies is stated,
  rung_stated : AllRungs 0 (never ∷ never ∷ ladder) (λ n rung. Reaches n d q → T (rung d q) → Applies d q n)
  unfolding applies rung_at ladder never
  rung_stated =
      let Stated : ℕ → Type 0 = λ n. Reaches n d q → T (applies n d q) → Applies d q n in
      let s0 : Stated refusal.accepted = λ r t. absurd t in
      let s1 : Stated refusal.bad_length = λ r t. absurd t in
      let s2 : Stated refusal.not_well_formed = λ r t. not_well_formed ((fails_agrees (not_well_formed_fails d q b)).to t) in
      let s3 : Stated refusal.not_secure = λ r t. not_secure ((fails_agrees (not_secure_fails d q (well refusal.not_secure r (lit< tt)))).to t) in
      let s4 : Stated refusal.unknown_requester = λ r t. unknown_requester ((fails_agrees (unknown_user_fails d q)).to t) in
      let s5 : Stated refusal.bad_request = λ r t. bad_request (λ o e. (not_understood_agrees d q).to t o (names_found q o e)) in
      let s6 : Stated refusal.not_logged_on = λ r t. let z = (not_logged_on_agrees d q).to t in not_logged_on z.0 (found_names q z.0 z.1) z.2 z.3 in
      let s7 : Stated refusal.no_such_name = λ r t. let z = (leads_nowhere_agrees d q (well refusal.no_such_name r (lit< tt))).to t in
      no_such_name z.0 z.1 (found_names q z.0 z.2) z.3 z.4 in
      let s8 : Stated refusal.no_access = λ r t. let z = (no_access_agrees d q).to t in
      no_access z.0 z.1 _ _ (referring refusal.no_access r (lit< tt) z.0 z.1 z.2 z.3) z.4 in
      let s9 : Stated refusal.marked = λ r t. let z = (not_cleared_agrees d q).to t in
      marked z.0 z.1 _ z.4.0 _ (referring refusal.marked r (lit< tt) z.0 z.1 z.2 z.3) z.4.1 z.4.2 z.4.3 in
      let s10 : Stated refusal.wrong_kind = λ r t. let z = (wrong_kind_agrees d q).to t in
      wrong_kind z.0 z.1 _ _ (referring refusal.wrong_kind r (lit< tt) z.0 z.1 z.2 z.3) z.4 in
      let s11 = own_stated refusal.no_such_user (lit< tt) in
      let s12 = own_stated refusal.role_missing (lit< tt) in
      let s13 = own_stated refusal.level_or_roles (lit< tt) in
      let s14 = own_stated refusal.no_room (lit< tt) in
      let s15 = own_stated refusal.arrangement (lit< tt) in
      let s16 = own_stated refusal.not_acknowledged (lit< tt) in
      (s0, (s1, (s2, (s3, (s4, (s5, (s6, (s7, (s8, (s9, (s10, (s11, (s12, (s13, (s14, (s15, (s16, tt)))))))))))))))))

  applied_stated : (n : ℕ) → Reaches n d q → T (applies n d q) → Applies d q n
  unfolding applies
  applied_stated n r t =
      let e : 0 + n ≡ n = omega arith in
      rw e at (rung_at_lem 0 n (never ∷ never ∷ ladder) (λ n rung. Reaches n d q → T (rung d q) → Applies d q n) d q rung_stated t) r t

  own_applied : (n : ℕ) → Reaches n d q → (o : Op) → Found q o → Own (asked d q) d o n → T (applies n d q)
  unfolding own_rung
  own_applied n r o e z =
      let i = own_number d (asked d q) z in
      let t = (own_agrees d (asked d q) o n (suited n r (omega arith) o e) (spoken n r o e)).from z in
      subst T (sym (own_rung_lem n i.0 i.1 d q)) ((of_op_agrees q (λ o. refused n (row_of o).conditions d (asked d q))).from (o, e, t))

  -- and each that is reached and stated applies.
  stated_applied : {n : ℕ} → Reaches n d q → Applies d q n → T (applies n d q)
  unfolding applies rung_at ladder
  stated_applied r (not_well_formed f) = (fails_agrees (not_well_formed_fails d q b)).from f
  stated_applied r (not_secure f) = (fails_agrees (not_secure_fails d q (well refusal.not_secure r (lit< tt)))).from f
  stated_applied r (unknown_requester f) = (fails_agrees (unknown_user_fails d q)).from f
  stated_applied r (bad_request f) = (not_understood_agrees d q).from (λ o e. f o (found_names q o e))
  stated_applied r (not_logged_on o e w z) = (not_logged_on_agrees d q).from (o, names_found q o e, w, z)
  stated_applied r (no_such_name o k e i f) = (leads_nowhere_agrees d q (well refusal.no_such_name r (lit< tt))).from (o, k, names_found q o e, i, f)
  stated_applied r (no_access o k x way h f) =
      let l = leads_operand d q k x way h.leads in
      (no_access_agrees d q).from (o, k, names_found q o h.named, h.taken, λ p. f (subst (Permitted d q.user (number_of o) k) l.0 p))
  stated_applied r (marked o k x y way h m n f) =
      let l = leads_operand d q k x way h.leads in
      (not_cleared_agrees d q).from (o, k, names_found q o h.named, h.taken, (y, subst (Memᴰ y) (sym l.1) m, n, f))
  stated_applied r (wrong_kind o k x way h f) =
      let l = leads_operand d q k x way h.leads in
      (wrong_kind_agrees d q).from (o, k, names_found q o h.named, h.taken, λ p. f (subst (Suits o k d) l.0 p))
  stated_applied {n} r (own_refusal o e z) = own_applied n r o (names_found q o e) z

  -- Rules 7.2 to 7.16: a rung that is reached applies exactly where its refusal does.
  pub rung_agrees : (n : ℕ) → Reaches n d q → Agrees (applies n d q) (Applies d q n)
  rung_agrees n r = record { to = applied_stated n r; from = stated_applied r }

  -- Rule 7.0: the answer is the lowest refusal that applies.
  answer_lowest : Lowest (Applies d q) (answer d q)
  answer_lowest = go (answer d q) (answer_is d q)
    where
      no : (m : ℕ) → Reaches m d q → applies m d q ≡ false → Applies d q m → ⊥
      no m r e z = (agrees_not (rung_agrees m r)).to (is_false (applies m d q) e) z

      go : (n : ℕ) → IsAnswer d q n → Lowest (Applies d q) n
      go zero i = none (λ m z. no m (λ k l. i.accepted refl k) (i.accepted refl m) z)
      go (suc n) i = lowest ((rung_agrees (suc n) i.below).to (is_true _ (i.applied (λ e. omega arith))))
          (λ m l z. no m (λ k h. i.below k (omega arith)) (i.below m l) z)

-- There is one such number at most.
pub lowest_unique : {P : ℕ → Type 0} {m n : ℕ} → Lowest P m → Lowest P n → m ≡ n
lowest_unique (lowest {n = m} p f) (lowest {n = n} q g) =
    let h : ¬ (m < n) = λ l. g m l p in
    let k : ¬ (n < m) = λ l. f n l q in
    omega arith
lowest_unique (lowest {n = m} p f) (none g) = absurd (g m p)
lowest_unique (none g) (lowest {n = n} p f) = absurd (g n p)
lowest_unique (none f) (none g) = refl

-- what is a lowest number is the lowest
lowest_exactly : {P : ℕ → Type 0} {m : ℕ} → Lowest P m → (n : ℕ) → (m ≡ n) ↔ Lowest P n
lowest_exactly {P} z n = (λ e. subst (Lowest P) e z, λ y. lowest_unique z y)

-- Rule 7.0: of tables with nothing outside their records, and of any request, the answer is n exactly where n is the lowest number whose refusal
-- applies, or is 0 and none does.
pub answer_stated : (d : Tables) → Bounded d → (q : Request) (n : ℕ) → (answer d q ≡ n) ↔ Lowest (Applies d q) n
answer_stated d b q n = lowest_exactly (answer_lowest d b q) n

-- of words of the right lengths the tables tell,
on_tables_only : (t q : List ℕ) → T (sized t q) → (m : ℕ) → AppliesTo t q m → Applies (tables_of t) (request_of q) m
on_tables_only t q s m (bad_length f) = let l = (sized_agrees t q).to s in absurd (f l.0 l.1)
on_tables_only t q s m (on_tables z) = z

words_lowest : (t q : List ℕ) → T (sized t q) → (n : ℕ) → Lowest (Applies (tables_of t) (request_of q)) n → Lowest (AppliesTo t q) n
words_lowest t q s n (lowest z f) = lowest (on_tables z) (λ m l y. f m l (on_tables_only t q s m y))
words_lowest t q s n (none f) = none (λ m y. f m (on_tables_only t q s m y))

-- and of others nothing is below rung 1.
words_first : (t q : List ℕ) (m : ℕ) → m < refusal.bad_length → AppliesTo t q m → ⊥
unfolding applies rung_at never
words_first t q m l (bad_length f) = omega arith
words_first t q m l (on_tables z) =
    let e : m ≡ 0 = omega arith in
    (rung_agrees (tables_of t) (bounded t) (request_of q) 0 (λ k h. absurd (omega arith))).from (rw e at z)

-- Rules 7.0 and 7.1: the same of any words.
pub words_stated : (t q : List ℕ) (n : ℕ) → (answer_of t q ≡ n) ↔ Lowest (AppliesTo t q) n
words_stated t q n = lowest_exactly (go (sized t q) refl) n
  where
    go : (b : Bool) → sized t q ≡ b → Lowest (AppliesTo t q) (answer_of t q)
    go true e =
        let s = is_true (sized t q) e in
        rw (answer_of_sized t q s) (words_lowest t q s _ (answer_lowest (tables_of t) (bounded t) (request_of q)))
    go false e =
        let s = is_false (sized t q) e in
        rw (unsized t q s).0 (lowest (bad_length (λ k l. (agrees_not (sized_agrees t q)).to s (k, l))) (words_first t q))
