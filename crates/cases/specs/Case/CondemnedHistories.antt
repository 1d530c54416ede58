-- Document 02, M-101; rule 9.15: wrong histories of case state S1, in which a level is lost that nobody accounts for, and that the statement rejects them; and
-- a right one, with the request that accounts for it.
use Rattle.std.specs.Prelude.{Bool, ◌&&◌, false, true, [], ◌∷◌, ◌≢◌, ◌≡◌, refl, ◌+◌, ◌<◌, suc, zero, ℕ, T, eqb, leb}
use Rattle.std.proofs.Common.{inl, inr, ◌∙◌, subst, sym, arith}
use Rattle.cases.specs.Case.Cases.{ask, at}
use Rattle.cases.specs.Case.Condemned.{differ, s1_with}
use Rattle.cases.specs.Case.Opened.{opened}
use Rattle.cases.specs.Case.S1.{s1, s1_sheet}
use Rattle.cases.specs.Case.S1Holds.{s1_good}
use Rattle.model.specs.Basics.Agree.{agrees_and, agrees_eq}
use Rattle.model.specs.Basics.Cases.{cases, lt_or_le}
use Rattle.model.specs.Basics.Choice.{pick}
use Rattle.model.specs.Basics.TestLaws.{T-l, T-r}
use Rattle.model.specs.Level.{Drops}
use Rattle.model.proofs.LevelLaws.{drops_differs, incomparable}
use Rattle.model.specs.Request.After.{after}
use Rattle.model.specs.Request.Conditions.{level_of}
use Rattle.model.specs.Request.Ladder.{answer}
use Rattle.model.specs.Request.Words.{Request}
use Rattle.model.specs.State.Agree.{well_formed_bounded}
use Rattle.model.specs.Tables.Edits.{on_entity, on_user, user_word, word}
use Rattle.model.specs.Tables.Words.{Tables, absent_kind, container_kind, device, kinds, level}
use Rattle.model.specs.Theorem.Accountable.{Accountable, Accounted, MayDrop, Throughout, level_at}
use Rattle.model.proofs.Theorem.AccountableLaws.{history_accountable}
use Rattle.model.specs.Theorem.Definitions.{History}
use Rattle.model.specs.Request.Refusals as refusal

-- ---- one request, two requests

-- a at the start, and then b; or then b, and c at last
abbrev first : {A : Type 0} → A → A → ℕ → A
first a b i = pick (eqb i 0) a b

abbrev second : {A : Type 0} → A → A → A → ℕ → A
second a b c i = pick (eqb i 0) a (pick (eqb i 1) b c)

-- what holds of all of them holds at every moment
second_has : (P : Tables → Type 0) (d e f : Tables) → P d → P e → P f → (i : ℕ) → P (second d e f i)
second_has P d e f p q r i = go (eqb i 0) (eqb i 1)
  where
    go : (x y : Bool) → P (pick x d (pick y e f))
    go true y = p
    go false true = q
    go false false = r

module _ (d e f : Tables) (q r : Request) (x : ℕ) (before : kinds d x ≢ absent_kind) (between : kinds e x ≢ absent_kind) (behind : kinds f x ≢ absent_kind)
    (drop : Drops (level_of e x) (level_of d x)) (stays : level_of f x ≡ level_of e x) where
  -- Where the first of two requests lets the level of x drop and the second leaves it, the first accounts for it, with its answer a.
  first_accounts : (a : ℕ) → Accountable 2 (second d e f) (first q r) (first a refusal.accepted) → (a ≡ refusal.accepted) × MayDrop d q x
  first_accounts a h =
      let z = h x (λ i l. second_has (λ (t : Tables). kinds t x ≢ absent_kind) d e f before between behind i)
      (subst (λ (n : ℕ). Drops n (level_of d x)) (sym stays) drop) in
      cases (lt_or_le z.moment 1) (λ l. at_first_lem z (omega arith)) (λ l. absurd (at_second z (omega (arith, z.among))))
    where
      at_first_lem : (z : Accounted 2 (second d e f) (first q r) (first a refusal.accepted) x) → z.moment ≡ 0 → (a ≡ refusal.accepted) × MayDrop d q x
      at_first_lem z e' = (
        subst (λ (i : ℕ). first a refusal.accepted i ≡ refusal.accepted) e' z.accepted,
        subst (λ (i : ℕ). MayDrop (second d e f i) (first q r i) x) e' z.by,
      )

      at_second : (z : Accounted 2 (second d e f) (first q r) (first a refusal.accepted) x) → z.moment ≡ 1 → ⊥
      at_second z e' =
          let l : ℕ → ℕ = level_at (second d e f) x in
          drops_differs (level_of f x) (level_of e x) (subst (λ (i : ℕ). Drops (l (suc i)) (l i)) e' z.drops) stays

-- ---- the wrong ones: container 7 is at the lowest level after the first request, by an operation of user 1; the second puts the requester's roles back

abbrev lowered : Tables → Tables
lowered d = on_entity 7 (word level 0) d

abbrev roles : ℕ → Request
roles r = ask 1 14 [] [] 1 r 0

-- An edit took the level away, by a downgrader who asked for no level.
pub edit_condemned : Accountable 2 (second (s1_with 2) (lowered (s1_with 2)) (lowered s1)) (first (ask 1 4 (7 ∷ []) [] 0 0 0) (roles 1))
    (first refusal.accepted refusal.accepted) → ⊥
unfolding opened s1 s1_sheet
edit_condemned h = elim (first_accounts (s1_with 2) (lowered (s1_with 2)) (lowered s1) (ask 1 4 (7 ∷ []) [] 0 0 0) (roles 1) 7 (differ 2 0 tt) (differ 2 0 tt)
    (differ 2 0 tt) (λ t. t) refl refusal.accepted h).1 [ inl z ↦ differ 4 6 tt z.asks.named | inr z ↦ differ 4 18 tt z.asks.named ]

-- A downgrader asked for the level of 5, and 7 lost its own.
pub other_entity_condemned : Accountable 2 (second (s1_with 2) (lowered (s1_with 2)) (lowered s1)) (first (ask 1 6 (5 ∷ []) [] 0 0 0) (roles 1))
    (first refusal.accepted refusal.accepted) → ⊥
unfolding opened s1 s1_sheet
other_entity_condemned h = elim (first_accounts (s1_with 2) (lowered (s1_with 2)) (lowered s1) (ask 1 6 (5 ∷ []) [] 0 0 0) (roles 1) 7 (differ 2 0 tt)
    (differ 2 0 tt) (differ 2 0 tt) (λ t. t) refl refusal.accepted h).1 [ inl z ↦ differ 5 7 tt z.operand | inr z ↦ differ 6 18 tt z.asks.named ]

-- A downgrader asked for it and was refused, and it was done.
pub refused_condemned : Accountable 2 (second (s1_with 2) (lowered (s1_with 2)) (lowered s1)) (first (ask 1 6 (7 ∷ []) [] 0 0 0) (roles 1))
    (first refusal.level_or_roles refusal.accepted) → ⊥
unfolding opened s1 s1_sheet
refused_condemned h = differ refusal.level_or_roles refusal.accepted tt
    (first_accounts (s1_with 2) (lowered (s1_with 2)) (lowered s1) (ask 1 6 (7 ∷ []) [] 0 0 0)
    (roles 1) 7 (differ 2 0 tt) (differ 2 0 tt) (differ 2 0 tt) (λ t. t) refl refusal.level_or_roles h).0

-- User 1, who is authorised to be a downgrader, asked as officer, and took up the role afterwards.
pub later_role_condemned : Accountable 2 (second s1 (lowered s1) (lowered (s1_with 2))) (first (ask 1 6 (7 ∷ []) [] 0 0 0) (roles 2))
    (first refusal.accepted refusal.accepted) → ⊥
unfolding opened s1 s1_sheet
later_role_condemned h = elim (first_accounts s1 (lowered s1) (lowered (s1_with 2)) (ask 1 6 (7 ∷ []) [] 0 0 0) (roles 2) 7 (differ 2 0 tt) (differ 2 0 tt)
    (differ 2 0 tt) (λ t. t) refl refusal.accepted h).1 [ inl z ↦ z.role | inr z ↦ differ 6 18 tt z.asks.named ]

-- device 3 of S1 with the level l
abbrev screen_at : ℕ → Tables
screen_at l = on_entity 3 (word level l) s1

-- User 3 took device 3 sideways, and logged on to it afterwards.
pub later_login_condemned : Accountable 2 (second (screen_at (at 1 0)) (screen_at (at 0 1)) (on_user 3 (user_word device 3) (screen_at (at 0 1))))
    (first (ask 3 18 (3 ∷ []) [] (at 0 1) 0 0) (ask 3 12 (3 ∷ []) [] 0 0 0)) (first refusal.accepted refusal.accepted) → ⊥
unfolding opened s1 s1_sheet
later_login_condemned h = elim (first_accounts (screen_at (at 1 0)) (screen_at (at 0 1)) (on_user 3 (user_word device 3) (screen_at (at 0 1)))
    (ask 3 18 (3 ∷ []) [] (at 0 1) 0 0) (ask 3 12 (3 ∷ []) [] 0 0 0) 3 (differ 3 0 tt) (differ 3 0 tt) (differ 3 0 tt) (λ t. t) refl refusal.accepted h).1
    [ inl z ↦ differ 18 6 tt z.asks.named | inr z ↦ elim z.role [ inl t ↦ t | inr e ↦ differ 0 3 tt e ] ]

-- The same request gave user 1 the role and took the level of 7 away.
pub role_with_it_condemned : Accountable 2 (second s1 (lowered (s1_with 2)) (lowered s1)) (first (ask 1 6 (7 ∷ []) [] 0 0 0) (roles 1))
    (first refusal.accepted refusal.accepted) → ⊥
unfolding opened s1 s1_sheet
role_with_it_condemned h = elim (first_accounts s1 (lowered (s1_with 2)) (lowered s1) (ask 1 6 (7 ∷ []) [] 0 0 0) (roles 1) 7 (differ 2 0 tt) (differ 2 0 tt)
    (differ 2 0 tt) (λ t. t) refl refusal.accepted h).1 [ inl z ↦ z.role | inr z ↦ differ 6 18 tt z.asks.named ]

-- The same request put user 3 on device 3 and took it sideways.
pub login_with_it_condemned : Accountable 2 (second (screen_at (at 1 0)) (on_user 3 (user_word device 3) (screen_at (at 0 1))) (screen_at (at 0 1)))
    (first (ask 3 18 (3 ∷ []) [] (at 0 1) 0 0) (ask 3 13 [] [] 0 0 0)) (first refusal.accepted refusal.accepted) → ⊥
unfolding opened s1 s1_sheet
login_with_it_condemned h = elim (first_accounts (screen_at (at 1 0)) (on_user 3 (user_word device 3) (screen_at (at 0 1))) (screen_at (at 0 1))
    (ask 3 18 (3 ∷ []) [] (at 0 1) 0 0) (ask 3 13 [] [] 0 0 0) 3 (differ 3 0 tt) (differ 3 0 tt) (differ 3 0 tt) (λ t. t) refl refusal.accepted h).1
    [ inl z ↦ differ 18 6 tt z.asks.named | inr z ↦ elim z.role [ inl t ↦ t | inr e ↦ differ 0 3 tt e ] ]

-- ---- the right one: user 1 takes up the downgrader's role, takes 7 sideways, and goes back to the officer's

unfoldable pub right_asks : ℕ → Request
right_asks i = second (roles 2) (ask 1 6 (7 ∷ []) [] (at 0 1) 0 0) (roles 1) i

unfoldable pub right : ℕ → Tables
right zero = s1
right (suc i) = after (right i) (right_asks i)

-- the level that 7 has before request i
abbrev right_level : ℕ → ℕ
right_level i = pick (leb i 1) (at 1 0) (at 0 1)

-- 7 is a container of the level l
abbrev stands : Tables → ℕ → Bool
stands d l = eqb (kinds d 7) container_kind && eqb (level_of d 7) l

-- so it is at n moments from the tables d of moment i on; the tables are handed on, so that they are computed once
abbrev along : ℕ → Tables → ℕ → Bool
along zero d i = true
along (suc n) d i = stands d (right_level i) && along n (after d (right_asks i)) (suc i)

right_stands : T (along 4 s1 0)
unfolding opened s1 s1_sheet right_asks
right_stands = tt

-- what stands at moment j
abbrev At : ℕ → Type 0
At j = T (stands (right j) (right_level j))

along_at : (n i : ℕ) → T (along n (right i) i) → (k : ℕ) → k < n → At (k + i)
unfolding right
along_at zero i t k h = absurd (omega arith)
along_at (suc n) i t zero h =
    let e : i ≡ 0 + i = omega arith in
    subst At e (T-l (stands (right i) (right_level i)) (along n (right (suc i)) (suc i)) t)
along_at (suc n) i t (suc k) h =
    let e : k + suc i ≡ suc k + i = omega arith in
    subst At e (along_at n (suc i) (T-r (stands (right i) (right_level i)) (along n (right (suc i)) (suc i)) t) k (omega arith))

right_at : (k : ℕ) → k < 4 → (kinds (right k) 7 ≡ container_kind) × (level_at right 7 k ≡ right_level k)
unfolding right
right_at k h =
    let e : k + 0 ≡ k = omega arith in
    let t = subst At e (along_at 4 0 right_stands k h) in
    (agrees_and (agrees_eq (kinds (right k) 7) container_kind) (agrees_eq (level_at right 7 k) (right_level k))).to t

-- 7 is there throughout,
pub right_there : Throughout 3 right 7
right_there i h = let e = (right_at i (omega arith)).0 in omega arith

-- and its level is not what it was.
pub right_lost : Drops (level_at right 7 3) (level_at right 7 0)
right_lost = rw ((right_at 3 (omega arith)).1, (right_at 0 (omega arith)).1) incomparable.0

-- So one of the three requests accounts for it,
pub right_accounted : Accounted 3 right right_asks (λ i. answer (right i) (right_asks i)) 7
unfolding right
right_accounted =
    let h : History after s1 right right_asks = record { starts = refl; goes_on = λ i. refl } in
    history_accountable s1 (well_formed_bounded s1 s1_good.0) right right_asks h 3 7 right_there right_lost

-- which is the second.
pub right_second : (z : Accounted 3 right right_asks (λ i. answer (right i) (right_asks i)) 7) → z.moment ≡ 1
right_second z = go z.moment refl z.among
  where
    go : (m : ℕ) → m ≡ z.moment → m < 3 → m ≡ 1
    go zero e h =
        let l = subst (λ (i : ℕ). Drops (level_at right 7 (suc i)) (level_at right 7 0)) (sym e) z.lost in
        absurd (drops_differs (level_at right 7 1) (level_at right 7 0) l ((right_at 1 (omega arith)).1 ∙ sym (right_at 0 (omega arith)).1))
    go (suc zero) e h = refl
    go (suc (suc zero)) e h = absurd (incomparable.0 (rw ((right_at 0 (omega arith)).1, (right_at 2 (omega arith)).1) at (z.until 2 (omega arith))))
    go (suc (suc (suc i))) e h = absurd (omega arith)
