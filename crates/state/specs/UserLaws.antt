-- The passes over a user's record ask what the model's test of it asks.
use Rattle.std.specs.Prelude.{Bool, ◌&&◌, ◌||◌, false, not, true, ◌≢◌, ◌≡◌, refl, ◌+◌, ◌<◌, pred, suc, ℕ, T, leb, ltb}
use Rattle.std.proofs.Common.{◌∙◌, subst, arith, lit<}
use Rattle.std.proofs.Math.Path.{ap, fun_ext, sym}
use Rattle.std.proofs.Math.Dec.{eqb, eqb→eq}
use borrow.Author.Tests.{eq-eqb, ne_eqb}
use Rattle.laws.specs.Bools.{or_imp}
use Rattle.laws.specs.Loops.{every_of}
use Rattle.model.specs.Basics.Agree.{agrees_eq, every_at}
use Rattle.model.specs.Basics.Choice.{Below, below, over, under}
use Rattle.model.specs.Basics.TestLaws.{equal_bools}
use Rattle.model.specs.Basics.Tests.{every, imp}
use Rattle.model.specs.Level.{level_count, role_sets}
use Rattle.model.specs.State.Agree.{zero_user}
use Rattle.model.specs.State.AgreeRecords.{user_agrees}
use Rattle.model.specs.State.Tests.{notice_test, user_test}
use Rattle.model.specs.State.WellFormed.{UserOk}
use Rattle.model.specs.Tables.Layout.{Bounded, user_offset, user_width}
use Rattle.model.specs.Tables.WordAt.{user_word_at}
use Rattle.model.specs.Tables.WordAtLaws.{user_word_back}
use Rattle.model.specs.Tables.Words.{Tables, UserWord, authorised, clearance, current, device, devices, held, held_op, kinds, missed, present}
use Rattle.model.specs.Tables.Words.{device_kind, first_noticed, last_noticed, missed_most, operation_count, spare, spare_count}
use Rattle.state.specs.Passes.{on_device, user_blank, user_head}
use Rattle.tables.specs.Singles.{single_count}

-- ---- the single words, as the code asks for them

-- presence, clearance, roles authorised and current, and the device
pub head_form : (p c a r v : ℕ)
    → (leb p 1 && (ltb c level_count && (ltb a role_sets && (ltb r role_sets && (not (eqb v 0) || eqb r 0))))) ≡ user_head p c a r v
unfolding user_head
head_form p c a r v = rw (or_imp (eqb v 0) (eqb r 0))

-- the notice
pub notice_form : (h o n : ℕ) → ((eqb h 0 || (leb first_noticed h && leb h last_noticed)) && (leb o operation_count && (leb n missed_most
    && ((not (eqb h 0) || eqb n 0) && ((not (eqb n 0) || eqb h 0) && (not (eqb h 0) || eqb o 0)))))) ≡ notice_test h o n
unfolding notice_test
notice_form h o n = rw (or_imp (eqb h 0) (eqb n 0), or_imp (eqb n 0) (eqb h 0), or_imp (eqb h 0) (eqb o 0))

-- the spare words stand after the single ones
pub spare_zero_lem : (d : Tables) (u i : ℕ) → eqb (d.user u (user_word_at (single_count + i))) 0 ≡ eqb (d.user u (spare i)) 0
spare_zero_lem d u i = ap (λ (w : UserWord). eqb (d.user u w) 0) (user_word_back (spare i))

-- ---- a record

module _ (d : Tables) (o : Bounded d) (u : ℕ) where
  -- where all words are zero, each one is
  blank_at : T (user_blank d u) → (f : UserWord) → user_offset f < user_width → d.user u f ≡ 0
  unfolding user_blank
  blank_at t f h = ap (d.user u) (sym (user_word_back f))
      ∙ eqb→eq (d.user u (user_word_at (user_offset f))) 0 (every_at user_width (λ i. eqb (d.user u (user_word_at i)) 0) t (user_offset f) h)

  -- by its name
  blank_all : T (user_blank d u) → (f : UserWord) → d.user u f ≡ 0
  blank_all t present = blank_at t present (lit< tt)
  blank_all t clearance = blank_at t clearance (lit< tt)
  blank_all t authorised = blank_at t authorised (lit< tt)
  blank_all t current = blank_at t current (lit< tt)
  blank_all t device = blank_at t device (lit< tt)
  blank_all t held = blank_at t held (lit< tt)
  blank_all t held_op = blank_at t held_op (lit< tt)
  blank_all t missed = blank_at t missed (lit< tt)
  blank_all t (spare i) = go (ltb i spare_count) (below i spare_count)
    where
      go : (b : Bool) → Below i spare_count b → d.user u (spare i) ≡ 0
      go true (under h) = blank_at t (spare i) (omega arith)
      go false (over h) = o.spares_out u i h

  -- of a user who is absent all words are asked to be zero
  pub user_absent_lem : d.user u present ≡ 0 → user_blank d u ≡ user_test (d.user u)
  unfolding user_blank
  user_absent_lem e = equal_bools (user_blank d u) (user_test (d.user u))
      (λ t. (user_agrees (d.user u) (o.spares_out u)).from (subst UserOk (fun_ext (λ f. sym (blank_all t f))) zero_user))
      (λ t. let z = ((user_agrees (d.user u) (o.spares_out u)).to t).absent e in
      every_of user_width (λ f. eqb (d.user u (user_word_at f)) 0) (λ f h. (agrees_eq (d.user u (user_word_at f)) 0).from (z (user_word_at f))))

-- of a user who is there: the single words before the notice, the notice, the spare words
pub user_present : (w : UserWord → ℕ) → w present ≢ 0
    → (user_head (w present) (w clearance) (w authorised) (w current) (w device)
    && (notice_test (w held) (w held_op) (w missed) && every spare_count (λ i. eqb (w (spare i)) 0))) ≡ user_test w
unfolding user_test user_head imp
user_present w n = rw (ne_eqb (w present) 0 n)
    (go (leb (w present) 1) (ltb (w clearance) level_count) (ltb (w authorised) role_sets) (ltb (w current) role_sets)
    (imp (eqb (w device) 0) (eqb (w current) 0)) (notice_test (w held) (w held_op) (w missed)) (every spare_count (λ i. eqb (w (spare i)) 0)))
  where
    go : (p a b c x n s : Bool) → ((p && (a && (b && (c && x)))) && (n && s)) ≡ (p && (a && (b && (c && (s && (x && n))))))
    go true true true true true true true = refl
    go true true true true true true false = refl
    go true true true true true false true = refl
    go true true true true true false false = refl
    go true true true true false n true = refl
    go true true true true false n false = refl
    go true true true false x n s = refl
    go true true false c x n s = refl
    go true false b c x n s = refl
    go false a b c x n s = refl

-- what the pass over the record of a user who is there has read
module _ (w : UserWord → ℕ) (p c a r v : ℕ) (pe : p ≡ w present) (ce : c ≡ w clearance) (ae : a ≡ w authorised) (re : r ≡ w current)
    (ve : v ≡ w device) (n : p ≢ 0) (h : Bool) (he : h ≡ user_head p c a r v) where
  -- the words before the notice, as the record has them
  head_read : h ≡ user_head (w present) (w clearance) (w authorised) (w current) (w device)
  head_read = he ∙ rw (pe, ce, ae, re, ve)

  -- they are not in order
  pub user_head_fails : h ≡ false → false ≡ user_test w
  user_head_fails f = rw (← head_read, f) at (user_present w (λ q. n (pe ∙ q)))

  module _ (ht : h ≡ true) (x y z : ℕ) (xe : x ≡ w held) (ye : y ≡ w held_op) (ze : z ≡ w missed) (b : Bool) (be : b ≡ notice_test x y z) where
    -- the notice, as the record has it
    notice_read : b ≡ notice_test (w held) (w held_op) (w missed)
    notice_read = be ∙ rw (xe, ye, ze)

    -- it is not in order
    pub user_notice_fails : b ≡ false → false ≡ user_test w
    user_notice_fails f = rw (← head_read, ht, ← notice_read, f) at (user_present w (λ q. n (pe ∙ q)))

    -- the spare words are left
    pub user_spares : b ≡ true → (s : Bool) → s ≡ every spare_count (λ i. eqb (w (spare i)) 0) → s ≡ user_test w
    user_spares t s e = e ∙ (rw (← head_read, ht, ← notice_read, t) at (user_present w (λ q. n (pe ∙ q))))

-- ---- who is on what

-- what the pass over user u, who is on n, has read
module _ (d : Tables) (u n : ℕ) (ne : n ≡ devices d u) where
  -- on nothing
  pub on_none : n ≡ 0 → true ≡ on_device d u
  unfolding on_device imp
  on_none z = rw (← ne, eq-eqb n 0 z)

  -- s says whether one can be logged on to what is of kind k
  module _ (z : n ≢ 0) (k : ℕ) (ke : k ≡ kinds d n) (s : Bool) (se : s ≡ eqb k device_kind) where
    -- on what is no device
    pub on_other : s ≡ false → false ≡ on_device d u
    unfolding on_device imp
    on_other q = rw (← ne, ne_eqb n 0 z, ← ke, ← se, q)

    -- on a device, which is compared with those of the users before
    pub on_alone : s ≡ true → (m : ℕ) → m ≡ pred u → (b : Bool) → b ≡ every m (λ v. not (eqb (devices d (suc v)) n)) → b ≡ on_device d u
    unfolding on_device imp
    on_alone q m me b be = be ∙ rw (me, ← ne, ne_eqb n 0 z, ← ke, ← se, q)
