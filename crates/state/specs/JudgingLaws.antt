-- The pass over the entities: how it begins, goes on and ends; and that it answers what the model's judgement of whole tables does.
use Rattle.std.specs.Prelude.{Bool, ◌&&◌, false, true, List, ◌≡◌, ◌*◌, ◌+◌, ◌≤◌, suc, ℕ, T, eqb, get_or, ltb}
use Rattle.std.proofs.Common.{◌∙◌, ap, add-one, arith}
use Rattle.std.proofs.Math.Path.{refl, sym}
use Rattle.laws.specs.Bools.{and_T, and_comm}
use Rattle.laws.specs.Loops.{each_more, every_gather, every_none, every_of}
use Rattle.model.specs.Basics.Agree.{agrees_T, agrees_eq, agrees_imp, agrees_le}
use Rattle.model.specs.Basics.TestLaws.{T-l, holds_true, is_true}
use Rattle.model.specs.Basics.Tests.{every, imp}
use Rattle.model.specs.Level.{at_most}
use Rattle.model.specs.Request.Refusals as refusal
use Rattle.model.specs.State.Agree.{eights}
use Rattle.model.specs.State.AgreeRecords.{entity_agrees}
use Rattle.model.specs.State.Check.{ceiling_test, contained_test, judge, labelled_test, secure_test, well_formed_test}
use Rattle.model.specs.State.Secure.{labelled}
use Rattle.model.specs.State.Tests.{entity_test, user_test}
use Rattle.model.specs.Tables.Layout.{Bounded}
use Rattle.model.specs.Tables.Words.{Tables, device_kind, entity_count, kinds, level, maximum, place_count, sums, used, used_places, user_count}
use Rattle.state.specs.HolderLaws.{filled_low, filled_top, tree_ends}
use Rattle.state.specs.Holders.{Filled, Low, Noted, slot_count}
use Rattle.state.specs.Judging.{Sound, SoundTo, grade}
use Rattle.state.specs.Jumps.{all_end}
use Rattle.secure.specs.Secured.{all_secure, entity_secure}
use Rattle.state.specs.Passes.{contents_at, idle_at, on_device, own_test}
use Rattle.state.specs.PassLaws.{tree_left}
use Rattle.secure.specs.SecureLaws.{secure_fails}

-- ---- one entity

module _ (d : Tables) (e : ℕ) where
  -- one that is in order, of which s says whether it is secure
  pub judged_sound : (h : List ℕ) (b s : Bool) → b ≡ own_test d e → b ≡ true → Noted d (e * place_count) h → s ≡ entity_secure d e → Sound d e s h
  judged_sound h b s be t n se = record { own = sym be ∙ t; noted = n; graded = se }

  -- one that is absent: nothing stands in it, and it is no screen
  pub absent_secure : Bounded d → (b : Bool) → b ≡ own_test d e → b ≡ true → kinds d e ≡ 0 → true ≡ entity_secure d e
  unfolding entity_secure contained_test labelled_test ceiling_test own_test
  absent_secure o b be t k = sym (holds_true (entity_secure d e) (and_T (contained_test d e) (labelled_test d e && ceiling_test d e) none
      (and_T (labelled_test d e) (ceiling_test d e) (no_device (every place_count (λ i. imp (ltb i (used_places d e)) (labelled (sums d e i)))))
      (no_device (at_most (d.entity e level) (d.entity e maximum))))))
    where
      empty : used_places d e ≡ 0
      empty =
          let own = is_true (own_test d e) (sym be ∙ t) in
          ((entity_agrees (d.entity e) (eights d o e)).to (T-l (entity_test (d.entity e)) (contents_at d e && idle_at d e) own)).absent k used

      none : T (contained_test d e)
      none = every_of place_count _ (λ i h. (agrees_imp (agrees_le (suc i) (used_places d e)) (agrees_T _)).from (λ l. absurd (omega (arith, empty))))

      no_device : (b : Bool) → T (imp (eqb (kinds d e) device_kind) b)
      no_device b = (agrees_imp (agrees_eq (kinds d e) device_kind) (agrees_T b)).from (λ q. absurd (omega (arith, k, q)))

-- ---- the first i entities

module _ (d : Tables) where
  -- none yet
  pub sound_none : (h : List ℕ) → Noted d 0 h → SoundTo d 0 true h
  sound_none h n = record { own = every_none _; noted = n; graded = sym (every_none (λ e. entity_secure d (suc e))) }

  -- one entity more is sound
  pub sound_more : (i : ℕ) (r x : Bool) (g h : List ℕ) → SoundTo d i r g → Sound d (i + 1) x h → SoundTo d (i + 1) (r && x) h
  sound_more i r x g h s z = record {
    own = each_more i (own_test d) s.own z.own;
    noted = z.noted;
    graded = and_comm r x ∙ every_gather i (λ e. entity_secure d (suc e)) x r (z.graded ∙ ap (entity_secure d) (add-one i)) s.graded;
  }

  -- all of them are
  pub sound_all : (i : ℕ) (r : Bool) (h : List ℕ) → SoundTo d i r h → i ≤ entity_count → entity_count ≤ i → SoundTo d entity_count r h
  sound_all i r h s l m = let e : entity_count ≡ i = omega arith in rw e s

-- ---- whole tables

module _ (d : Tables) (s : Bool) (h : List ℕ) (z : SoundTo d entity_count s h) where
  -- what stands in what is all in the list then
  filled : Filled d slot_count h
  filled = z.noted.1 z.own

  module _ (o : Bounded d) where
    -- by numbers of entities, and nothing of 0
    pub all_low : Low h × (get_or h 0 0 ≡ 0)
    all_low = (filled_low d o z.own slot_count h filled, filled_top d o z.own slot_count h filled)

    -- the ways up are left, where the users and the devices are in order
    pub ways_left : (u : Bool) → u ≡ every user_count (λ u. user_test (d.user (suc u))) → u ≡ true
        → (v : Bool) → v ≡ every user_count (λ u. on_device d (suc u)) → v ≡ true → (b : Bool) → b ≡ all_end h → b ≡ well_formed_test d
    ways_left u ue ut v ve vt b be = tree_left d o u ue ut v ve vt z.own b (tree_ends d o z.own h filled b be)

  -- every entity is secure
  pub all_secure_lem : s ≡ true → all_secure d ≡ true
  all_secure_lem q = sym z.graded ∙ q

  -- or the tables are not
  pub not_secure_lem : true ≡ well_formed_test d → s ≡ false → refusal.not_secure ≡ judge d
  unfolding judge
  not_secure_lem w q = rw (← w, ← secure_fails d (all_secure d) refl (sym z.graded ∙ q))

-- the judgement, from the two tests
pub judge_unformed : (d : Tables) → false ≡ well_formed_test d → refusal.not_well_formed ≡ judge d
unfolding judge
judge_unformed d w = rw (← w)

pub judge_graded : (d : Tables) (b : Bool) → true ≡ well_formed_test d → b ≡ secure_test d → grade b ≡ judge d
unfolding judge
judge_graded d b w e = rw (← w, ← e)
