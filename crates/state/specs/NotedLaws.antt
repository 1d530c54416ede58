-- The list of holders while it is not known yet whether every entity is in order by itself.
use Rattle.std.specs.Prelude.{Bool, ◌&&◌, false, true, List, ◌≢◌, ◌≡◌, refl, ◌*◌, ◌+◌, ◌-◌, ◌≤◌, ℕ, get_or, length, replicate, set}
use Rattle.std.proofs.Common.{◌∙◌, ap, sym, arith, length-set}
use Rattle.laws.specs.Bools.{clash}
use Rattle.laws.specs.Lists.{getD_zeros}
use Rattle.model.specs.Basics.TestLaws.{holds_true}
use Rattle.model.specs.Tables.Layout.{Bounded}
use Rattle.model.specs.Tables.Words.{Tables, container_kind, entity_count, kinds, place_count, used_places}
use Rattle.state.specs.HolderLaws.{filled_put, filled_rest, filled_skip, held_twice, own_at}
use Rattle.state.specs.Holders.{Amiss, Noted, Noting, Slot, entity_numbers}
use Rattle.state.specs.Passes.{all_own, own_test, tree_test}

-- nothing is noted at the start
pub noted_none : (d : Tables) (h : List ℕ) → h ≡ replicate entity_numbers 0 → Noted d 0 h
noted_none d h e = (
  ap length e,
  λ w. record {
    size = ap length e;
    sound = λ x l. absurd (omega (arith, ap (λ (k : List ℕ). get_or k x 0) e ∙ getD_zeros entity_numbers x));
    whole = λ c i x s l. absurd (omega arith);
  },
)

-- the numbers of slots as the loops count them
pub noted_start : (d : Tables) (c : ℕ) (h : List ℕ) → Noted d ((c - 1) * place_count) h → Noted d ((c - 1) * place_count + 0) h
noted_start d c h f = let e : (c - 1) * place_count + 0 ≡ (c - 1) * place_count = omega arith in rw e f

-- the next container
pub noted_next : (d : Tables) (i : ℕ) (h : List ℕ) → Noted d (i * place_count) h → Noted d ((i + 1 - 1) * place_count) h
noted_next d i h f = let e : (i + 1 - 1) * place_count ≡ i * place_count = omega arith in rw e f

-- what a pass says that went on, or stopped
pub went_on : (d : Tables) (n : ℕ) (h : List ℕ) → Noted d n h → Noting d n true h
went_on d n h f = record { noted = λ e. f; refused = λ e. clash true refl e }

pub stopped : (d : Tables) (n : ℕ) (h : List ℕ) → Amiss d → Noting d n false h
stopped d n h f = record { noted = λ e. clash false e refl; refused = λ e. f }

module _ (d : Tables) (o : Bounded d) where
  -- no container
  pub noted_skip : (c k : ℕ) (h : List ℕ) → 1 ≤ c → k ≡ kinds d c → k ≢ container_kind → Noted d ((c - 1) * place_count) h → Noted d (c * place_count) h
  noted_skip c k h l ke q f = (f.0, λ w. filled_skip d o w c k h l ke q (f.1 w))

  -- the next slot is noted
  pub noted_put : (c i x : ℕ) (h : List ℕ) → Slot d c i x → get_or h x 0 ≡ 0 → Noted d ((c - 1) * place_count + i) h
      → Noted d ((c - 1) * place_count + (i + 1)) (set h x c)
  noted_put c i x h s z f = (length-set h x c ∙ f.0, λ w. filled_put d o w c i x h s z (f.1 w))

  -- the end of a container
  pub noted_rest : (c i n : ℕ) (h : List ℕ) → 1 ≤ c → n ≡ used_places d c → i ≤ n → n ≤ i → Noted d ((c - 1) * place_count + i) h → Noted d (c * place_count) h
  noted_rest c i n h l ne a b f = (f.0, λ w. filled_rest d o w c i n h l ne a b (f.1 w))

  -- where not every entity is in order, all is amiss; and else where something is
  amiss_if : (b : Bool) → (all_own d ≡ true → b ≡ false) → (all_own d && b) ≡ false
  amiss_if b f = go (all_own d) f
    where
      go : (a : Bool) → (a ≡ true → b ≡ false) → (a && b) ≡ false
      go true g = g refl
      go false g = refl

  -- something that is noted already stands in two containers
  pub amiss_twice : (c i x : ℕ) (h : List ℕ) → Slot d c i x → get_or h x 0 ≢ 0 → Noted d ((c - 1) * place_count + i) h → Amiss d
  amiss_twice c i x h s z f = amiss_if (tree_test d) (λ w. rw (held_twice d o w c i x h s z (f.1 w)))

  -- an entity is not in order by itself
  pub amiss_own : (e : ℕ) → 1 ≤ e → e ≤ entity_count → (b : Bool) → b ≡ own_test d e → b ≡ false → Amiss d
  amiss_own e l h b be f = amiss_if (tree_test d) (λ w. clash (own_test d e) (holds_true (own_test d e) (own_at d o w e l h)) (sym be ∙ f))
