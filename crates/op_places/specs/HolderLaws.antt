-- In well-formed tables: the container that an entity is in, and what it is to leave it.
use Rattle.std.specs.Prelude.{Bool, ◌&&◌, false, not, true, ◌≢◌, ◌≡◌, ◌-◌, ◌<◌, ◌≤◌, pred, ℕ, T, eqb, leb, ltb}
use Rattle.std.proofs.Common.{◌∙◌, subst, arith, ltb→lt, eq-eqb}
use Rattle.std.proofs.Math.Path.{ap, fun_ext, refl, sym}
use Rattle.std.proofs.lemmas.Bool.{lt-leb}
use Rattle.model.specs.Basics.Choice.{Below, Same, below, it, other, over, pick, same}
use Rattle.model.specs.Basics.TestLaws.{pick_same}
use Rattle.model.specs.Effect.Places.{leave}
use Rattle.model.specs.State.AgreeLinks.{in_agrees, member_agrees}
use Rattle.model.specs.State.ParentLaws.{parent_none, row_room}
use Rattle.model.specs.State.WellFormed.{InTables, WellFormed}
use Rattle.model.specs.Tables.Edits.{Edit, ◌and◌, on_entity, row, word, written}
use Rattle.model.specs.Tables.RowLaws.{without_none}
use Rattle.model.specs.Tables.Rows.{close, left, seek}
use Rattle.model.specs.Tables.StoreLaws.{twice}
use Rattle.model.specs.Tables.Words.{EntityWord, Tables, container_kind, used, used_places, kind, kinds, level, mark}
use Rattle.model.specs.Tables.Words.{maximum, place, place_count, places, releaser, shown, triple, type, value}
use Rattle.model.specs.Theorem.FramedPlaces.{leave_left}
use Rattle.model.specs.Theorem.MayChange.{content_word, holder}
use Rattle.standing.specs.LookLaws.{held_here}
use Rattle.standing.specs.Standing.{parent_in}

no_and : (a b : Bool) → (T a → ⊥) → T (not (a && b))
no_and true b n = absurd (n tt)
no_and false b n = tt

module _ (d : Tables) (w : WellFormed d) where
  module _ (e h : ℕ) (p : h ≡ parent_in d e) where
    -- another container does not hold it
    not_there : (x : ℕ) → x ≢ h → InTables d x e → ⊥
    not_there x n i = n (w.links.one_container e x h i (held_here d w e h p (λ z. parent_none d w e (sym p ∙ z) x i)))

    -- e has a place in it
    pub place_in : h ≢ 0 → (n k : ℕ) → n ≡ used_places d h → k ≡ seek e (places d h) n → k < n
    place_in z n k q r = rw (r, q) (ltb→lt (seek e (places d h) (used_places d h)) (used_places d h)
        ((member_agrees (places d h) (used_places d h) e).from (held_here d w e h p z).1))

    -- ---- to leave

    unheld : (x : ℕ) (f : EntityWord) → (InTables d x e → ⊥) → T (not (holder d e x && content_word f))
    unheld x f n = no_and (holder d e x) (content_word f) (λ t. n ((in_agrees (kinds d) (used_places d) (places d) x e).to t))

    -- what is in no container leaves none
    pub leave_none : h ≡ 0 → d ≡ leave e d
    leave_none z = λ i. record {
      user = d.user;
      entity = (fun_ext λ x. fun_ext λ f. sym
          (leave_left d w e x f (unheld x f (parent_none d w e (sym p ∙ z) x)))) i;
    }

    -- the count of its container is one less
    left_one : h ≢ 0 → left e (places d h) (used_places d h) ≡ used_places d h - 1
    left_one z = go (ltb (seek e (places d h) (used_places d h)) (used_places d h)) (below (seek e (places d h) (used_places d h)) (used_places d h))
      where
        go : (b : Bool) → Below (seek e (places d h) (used_places d h)) (used_places d h) b → pick b (pred (used_places d h)) (used_places d h) ≡ used_places
            d h - 1
        go true s = let q : pred (used_places d h) ≡ used_places d h - 1 = omega arith in q
        go false (over l) = absurd (omega (arith, place_in z (used_places d h) (seek e (places d h) (used_places d h)) refl refl))

    module _ (z : h ≢ 0) (n k : ℕ) (q : n ≡ used_places d h) (r : k ≡ seek e (places d h) n) where
      stores : Edit EntityWord
      stores = word used (n - 1) and row place (close k (places d h))

      -- its container afterwards
      leave_here : (f : EntityWord) → written stores (d.entity h) f ≡ (leave e d).entity h f
      unfolding stores
      leave_here kind = refl
      leave_here type = refl
      leave_here level = refl
      leave_here mark = refl
      leave_here value = refl
      leave_here releaser = refl
      leave_here maximum = refl
      leave_here used = rw (eq-eqb (kinds d h) container_kind (held_here d w e h p z).0) (ap (λ (m : ℕ). m - 1) q ∙ sym (left_one z))
      leave_here (place i) = rw (eq-eqb (kinds d h) container_kind (held_here d w e h p z).0)
          (ap (λ (m : ℕ). close m (places d h) i) (r ∙ ap (seek e (places d h)) q))
      leave_here (shown i) = refl
      leave_here (triple i) = refl

      -- and every record
      leave_word : (x : ℕ) (f : EntityWord) → (on_entity h stores d).entity x f ≡ (leave e d).entity x f
      leave_word x f = go (eqb x h) (same x h)
        where
          go : (b : Bool) → Same x h b → pick (stores.touched f) (pick b (stores.value f) (d.entity x f)) (d.entity x f) ≡ (leave e d).entity x f
          go true (it s) = rw s (leave_here f)
          go false (other s) = pick_same (stores.touched f) (d.entity x f) ∙ sym (leave_left d w e x f (unheld x f (not_there x s)))

      -- the stores of leaving are the model's
      pub leave_stores : (s y : Tables) → s ≡ on_entity h (row place (close k (places d h))) d → y ≡ on_entity h (word used (n - 1)) s → y ≡ leave e d
      unfolding stores
      leave_stores s y a b = b ∙ ap (on_entity h (word used (n - 1))) a ∙ twice h (word used (n - 1)) (row place (close k (places d h))) d
          ∙ (λ i. record { user = d.user; entity = (fun_ext λ x. fun_ext λ f. leave_word x f) i })

    -- Rule 6.3: a container is full after e has left where it is full and e is not in it.
    pub full_left : (c n : ℕ) → 1 ≤ c → kinds d c ≡ container_kind → n ≡ used_places d c
        → (not (eqb h c) && leb place_count n) ≡ leb place_count (used_places (leave e d) c)
    full_left c n l box q = rw (eq-eqb (kinds d c) container_kind box) (go (eqb h c) (same h c))
      where
        go : (b : Bool) → Same h c b → (not b && leb place_count n) ≡ leb place_count (left e (places d c) (used_places d c))
        go true (it s) = sym (lt-leb place_count (left e (places d c) (used_places d c))
            (subst (λ (x : ℕ). left e (places d x) (used_places d x) < place_count) s
            (omega (
              arith,
              left_one (λ z. omega arith),
              row_room d w h,
              place_in (λ z. omega arith) (used_places d h)
                  (seek e (places d h) (used_places d h)) refl refl,
            ))))
        go false (other s) = ap (leb place_count) (q ∙ sym (without_none e (places d c) (used_places d c) (w.entities c).filled.packed
            (λ m. not_there c (λ z. s (sym z)) (box, m))).0)
