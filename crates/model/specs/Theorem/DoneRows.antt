-- Grant, revoke and show have done what Theorem/Done says.
use Rattle.std.specs.Prelude.{Bool, false, true, ◌≢◌, ◌≡◌, refl, ◌<◌, ◌≤◌, pred, suc, ℕ, ltb}
use mathlib.Core.List.{List, Memᴰ, [], ◌++◌, ◌∷◌}
use Rattle.std.proofs.Common.{inl, inr, ◌∙◌, ap, ap₂, subst, sym, arith}
use Rattle.model.specs.Basics.Choice.{Below, below, over, pick, under}
use Rattle.model.specs.Effect.Screens.{placing}
use Rattle.model.specs.Effect.Triples.{granted}
use Rattle.model.specs.Request.Allowed.{MayGrant, MayRevoke}
use Rattle.model.specs.Request.Asked.{Asked, named_triple, own}
use Rattle.model.specs.Request.Operations.{row_of, to_grant, to_revoke, to_show}
use Rattle.model.specs.State.WellFormed.{WellFormed}
use Rattle.model.specs.Tables.Contents.{TakenOut, access_list, content_sums, contents, nonzero}
use Rattle.model.specs.Tables.ContentsLaws.{close_taken, listed_member, member_listed, none_taken, packed_list, values_put}
use Rattle.model.specs.Tables.EditLaws.{case, edited_here}
use Rattle.model.specs.Tables.Edits.{row, written}
use Rattle.model.specs.Tables.RowLaws.{append_packed, before, close_beyond, close_packed, first_zero, replace_same, sought}
use Rattle.model.specs.Tables.Rows.{Member, Packed, Sought, close, replace, seek, without}
use Rattle.model.specs.Tables.Words.{EntityWord, Tables, place, place_count, places, shown, sums, triple, triples, used, used_places}
use Rattle.model.specs.Tables.WordsOf.{first_values}
use Rattle.model.specs.Theorem.Done.{Done, HasGranted, HasShown}

-- The triples of a row: its words that are not zero.
abbrev row_list : (ℕ → ℕ) → List ℕ
row_list r = nonzero (first_values place_count r)

-- A packed row of n triples, and a triple t.
module _ (t n : ℕ) (r : ℕ → ℕ) (p : Packed r n) (good : 1 ≤ t) where
  -- t is in the list of the row where it stands in one of the eight places
  in_list : (k : ℕ) → k < place_count → r k ≡ t → Memᴰ t (row_list r)
  in_list k h e =
      let l : ¬ (n ≤ k) = λ z. omega (arith, p.rest k z) in
      subst (Memᴰ t) (sym (packed_list r n p)) (member_listed n r t k (omega arith) e)

  -- and nowhere else
  out_list : ((i : ℕ) → i < place_count → r i ≢ t) → Memᴰ t (row_list r) → ⊥
  out_list none m = let z = listed_member n r t (subst (Memᴰ t) (packed_list r n p) m) in none z.0 (omega (arith, z.1, p.room)) z.2

  -- a triple that is there stays where it stands
  granted_again : Memᴰ t (row_list r) → row_list (granted t r) ≡ row_list r
  granted_again m = go (ltb (seek t r place_count) place_count) (below (seek t r place_count) place_count) (sought t r place_count)
    where
      go : (b : Bool) → Below (seek t r place_count) place_count b → Sought t r place_count (seek t r place_count)
          → row_list (pick b r (replace (seek 0 r place_count) t r)) ≡ row_list r
      go true (under h) z = refl
      go false (over h) (inl z) = absurd (omega (arith, z.0))
      go false (over h) (inr z) = absurd (out_list z.1 m)

  -- a new one comes last
  granted_last : (seek t r place_count ≡ place_count → seek 0 r place_count < place_count) → (Memᴰ t (row_list r) → ⊥)
      → row_list (granted t r) ≡ row_list r ++ (t ∷ [])
  granted_last fits new = go (ltb (seek t r place_count) place_count) (below (seek t r place_count) place_count) (sought t r place_count)
    where
      first : seek 0 r place_count ≡ n
      first = first_zero r n p

      go : (b : Bool) → Below (seek t r place_count) place_count b → Sought t r place_count (seek t r place_count)
          → row_list (pick b r (replace (seek 0 r place_count) t r)) ≡ row_list r ++ (t ∷ [])
      go true (under h) (inl z) = absurd (new (in_list (seek t r place_count) h z.1))
      go true (under h) (inr z) = absurd (omega (arith, z.0))
      go false (over h) (inl z) = absurd (omega (arith, z.0))
      go false (over h) (inr z) =
          let after = append_packed r n t p (omega (arith, fits z.0, first)) good (λ i l. z.1 i (omega (arith, p.room))) in
          ap (λ (k : ℕ). row_list (replace k t r)) first ∙ packed_list (replace n t r) (suc n) after ∙ values_put n t r
          ∙ ap (λ (l : List ℕ). l ++ (t ∷ [])) (sym (packed_list r n p))

  -- a triple that is taken away is taken out of the list
  revoked_taken : TakenOut t (row_list r) (row_list (without t r place_count))
  revoked_taken = go (ltb (seek t r place_count) n) (below (seek t r place_count) n) (sought t r place_count)
    where
      k : ℕ
      k = seek t r place_count

      go : (b : Bool) → Below k n b → Sought t r place_count k → TakenOut t (row_list r) (row_list (close k r))
      go true (under h) (inl z) =
          rw (packed_list r n p, packed_list (close k r) (pred n) (close_packed r n k p h)) (close_taken r n t k p h z.1)
      go true (under h) (inr z) = absurd (omega (arith, z.0, p.room))
      go false (over h) z = rw (close_beyond r n k p h, packed_list r n p) (none_taken r n t (λ m. before t r place_count m.0 (omega (arith, m.1)) m.2))

module _ (d : Tables) (w : WellFormed d) (s : Asked) where
  -- Grant has done what is said of it: the triple stays, or comes last.
  pub grant_done : MayGrant s d → HasGranted s d ((row_of to_grant).effect s d)
  grant_done a = record {
    again = λ m. now ∙ granted_again t n r p good m;
    last = λ m. now ∙ granted_last t n r p good a.room m;
  }
    where
      t : ℕ
      t = named_triple s

      r : ℕ → ℕ
      r = triples d s.first

      n : ℕ
      n = (w.entities s.first).access.0

      p : Packed r n
      p = (w.entities s.first).access.1.packed

      -- a triple with a position is not zero
      good : 1 ≤ t
      good = omega (arith, a.good.position)

      now : access_list ((row_of to_grant).effect s d) s.first ≡ row_list (granted t r)
      now = ap (λ (v : EntityWord → ℕ). row_list (λ i. v (triple i))) (edited_here (row triple (granted t r)) s.first d.entity)

  -- So has revoke: the triple is taken out.
  pub revoke_done : MayRevoke s d → Done to_revoke s d ((row_of to_revoke).effect s d)
  revoke_done a =
      subst (TakenOut t (row_list r)) (sym now) (revoked_taken t (w.entities s.first).access.0 r (w.entities s.first).access.1.packed good)
    where
      t : ℕ
      t = named_triple s

      r : ℕ → ℕ
      r = triples d s.first

      good : 1 ≤ t
      good = omega (arith, a.good.position)

      now : access_list ((row_of to_revoke).effect s d) s.first ≡ row_list (without t r place_count)
      now = ap (λ (v : EntityWord → ℕ). row_list (λ i. v (triple i))) (edited_here (row triple (without t r place_count)) s.first d.entity)

-- A row of n places, and where `show` puts e in it.
module _ (e n : ℕ) (at : ℕ → ℕ) (p : Packed at n) where
  -- at its place, where it has one: nothing moves
  shown_again : Member at n e → (pick (ltb (seek e at n) n) n (suc n) ≡ n) × (at (seek e at n) ≡ e)
  shown_again m = go (ltb (seek e at n) n) (below (seek e at n) n) (sought e at n)
    where
      go : (b : Bool) → Below (seek e at n) n b → Sought e at n (seek e at n) → (pick b n (suc n) ≡ n) × (at (seek e at n) ≡ e)
      go true (under h) (inl z) = (refl, z.1)
      go true (under h) (inr z) = absurd (omega (arith, z.0))
      go false (over h) (inl z) = absurd (omega (arith, z.0))
      go false (over h) (inr z) = absurd (z.1 m.0 m.1 m.2)

  -- in the next place, where it has none
  shown_new : (Member at n e → ⊥) → (pick (ltb (seek e at n) n) n (suc n) ≡ suc n) × (seek e at n ≡ n)
  shown_new m = go (ltb (seek e at n) n) (below (seek e at n) n) (sought e at n)
    where
      go : (b : Bool) → Below (seek e at n) n b → Sought e at n (seek e at n) → (pick b n (suc n) ≡ suc n) × (seek e at n ≡ n)
      go true (under h) (inl z) = absurd (m (seek e at n, z.0, z.1))
      go true (under h) (inr z) = absurd (omega (arith, z.0))
      go false (over h) (inl z) = absurd (omega (arith, z.0))
      go false (over h) (inr z) = (refl, z.0)

  -- no other used place is the one
  other_place : (i : ℕ) → i < n → at i ≢ e → i ≢ seek e at n
  other_place i l q z = go (sought e at n)
    where
      go : Sought e at n (seek e at n) → ⊥
      go (inl y) = q (ap at z ∙ y.1)
      go (inr y) = omega (arith, y.0)

module _ (d : Tables) (w : WellFormed d) (s : Asked) where
  -- So has show: the entity keeps its place, or comes last, with the sum that was asked.
  pub show_done : HasShown s d ((row_of to_show).effect s d)
  show_done = record {
    again = λ m.
        let z = shown_again e n at p (listed_member n at e m) in
        now_contents ∙ ap₂ first_values z.0 (replace_same at k e z.1);
    sum = λ i l q.
        let z = shown_again e n at p (i, l, q) in
        let here : i ≡ k = p.distinct i k l (omega (arith, shown_place (i, l, q))) (q ∙ sym z.1) in
        now_sum i ∙ case (λ (y : ℕ). y ≡ s.a) i k s.a (sum i) (λ _. refl) (λ o. absurd (o here));
    last = λ m.
        let z = shown_new e n at p (λ h. m (member_listed n at e h.0 h.1 h.2)) in
        now_contents ∙ ap₂ first_values z.0 (ap (λ (j : ℕ). replace j e at) z.1) ∙ values_put n e at;
    last_sum = λ m.
        let z = shown_new e n at p (λ h. m (member_listed n at e h.0 h.1 h.2)) in
        now_sums ∙ ap₂ first_values z.0 (ap (λ (j : ℕ). replace j s.a sum) z.1) ∙ values_put n s.a sum;
    others = λ i l q. now_sum i ∙ case (λ (y : ℕ). y ≡ sum i) i k s.a (sum i) (λ h. absurd (other_place e n at p i l q h)) (λ _. refl);
  }
    where
      v : ℕ
      v = own d s

      e : ℕ
      e = s.first

      n : ℕ
      n = used_places d v

      at : ℕ → ℕ
      at = places d v

      sum : ℕ → ℕ
      sum = sums d v

      p : Packed at n
      p = (w.entities v).filled.packed

      k : ℕ
      k = seek e at n

      shown_place : Member at n e → k < n
      shown_place m = go (sought e at n)
        where
          go : Sought e at n k → k < n
          go (inl z) = z.0
          go (inr z) = absurd (z.1 m.0 m.1 m.2)

      now : ((row_of to_show).effect s d).entity v ≡ written (placing v e s.a d k (pick (ltb k n) n (suc n))) (d.entity v)
      now = edited_here (placing v e s.a d k (pick (ltb k n) n (suc n))) v d.entity

      now_contents : contents ((row_of to_show).effect s d) v ≡ first_values (pick (ltb k n) n (suc n)) (replace k e at)
      now_contents = ap (λ (f : EntityWord → ℕ). first_values (f used) (λ i. f (place i))) now

      now_sums : content_sums ((row_of to_show).effect s d) v ≡ first_values (pick (ltb k n) n (suc n)) (replace k s.a sum)
      now_sums = ap (λ (f : EntityWord → ℕ). first_values (f used) (λ i. f (shown i))) now

      now_sum : (i : ℕ) → sums ((row_of to_show).effect s d) v i ≡ replace k s.a sum i
      now_sum i = ap (λ (f : EntityWord → ℕ). f (shown i)) now
