-- What a visit says and writes, put together from the visits in it.
use Rattle.std.specs.Prelude.{Bool, ◌||◌, false, true, ◌≢◌, ◌≡◌, eqb, length}
use mathlib.Core.List.{List, [], ◌++◌, ◌∷◌, append-nil, map}
use Rattle.std.proofs.Common.{◌∙◌, subst, sym, add-zero, length-append}
use Rattle.std.proofs.Math.Path.{ap, refl}
use Prim.Native.Nat.{◌*◌, ◌+◌, ◌-◌, ◌<◌, ◌≤◌, pred, suc, zero, ℕ}
use Rattle.std.proofs.Math.Numerals.{add-one}
use native.Mathlib.Omega.{arith}
use Rattle.std.proofs.lemmas.List.{length-map}
use Rattle.std.proofs.Math.Seq.{length-sets}
use Rattle.std.proofs.lemmas.List.Edits.{sets}
use borrow.Author.Tests.{eqb-true}
use Rattle.disclosure.specs.EntryLaws.{entries_of_under, entries_of_whole, stored_both}
use Rattle.verdicts.specs.Verdicts.{leads, listed}
use Rattle.verdicts.specs.declared.Verdict.{Verdict}
use Rattle.disclosure.specs.Visited.{Fits, Visited, entries_of, followed, further_most, inside, under}
use Rattle.laws.specs.Bools.{or_cases}
use Rattle.model.specs.Basics.Cases.{cases}
use Rattle.model.specs.List.BoundLaws.{through_grows, through_more}
use Rattle.model.specs.List.Listing.{entries, entry, entry_words}
use Rattle.model.specs.List.Walk.{here, through, visit, walk}
use Rattle.model.specs.Request.Reference.{standing}
use Rattle.model.specs.Tables.Layout.{tables_of}
use Rattle.model.specs.Tables.Words.{places}

visited_as : (pre l r : List ℕ) (i n : ℕ) (a b : List (List ℕ)) → a ≡ b → Visited pre l i a n r → Visited pre l i b n r
visited_as pre l r i n a b e h = subst (λ (x : List (List ℕ)). Visited pre l i x n r) e h

-- nothing to list: nothing is written
visited_none : (pre l : List ℕ) (i : ℕ) → Visited pre l i [] i l
unfolding entries
visited_none pre l i = record { reach = sym (add-zero i); wrote = refl }

-- the room stays as long as it is
pub visited_length : (pre l r : List ℕ) (i n : ℕ) (a : List (List ℕ)) → Visited pre l i a n r → length r ≡ length l
visited_length pre l r i n a y = ap length y.wrote ∙ length-sets l i (entries_of pre a)

-- a name that leads to nothing adds nothing
skipped : (a b : List (List ℕ)) (x : ℕ) → length b ≡ 0 → a ++ map (λ r. x ∷ r) b ≡ a
skipped a [] x h = append-nil a
skipped a (r ∷ b) x h = absurd (omega arith)

-- two visits, one after the other
visited_both : (pre l m r : List ℕ) (i j n : ℕ) (a b : List (List ℕ)) → Visited pre l i a j m → Visited pre m j b n r → Visited pre l i (a ++ b) n r
visited_both pre l m r i j n a b p q =
    let f : j ≡ i + entry_words * length a = p.reach in
    let g : n ≡ j + entry_words * length b = q.reach in
    record {
      reach = omega (arith, length-append a b);
      wrote = stored_both pre l m r i j a b f p.wrote q.wrote;
    }

-- a visit with one name more after what begins its entries is a visit of what that name begins
visited_under : (pre more l r : List ℕ) (x i n : ℕ) (a : List (List ℕ)) → more ≡ pre ++ (x ∷ []) → Visited more l i a n r
    → Visited pre l i (map (λ s. x ∷ s) a) n r
visited_under pre more l r x i n a e y =
    let f : n ≡ i + entry_words * length a = y.reach in
    record {
      reach = omega (arith, length-map a (λ (s : List ℕ). x ∷ s));
      wrote = y.wrote ∙ ap (λ (o : List ℕ). sets l i (entries_of o a)) e ∙ ap (sets l i) (sym (entries_of_under pre x a));
    }

-- what one of the names leads to has space after what the names before it led to, where the room has space for all
visited_next : (f : ℕ → List (List ℕ)) (p m : ℕ) (pre l x : List ℕ) (at i : ℕ) → p < m → Visited pre l at (through p f) i x → Fits l at (through m f)
    → Fits x i (f (p + 1))
visited_next f p m pre l x at i lt y room =
    let e : i ≡ at + entry_words * length (through p f) = y.reach in
    let one : through (p + 1) f ≡ through p f ++ map (λ r. (p + 1) ∷ r) (f (p + 1)) = rw add-one (through_more p f) in
    omega (
      arith,
      ap length one,
      length-append (through p f) (map (λ r. (p + 1) ∷ r) (f (p + 1))),
      length-map (f (p + 1)) (λ r. (p + 1) ∷ r),
      through_grows (p + 1) m f (omega arith),
      visited_length pre l x at i (through p f) y,
    )

-- ---- one entry, or none

pub here_no : (b : Bool) (pre l : List ℕ) (i : ℕ) → b ≡ false → Visited pre l i (here b) i l
here_no b pre l i h = visited_as pre l l i i [] (here b) (ap here (sym h)) (visited_none pre l i)

-- one that is to be listed has space for its words
pub here_next : (b : Bool) (l : List ℕ) (i : ℕ) → b ≡ true → Fits l i (here b) → i + entry_words ≤ length l
here_next b l i h f = subst (λ (x : Bool). Fits l i (here x)) h f

pub here_yes : (b : Bool) (pre l r : List ℕ) (i : ℕ) → b ≡ true → r ≡ sets l i (entry pre) → Visited pre l i (here b) (i + entry_words) r
unfolding entries
here_yes b pre l r i h q =
    visited_as pre l r i (i + entry_words) (here true) (here b) (ap here (sym h))
    (record { reach = refl; wrote = q ∙ ap (λ (o : List ℕ). sets l i (entry o)) (sym (append-nil pre)) })

-- ---- an entity and its places

module _ (t : List ℕ) (v : List Verdict) where
  pub visit_last : (k e : ℕ) → k ≡ 0 → under t v k e ≡ here (listed v e)
  unfolding visit
  visit_last k e z = rw z refl

  pub visit_more : (k e : ℕ) → k ≢ 0 → under t v k e ≡ here (listed v e) ++ inside t v (k - 1) e (leads v e)
  unfolding visit
  visit_more zero e z = absurd (z refl)
  visit_more (suc k) e z = let q : suc k - 1 ≡ k = omega arith in rw q refl

  pub inside_more : (k e p : ℕ) → inside t v k e (p + 1) ≡ inside t v k e p ++ map (λ r. (p + 1) ∷ r) (under t v k (places (tables_of t) e p))
  unfolding through
  inside_more k e p = rw add-one (through_more p (λ j. under t v k (standing (tables_of t) e j)))

  -- no name is left
  pub entity_last : (k e : ℕ) (b : Bool) (pre l r : List ℕ) (i n : ℕ) → k ≡ 0 → b ≡ listed v e → Visited pre l i (here b) n r
      → Visited pre l i (under t v k e) n r
  entity_last k e b pre l r i n z s h = visited_as pre l r i n (here b) (under t v k e) (ap here s ∙ sym (visit_last k e z)) h

  -- no place leads on
  visit_alone : (k e : ℕ) → leads v e ≡ 0 → under t v k e ≡ here (listed v e)
  unfolding through
  visit_alone zero e z = visit_last zero e refl
  visit_alone (suc k) e z =
      visit_more (suc k) e (λ q. omega arith) ∙ ap (λ (m : ℕ). here (listed v e) ++ inside t v (suc k - 1) e m) z ∙ append-nil (here (listed v e))

  -- no place that leads on, or no name left after the entity's own: the entity itself is all
  visit_ends : (left e : ℕ) → (eqb (leads v e) 0 || eqb left 1) ≡ true → under t v (left - 1) e ≡ here (listed v e)
  visit_ends left e w =
      cases (or_cases (eqb (leads v e) 0) (eqb left 1) w)
      (λ q. visit_alone (left - 1) e (eqb-true (leads v e) 0 q))
      (λ q. visit_last (left - 1) e (omega (arith, eqb-true left 1 q)))

  pub entity_ends : (left e : ℕ) (b : Bool) (pre l r : List ℕ) (i n : ℕ) → (eqb (leads v e) 0 || eqb left 1) ≡ true → b ≡ listed v e
      → Visited pre l i (here b) n r → Visited pre l i (under t v (left - 1) e) n r
  entity_ends left e b pre l r i n w s h = visited_as pre l r i n (here b) (under t v (left - 1) e) (ap here s ∙ sym (visit_ends left e w)) h

  pub here_room : (k e : ℕ) (b : Bool) (l : List ℕ) (i : ℕ) → b ≡ listed v e → Fits l i (under t v k e) → Fits l i (here b)
  here_room zero e b l i s h =
      let q : length (here b) ≡ length (under t v zero e) = ap (λ (x : Bool). length (here x)) s ∙ ap length (sym (visit_last zero e refl)) in
      omega arith
  here_room (suc k) e b l i s h =
      let z : suc k ≢ 0 = λ q. omega arith in
      omega (
        arith,
        ap (λ (x : Bool). length (here x)) s,
        ap length (visit_more (suc k) e z),
        length-append (here (listed v e)) (inside t v (suc k - 1) e (leads v e)),
      )

  module _ (k e m : ℕ) (b : Bool) (z : k ≢ 0) (s : b ≡ listed v e) (w : m ≡ leads v e) where
    -- names are left: its places follow
    pub entity_more : (pre l x r : List ℕ) (i j n : ℕ) → Visited pre l i (here b) j x → Visited pre x j (inside t v (k - 1) e m) n r
        → Visited pre l i (under t v k e) n r
    entity_more pre l x r i j n h g =
        visited_as pre l r i n (here b ++ inside t v (k - 1) e m) (under t v k e)
        (ap (λ (a : Bool). here a ++ inside t v (k - 1) e m) s ∙ ap (λ (a : ℕ). here (listed v e) ++ inside t v (k - 1) e a) w ∙ sym (visit_more k e z))
        (visited_both pre l x r i j n (here b) (inside t v (k - 1) e m) h g)

    pub places_room : (pre l x : List ℕ) (i j : ℕ) → Visited pre l i (here b) j x → Fits l i (under t v k e) → Fits x j (inside t v (k - 1) e m)
    places_room pre l x i j h q =
        let f : j ≡ i + entry_words * length (here b) = h.reach in
        omega (
          arith,
          ap length (visit_more k e z),
          length-append (here (listed v e)) (inside t v (k - 1) e (leads v e)),
          ap (λ (a : Bool). length (here a)) s,
          ap (λ (a : ℕ). length (inside t v (k - 1) e a)) w,
          visited_length pre l x i j (here b) h,
        )

  -- ---- places
  pub places_none : (k e : ℕ) (pre l : List ℕ) (i : ℕ) → Visited pre l i (inside t v k e 0) i l
  unfolding through
  places_none k e pre l i = visited_none pre l i

  pub places_done : (k e p n : ℕ) (pre l r : List ℕ) (i j : ℕ) → p ≡ n → Visited pre l i (inside t v k e p) j r → Visited pre l i (inside t v k e n) j r
  places_done k e p n pre l r i j h y = visited_as pre l r i j (inside t v k e p) (inside t v k e n) (ap (inside t v k e) h) y

  module _ (k e p c : ℕ) (z : c ≡ places (tables_of t) e p) where
    pub places_turn : (pre more l x r : List ℕ) (at i n : ℕ) → more ≡ pre ++ ((p + 1) ∷ []) → Visited pre l at (inside t v k e p) i x
        → Visited more x i (under t v k c) n r → Visited pre l at (inside t v k e (p + 1)) n r
    places_turn pre more l x r at i n q y w =
        visited_as pre l r at n (inside t v k e p ++ map (λ o. (p + 1) ∷ o) (under t v k c)) (inside t v k e (p + 1))
        (ap (λ (y : ℕ). inside t v k e p ++ map (λ o. (p + 1) ∷ o) (under t v k y)) z ∙ sym (inside_more k e p))
        (visited_both pre l x r at i n (inside t v k e p) (map (λ o. (p + 1) ∷ o) (under t v k c)) y
        (visited_under pre more x r (p + 1) i n (under t v k c) q w))

    -- a place that leads to nothing is passed by
    pub places_skip : (pre l r : List ℕ) (at i : ℕ) → length (under t v k c) ≡ 0 → Visited pre l at (inside t v k e p) i r
        → Visited pre l at (inside t v k e (p + 1)) i r
    places_skip pre l r at i h y =
        visited_as pre l r at i (inside t v k e p) (inside t v k e (p + 1))
        (sym (inside_more k e p ∙ skipped (inside t v k e p) (under t v k (places (tables_of t) e p)) (p + 1)
        (ap (λ (d : ℕ). length (under t v k d)) (sym z) ∙ h))) y

    pub turn_room : (pre l x : List ℕ) (at i m : ℕ) → p < m → Visited pre l at (inside t v k e p) i x → Fits l at (inside t v k e m) → Fits x i (under t v k c)
    turn_room pre l x at i m lt y room =
        let q : standing (tables_of t) e (p + 1) ≡ c = ap (λ (n : ℕ). places (tables_of t) e (pred n)) (add-one p) ∙ sym z in
        subst (λ (y : ℕ). Fits x i (under t v k y)) q (visited_next (λ j. under t v k (standing (tables_of t) e j)) p m pre l x at i lt y room)

  -- ---- every entity
  pub all_none : (l : List ℕ) → Visited [] l 0 (followed t v 0) 0 l
  unfolding walk through
  all_none l = visited_none [] l 0

  pub followed_more : (p : ℕ) → followed t v (p + 1) ≡ followed t v p ++ map (λ o. (p + 1) ∷ o) (under t v further_most (p + 1))
  unfolding walk through
  followed_more p = rw add-one refl

  pub all_turn : (p : ℕ) (l x r : List ℕ) (i n : ℕ) → Visited [] l 0 (followed t v p) i x
      → Visited ((p + 1) ∷ []) x i (under t v further_most (p + 1)) n r → Visited [] l 0 (followed t v (p + 1)) n r
  all_turn p l x r i n y w =
      visited_as [] l r 0 n (followed t v p ++ map (λ o. (p + 1) ∷ o) (under t v further_most (p + 1))) (followed t v (p + 1)) (sym (followed_more p))
      (visited_both [] l x r 0 i n (followed t v p) (map (λ o. (p + 1) ∷ o) (under t v further_most (p + 1))) y
      (visited_under [] ((p + 1) ∷ []) x r (p + 1) i n (under t v further_most (p + 1)) refl w))

  pub all_skip : (p : ℕ) (l r : List ℕ) (i : ℕ) → length (under t v further_most (p + 1)) ≡ 0 → Visited [] l 0 (followed t v p) i r
      → Visited [] l 0 (followed t v (p + 1)) i r
  all_skip p l r i h y =
      visited_as [] l r 0 i (followed t v p) (followed t v (p + 1))
      (sym (followed_more p ∙ skipped (followed t v p) (under t v further_most (p + 1)) (p + 1) h)) y

  pub all_room : (p m : ℕ) (l x : List ℕ) (i : ℕ) → p < m → Visited [] l 0 (followed t v p) i x → Fits l 0 (followed t v m)
      → Fits x i (under t v further_most (p + 1))
  unfolding walk
  all_room p m l x i lt y room = visited_next (under t v further_most) p m [] l x 0 i lt y room

  -- the whole list is written
  pub all_done : (p n : ℕ) (l r : List ℕ) (j : ℕ) → p ≡ n → Visited [] l 0 (followed t v p) j r → r ≡ sets l 0 (entries (followed t v n))
  all_done p n l r j h y = y.wrote ∙ ap (sets l 0) (entries_of_whole (followed t v p)) ∙ ap (λ (m : ℕ). sets l 0 (entries (followed t v m))) h
