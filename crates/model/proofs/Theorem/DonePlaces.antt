-- Create, delete and move have done what Theorem/Done says.
use Rattle.std.specs.Prelude.{Bool, false, true, List, [], ◌++◌, ◌∷◌, ◌≢◌, ◌≡◌, refl, ◌<◌, ◌≤◌, suc, zero, ℕ, eqb}
use Rattle.std.proofs.Common.{◌∙◌, ap, subst, sym, not-suc-le-zero, arith}
use Rattle.model.specs.Basics.Agree.{agrees_eq}
use Rattle.model.specs.Basics.Choice.{Same, it, other, same}
use Rattle.model.specs.Effect.Places.{bearing, delete, fresh, leave, leaving, put, putting, sort_kind, sort_type, vacant}
use Rattle.model.proofs.Effect.PlacesLaws.{vacant_absent}
use Rattle.model.specs.Request.Allowed.{MayCreate, MayDelete, MayMove}
use Rattle.model.specs.Request.Asked.{Asked}
use Rattle.model.specs.Request.Operations.{row_of, to_create, to_delete, to_move}
use Rattle.model.specs.State.WellFormed.{WellFormed}
use Rattle.model.specs.Tables.Contents.{TakenOut, contents}
use Rattle.model.specs.Tables.ContentsLaws.{none_taken, values_put, without_taken}
use Rattle.model.specs.Tables.EditLaws.{case, edited_away, edited_here, edited_on}
use Rattle.model.specs.Tables.Edits.{blank, written}
use Rattle.model.specs.Tables.RowLaws.{before}
use Rattle.model.specs.Tables.Words.{EntityWord, Tables, absent_kind, container_kind, entity_count, kind, kinds, level, mark, maximum}
use Rattle.model.specs.Tables.Words.{place, places, releaser, shown, sums, triple, type, used, used_places, value}
use Rattle.model.specs.Tables.WordsOf.{first_values}
use Rattle.model.specs.Theorem.Done.{HasCreated, HasDeleted, HasMoved}
use Rattle.model.specs.Theorem.FramedPlaces.{container_unshown}

-- what stands in a record, of its words
abbrev record_contents : (EntityWord → ℕ) → List ℕ
record_contents w = first_values (w used) (λ i. w (place i))

-- An entity put last stands behind all others.
put_last : (d : Tables) (c e s : ℕ) → contents (put c e s d) c ≡ contents d c ++ (e ∷ [])
put_last d c e s = ap record_contents (edited_here (putting c e s d) c d.entity) ∙ values_put (used_places d c) e (places d c)

-- Where nothing is shown, nothing is shown of what is put there either.
put_unshown : (d : Tables) (c e : ℕ) → ((i : ℕ) → sums d c i ≡ 0) → (i : ℕ) → sums (put c e 0 d) c i ≡ 0
put_unshown d c e none i = ap (λ (w : EntityWord → ℕ). w (shown i)) (edited_here (putting c e 0 d) c d.entity)
    ∙ case (λ (y : ℕ). y ≡ 0) i (used_places d c) 0 (sums d c i) (λ q. refl) (λ q. none i)

-- An entity that leaves is taken out of every container.
leave_taken : (d : Tables) → WellFormed d → (e x : ℕ) → kinds d x ≡ container_kind → TakenOut e (contents d x) (contents (leave e d) x)
leave_taken d w e x box = subst (TakenOut e (contents d x))
    (sym (ap record_contents (edited_on (λ y. eqb (kinds d y) container_kind) (leaving e d) d.entity x ((agrees_eq (kinds d x) container_kind).from box))))
    (without_taken e (places d x) (used_places d x) (w.entities x).filled.packed)

-- From nothing nothing is taken out.
empty_taken : (n m : ℕ) (r q : ℕ → ℕ) (e : ℕ) → n ≡ 0 → m ≡ 0 → TakenOut e (first_values n r) (first_values m q)
unfolding first_values
empty_taken n m r q e a b = rw (a, b) (none_taken r 0 e (λ k. omega (arith, k.1)))

-- Every number from 1 on that is lower than the lowest absent one is present.
pub vacant_lowest : (d : Tables) (x : ℕ) → 1 ≤ x → x < vacant d → kinds d x ≢ absent_kind
vacant_lowest d zero l h = absurd (not-suc-le-zero l)
vacant_lowest d (suc x) l h = before absent_kind (λ i. kinds d (suc i)) entity_count x (omega arith)

module _ (d : Tables) (w : WellFormed d) (s : Asked) where
  -- Create has done what is said of it.
  pub create_done : MayCreate s d → HasCreated s d ((row_of to_create).effect s d)
  create_done a = record {
    new = e;
    low = omega arith;
    high = a.number;
    absent = gone;
    lowest = vacant_lowest d;
    object = λ q. (is kind ∙ ap sort_kind q, is type ∙ ap sort_type q);
    container = λ q. (is kind ∙ ap sort_kind q, is type ∙ ap sort_type q);
    draft = λ q. (is kind ∙ ap sort_kind q, is type ∙ ap sort_type q);
    levelled = is level;
    access = λ i. is (triple i);
    unmarked = is mark ∙ zero_before mark;
    valueless = is value ∙ zero_before value;
    unreleased = is releaser ∙ zero_before releaser;
    unlimited = is maximum ∙ zero_before maximum;
    empty = is used ∙ zero_before used;
    no_place = λ i. is (place i) ∙ zero_before (place i);
    no_sum = λ i. is (shown i) ∙ zero_before (shown i);
    last = put_last with_it c e 0;
    unshown = put_unshown with_it c e (container_unshown d w c a.box);
  }
    where
      e : ℕ
      e = vacant d

      c : ℕ
      c = s.first

      with_it : Tables
      with_it = fresh e c (sort_kind s.a) (sort_type s.a) s.b d

      gone : kinds d e ≡ absent_kind
      gone = vacant_absent d a.number

      zero_before : (f : EntityWord) → d.entity e f ≡ 0
      zero_before = (w.entities e).absent gone

      apart : e ≢ c
      apart q = omega (arith, ap (kinds d) q, gone, a.box)

      -- the new record, word by word
      is : (f : EntityWord) → (put c e 0 with_it).entity e f ≡ written (bearing c (sort_kind s.a) (sort_type s.a) s.b d) (d.entity e) f
      is f = ap (λ (v : EntityWord → ℕ). v f) (edited_away (putting c e 0 with_it) c with_it.entity e apart
          ∙ edited_here (bearing c (sort_kind s.a) (sort_type s.a) s.b d) e d.entity)

  -- So has delete.
  pub delete_done : MayDelete s d → HasDeleted s d ((row_of to_delete).effect s d)
  delete_done a = record {
    zeroed = λ f. zeroed_word f;
    left = λ x box. out x box (eqb x e) (same x e);
  }
    where
      e : ℕ
      e = s.first

      zeroed_word : (f : EntityWord) → (delete e d).entity e f ≡ 0
      zeroed_word f = ap (λ (v : EntityWord → ℕ). v f) (edited_here blank e (leave e d).entity)

      out : (x : ℕ) → kinds d x ≡ container_kind → (b : Bool) → Same x e b → TakenOut e (contents d x) (contents (delete e d) x)
      out x box true (it q) = empty_taken (used_places d x) (used_places (delete e d) x) (places d x) (places (delete e d) x) e
          (ap (used_places d) q ∙ a.empty) (ap (used_places (delete e d)) q ∙ zeroed_word used)
      out x box false (other q) = subst (TakenOut e (contents d x)) (sym (ap record_contents (edited_away blank e (leave e d).entity x q)))
          (leave_taken d w e x box)

  -- So has move.
  pub move_done : MayMove s d → HasMoved s d ((row_of to_move).effect s d)
  move_done a = record {
    left = λ x box n. subst (TakenOut e (contents d x)) (sym (ap record_contents (edited_away (putting c e 0 (leave e d)) c (leave e d).entity x n)))
        (leave_taken d w e x box);
    entered = (contents (leave e d) c, leave_taken d w e c a.box, put_last (leave e d) c e 0);
    unshown = put_unshown (leave e d) c e (container_unshown d w c a.box);
  }
    where
      e : ℕ
      e = s.first

      c : ℕ
      c = s.second
