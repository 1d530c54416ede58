-- The tests of a record by itself agree with the statements of rule 3.
use Rattle.std.specs.Prelude.{Bool, false, true, ◌≢◌, ◌⊎◌, ◌≡◌, ◌<◌, ◌≤◌, suc, ℕ, ltb}
use Rattle.std.proofs.Common.{arith}
use Rattle.model.specs.Basics.Agree.{Agrees, agreement, agrees_and, agrees_as, agrees_eq, agrees_every, agrees_imp, agrees_le}
use Rattle.model.specs.Basics.Choice.{Below, below, over, under}
use Rattle.model.specs.Basics.Tests.{imp}
use Rattle.model.specs.Level.{level_count, role_sets}
use Rattle.model.specs.State.Tests.{access_test, entity_test, filled_test, nobody_test, none_test, notice_test, packed_test, shape_test}
use Rattle.model.specs.State.Tests.{triple_test, user_test}
use Rattle.model.specs.State.WellFormed.{Access, EntityOk, Filled, GoodTriple, Notice, Shape, UserOk}
use Rattle.model.specs.Tables.Kinds.{Screen}
use Rattle.model.specs.Tables.RowLaws.{first_zero}
use Rattle.model.specs.Tables.Rows.{Packed, seek}
use Rattle.model.specs.Tables.Words.{EntityWord, UserWord, authorised, clearance, container_kind, current, device, device_kind}
use Rattle.model.specs.Tables.Words.{first_noticed, held, held_op, kind, last_noticed, level, mark, maximum, missed, missed_most}
use Rattle.model.specs.Tables.Words.{object_kind, operation_count, operation_in, place, place_count, plain_type, position_count, position_of}
use Rattle.model.specs.Tables.Words.{present, released_type, releaser, shown, spare, sum_most, triple, type, used, user_count, value}
use Rattle.model.specs.Tables.Words.{who_most, who_of}

-- Rules 3.3 and 3.8 to 3.11.
pub shape_agrees : (k t l m v r x : ℕ) → Agrees (shape_test k t l m v r x) (Shape k t l m v r x)
unfolding shape_test
shape_agrees k t l m v r x = agrees_as
    {P = (k ≤ device_kind) × ((t ≤ released_type) × ((l < level_count) × ((m ≤ 1)
    × ((x < level_count) × ((t ≢ plain_type → k ≡ container_kind) × ((m ≢ 0 → k ≡ container_kind)
    × ((t ≡ released_type → (1 ≤ r) × (r ≤ user_count)) × ((t ≢ released_type → r ≡ 0) × (((¬ Screen k) → x ≡ 0) × (Screen k → v ≡ 0))))))))))}
    (λ z. search) (λ s. search) (search agreement depth 20)

-- a row of eight is zero from its eighth place on
abbrev pub Eight : (ℕ → ℕ) → Type 0
Eight r = (i : ℕ) → place_count ≤ i → r i ≡ 0

-- such a row that is zero in its places from n on is zero from n on
zero_from : (n : ℕ) (r : ℕ → ℕ) → Eight r → ((i : ℕ) → i < place_count → n ≤ i → r i ≡ 0) → (i : ℕ) → n ≤ i → r i ≡ 0
zero_from n r out f i h = go (ltb i place_count) (below i place_count)
  where
    go : (b : Bool) → Below i place_count b → r i ≡ 0
    go true (under l) = f i l h
    go false (over l) = out i l

-- and one that is zero in all its places is zero
within : (r : ℕ → ℕ) → Eight r → ((i : ℕ) → i < place_count → r i ≡ 0) → (i : ℕ) → r i ≡ 0
within r out f i = zero_from 0 r out (λ j l h. f j l) i (omega arith)

-- Rules 3.4 and 3.5.
pub packed_agrees : (row : ℕ → ℕ) (n : ℕ) → Eight row → Agrees (packed_test row n) (Packed row n)
unfolding packed_test
packed_agrees row n out = agrees_as
    {P = (n ≤ place_count) × (((i : ℕ) → i < place_count → i < n → 1 ≤ row i) × (((i : ℕ) → i < place_count → n ≤ i → row i ≡ 0)
    × ((i : ℕ) → i < place_count → (j : ℕ) → j < place_count → i < n → j < n → row i ≡ row j → i ≡ j)))}
    (λ z. record {
      room = z.0;
      used = λ i h. z.1.0 i (omega arith) h;
      rest = zero_from n row out z.1.1.0;
      distinct = λ i j h l e. z.1.1.1 i (omega arith) j (omega arith) h l e;
    })
    (λ p. (p.room, (λ i l h. p.used i h, (λ i l h. p.rest i h, λ i l j m h k e. p.distinct i j h k e))))
    (search agreement depth 20)

-- Rules 3.19 to 3.21.
pub notice_agrees : (h o n : ℕ) → Agrees (notice_test h o n) (Notice h o n)
unfolding notice_test
notice_agrees h o n = agrees_as
    {P = ((h ≡ 0) ⊎ ((first_noticed ≤ h) × (h ≤ last_noticed))) × ((o ≤ operation_count)
    × ((n ≤ missed_most) × ((h ≡ 0 → n ≡ 0) × ((n ≡ 0 → h ≡ 0) × (h ≡ 0 → o ≡ 0)))))}
    (λ z. search) (λ s. search) (search agreement depth 20)

-- Rules 3.4, 3.7 and 3.12.
pub filled_agrees : (k n : ℕ) (at sum : ℕ → ℕ) → Eight at → Eight sum → Agrees (filled_test k n at sum) (Filled k n at sum)
unfolding filled_test
filled_agrees k n at sum ea es = agrees_as
    {P = Packed at n × ((k ≡ object_kind → n ≡ 0) × ((Screen k → (i : ℕ) → i < place_count → i < n → (1 ≤ sum i) × (sum i ≤ sum_most))
    × (((¬ Screen k) → (i : ℕ) → i < place_count → sum i ≡ 0) × ((i : ℕ) → i < place_count → n ≤ i → sum i ≡ 0))))}
    (λ z. record {
      packed = z.0;
      object_empty = z.1.0;
      sums = λ q i h. z.1.1.0 q i (omega (arith, z.0.room)) h;
      no_sums = λ q. within sum es (z.1.1.1.0 q);
      rest_sums = zero_from n sum es z.1.1.1.1;
    })
    (λ f. (f.packed, (f.object_empty, (λ q i h l. f.sums q i l, (λ q i h. f.no_sums q i, λ i h l. f.rest_sums i l)))))
    (agrees_and (packed_agrees at n ea) (search agreement depth 20))

-- Rule 3.22.
pub good_agrees : (t : ℕ) → Agrees (triple_test t) (GoodTriple t)
unfolding triple_test
good_agrees t = agrees_as
    {P = ((1 ≤ who_of t) × (who_of t ≤ who_most))
    × (((1 ≤ operation_in t) × (operation_in t ≤ operation_count)) × ((1 ≤ position_of t) × (position_of t ≤ position_count)))}
    (λ z. search) (λ s. search) (search agreement depth 20)

-- Rule 3.5.
pub access_agrees : (r : ℕ → ℕ) → Eight r → Agrees (access_test r) ((n : ℕ) × Access n r)
unfolding access_test
access_agrees r out = agrees_as
    {P = Packed r (seek 0 r place_count) × ((i : ℕ) → i < place_count → i < seek 0 r place_count → GoodTriple (r i))}
    (λ z. (seek 0 r place_count, record { packed = z.0; good = λ i h. z.1 i (omega (arith, z.0.room)) h }))
    (λ a. let e = first_zero r a.0 a.1.packed in (rw e a.1.packed, λ i h l. a.1.good i (omega arith)))
    (agrees_and (packed_agrees r (seek 0 r place_count) out) (agrees_every place_count (λ i. imp (ltb i (seek 0 r place_count)) (triple_test (r i)))
    (λ i. i < seek 0 r place_count → GoodTriple (r i)) (λ i. agrees_imp (agrees_le (suc i) (seek 0 r place_count)) (good_agrees (r i)))))

pub record Eights (w : EntityWord → ℕ) : Type 0 where
  pub place8 : Eight (λ i. w (place i))
  pub shown8 : Eight (λ i. w (shown i))
  pub triple8 : Eight (λ i. w (triple i))

-- Rule 3.1 of an entity.
absent_entity_agrees : (w : EntityWord → ℕ) → Eights w → Agrees (none_test w) ((f : EntityWord) → w f ≡ 0)
unfolding none_test
absent_entity_agrees w o = agrees_as
    {P = (w kind ≡ 0) × ((w type ≡ 0) × ((w level ≡ 0) × ((w mark ≡ 0) × ((w value ≡ 0) × ((w releaser ≡ 0) × ((w maximum ≡ 0) × ((w used ≡ 0)
    × (((i : ℕ) → i < place_count → w (place i) ≡ 0) × (((i : ℕ) → i < place_count → w (shown i) ≡ 0) × ((i : ℕ) → i < place_count → w (triple i) ≡ 0))))))))))}
    (λ z. elim [
      | kind ↦ z.0
      | type ↦ z.1.0
      | level ↦ z.1.1.0
      | mark ↦ z.1.1.1.0
      | value ↦ z.1.1.1.1.0
      | releaser ↦ z.1.1.1.1.1.0
      | maximum ↦ z.1.1.1.1.1.1.0
      | used ↦ z.1.1.1.1.1.1.1.0
      | place i ↦ within (λ j. w (place j)) o.place8 z.1.1.1.1.1.1.1.1.0 i
      | shown i ↦ within (λ j. w (shown j)) o.shown8 z.1.1.1.1.1.1.1.1.1.0 i
      | triple i ↦ within (λ j. w (triple j)) o.triple8 z.1.1.1.1.1.1.1.1.1.1 i
    ])
    (λ f. (
      f kind,
      (
        f type,
        (
          f level,
          (
            f mark,
            (
              f value,
              (
                f releaser,
                (
                  f maximum,
                  (
                    f used,
                    (λ i h. f (place i), (λ i h. f (shown i), λ i h. f (triple i))),
                  ),
                ),
              ),
            ),
          ),
        ),
      ),
    ))
    (search agreement depth 20)

-- An entity's record by itself.
pub entity_agrees : (w : EntityWord → ℕ) → Eights w → Agrees (entity_test w) (EntityOk w)
unfolding entity_test
entity_agrees w o = agrees_as
    {P = (w kind ≡ 0 → (f : EntityWord) → w f ≡ 0) × (Shape (w kind) (w type) (w level) (w mark) (w value) (w releaser) (w maximum)
    × (Filled (w kind) (w used) (λ i. w (place i)) (λ i. w (shown i)) × ((n : ℕ) × Access n (λ i. w (triple i)))))}
    (λ z. record { absent = z.0; shape = z.1.0; filled = z.1.1.0; access = z.1.1.1 })
    (λ e. (e.absent, (e.shape, (e.filled, e.access))))
    (agrees_and (agrees_imp (agrees_eq (w kind) 0) (absent_entity_agrees w o)) (agrees_and
    (shape_agrees (w kind) (w type) (w level) (w mark) (w value) (w releaser) (w maximum))
    (agrees_and (filled_agrees (w kind) (w used) (λ i. w (place i)) (λ i. w (shown i)) o.place8 o.shown8)
    (access_agrees (λ i. w (triple i)) o.triple8))))

-- Rule 3.1 of a user.
absent_user_agrees : (w : UserWord → ℕ) → Agrees (nobody_test w)
    ((w present ≡ 0) × ((w clearance ≡ 0) × ((w authorised ≡ 0) × ((w current ≡ 0) × ((w device ≡ 0) × ((w held ≡ 0) × ((w held_op ≡ 0) × (w missed ≡ 0))))))))
unfolding nobody_test
absent_user_agrees w = search agreement depth 20

-- A user's record by itself.
pub user_agrees : (w : UserWord → ℕ) → Eight (λ i. w (spare i)) → Agrees (user_test w) (UserOk w)
unfolding user_test
user_agrees w o = agrees_as
    {P = (w present ≡ 0 → (w present ≡ 0) × ((w clearance ≡ 0) × ((w authorised ≡ 0)
    × ((w current ≡ 0) × ((w device ≡ 0) × ((w held ≡ 0) × ((w held_op ≡ 0) × (w missed ≡ 0))))))))
    × ((w present ≤ 1) × ((w clearance < level_count) × ((w authorised < role_sets)
    × ((w current < role_sets) × (((i : ℕ) → i < place_count → w (spare i) ≡ 0)
    × ((w device ≡ 0 → w current ≡ 0) × Notice (w held) (w held_op) (w missed)))))))}
    (λ z. record {
      absent = λ q. let y = z.0 q in elim [
        | present ↦ y.0
        | clearance ↦ y.1.0
        | authorised ↦ y.1.1.0
        | current ↦ y.1.1.1.0
        | device ↦ y.1.1.1.1.0
        | held ↦ y.1.1.1.1.1.0
        | held_op ↦ y.1.1.1.1.1.1.0
        | missed ↦ y.1.1.1.1.1.1.1
        | spare i ↦ within (λ j. w (spare j)) o z.1.1.1.1.1.0 i
      ];
      present_in = z.1.0;
      clearance_in = z.1.1.0;
      authorised_in = z.1.1.1.0;
      current_in = z.1.1.1.1.0;
      spare_zero = within (λ j. w (spare j)) o z.1.1.1.1.1.0;
      off = z.1.1.1.1.1.1.0;
      notice = z.1.1.1.1.1.1.1;
    })
    (λ u. (
      λ q. let f = u.absent q in (f present, (f clearance, (f authorised, (f current, (f device, (f held, (f held_op, f missed))))))),
      (u.present_in, (u.clearance_in, (u.authorised_in, (u.current_in, (λ i h. u.spare_zero i, (u.off, u.notice)))))),
    ))
    (search (agreement, notice_agrees, absent_user_agrees) depth 20)
