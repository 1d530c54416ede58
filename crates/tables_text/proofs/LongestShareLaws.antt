-- The text of a well-formed record has at most the bytes that its shares say.
use Rattle.std.specs.Prelude.{◌≡◌, ◌*◌, ◌+◌, ◌≤◌, ℕ, eqb, length}
use Rattle.std.proofs.Common.{arith, eqb-true}
use Rattle.model.specs.Basics.Cases.{cases, true_or_false}
use Rattle.model.specs.Basics.Choice.{pick}
use Rattle.model.specs.State.Agree.{device_range}
use Rattle.model.specs.State.WellFormed.{WellFormed}
use Rattle.model.specs.Tables.Kinds.{screen}
use Rattle.model.specs.Tables.Words.{Tables, absent_kind, container_kind, current, device_kind, devices, entity_count, kinds, maximum, places, present}
use Rattle.model.specs.Tables.Words.{released_type, releaser, type, used_places, user_count, value}
use Rattle.model.specs.Text.NumberLaws.{length_most}
use Rattle.model.specs.Text.Numbers.{digit_count}
use Rattle.tables_text.specs.Longest.{device_size, level_digits, place_size, releaser_digits, role_digits, second, size, thing_size, user_size}
use Rattle.tables_text.proofs.LongestLineLaws.{digits_fit, entity_lines_lem, place_length, second_fits, second_most, user_lines_lem}
use Rattle.tables_text.specs.LongestShares.{content_bytes, in_bytes, on_bytes, own_bytes, user_on}
use Rattle.tables_text.specs.TextOf.{entity_lines, entity_text, place_at, user_lines, user_text}
use Rattle.tables_text.specs.Total.{total}
use Rattle.tables_text.specs.TotalLaws.{total_const, total_le, total_none}
use Rattle.std.proofs.lemmas.Bool.{eqb-false}

module _ (d : Tables) (w : WellFormed d) where
  -- ---- users

  -- the lines of one who is off, and of one who is on
  user_off : (u : ℕ) → u ≤ user_count → devices d u ≡ 0 → length (user_lines d u) ≤ user_size + second u
  user_off u h o =
      omega (
        arith,
        user_lines_lem d w u h 1 1 (digits_fit 1 (d.user u current) (omega arith) (omega (arith, (w.users u).off o)) (omega (arith, (w.users u).off o)))
            (digits_fit 1 (devices d u) (omega arith) (omega arith) (omega arith)),
      )

  user_on_lem : (u : ℕ) → u ≤ user_count → (devices d u ≡ 0 → ⊥) → length (user_lines d u) ≤ user_size + second u + on_bytes (devices d u)
  user_on_lem u h o =
      omega (
        arith,
        user_lines_lem d w u h role_digits (1 + second (devices d u))
            (digits_fit role_digits (d.user u current) (omega arith) (omega (arith, (w.users u).current_in)) (omega (arith, (w.users u).current_in)))
            (second_fits (devices d u) (omega (arith, (device_range d w u o).1))),
      )

  present_share : (u : ℕ) → u ≤ user_count → length (user_lines d u) ≤ user_size + second u + user_on d u
  unfolding user_on
  present_share u h = cases (true_or_false (eqb (devices d u) 0))
      (λ e. rw e (omega (arith, user_off u h (eqb-true (devices d u) 0 e))))
      (λ e. rw e (user_on_lem u h (eqb-false (devices d u) 0 e)))

  pub user_share : (u : ℕ) → u ≤ user_count → length (user_text d u) ≤ user_size + second u + user_on d u
  unfolding user_text
  user_share u h = cases (true_or_false (eqb (d.user u present) 0)) (λ e. rw e (omega arith)) (λ e. rw e (present_share u h))

  -- ---- entities

  -- what a device shows
  shown_length : (e : ℕ) → total (used_places d e) 0 (λ i. length (place_at d e i)) ≤ used_places d e * (place_size + 1)
  shown_length e =
      omega (
        arith,
        total_le (used_places d e) 0 (λ i. length (place_at d e i)) (λ i. place_size + 1)
            (λ i a b. omega (arith, place_length d w e i (omega arith), second_most (places d e i))),
        total_const (used_places d e) 0 (place_size + 1),
      )

  -- what is in a container
  inside_length : (e : ℕ) → total (used_places d e) 0 (λ i. length (place_at d e i)) ≤ total (used_places d e) 0 (λ i. in_bytes (places d e i))
  inside_length e =
      total_le (used_places d e) 0 (λ i. length (place_at d e i)) (λ i. in_bytes (places d e i)) (λ i a b. place_length d w e i (omega arith))

  -- a device has neither value nor releaser,
  plain_device : (e : ℕ) → kinds d e ≡ device_kind → d.entity e releaser ≡ 0
  plain_device e k =
      let s = (w.entities e).shape in
      s.releaser_off (λ t. omega (arith, s.typed (λ p. omega arith)))

  device_lines : (e : ℕ) → e ≤ entity_count → kinds d e ≡ device_kind → length (entity_lines d e) ≤ device_size + second e + used_places d e * (place_size + 1)
  device_lines e h k =
      let s = (w.entities e).shape in
      omega (
        arith,
        shown_length e,
        entity_lines_lem d w e h 1 1 level_digits
            (digits_fit 1 (d.entity e value) (omega arith) (omega (arith, s.device_value k)) (omega (arith, s.device_value k)))
            (digits_fit 1 (d.entity e releaser) (omega arith) (omega (arith, plain_device e k)) (omega (arith, plain_device e k)))
            (digits_fit level_digits (d.entity e maximum) (omega arith) (omega (arith, s.maximum_in)) (omega (arith, s.maximum_in))),
      )

  -- and a thing no maximum
  releaser_fits : (e : ℕ) → size (d.entity e releaser) ≤ releaser_digits
  releaser_fits e =
      let s = (w.entities e).shape in
      cases (true_or_false (eqb (d.entity e type) released_type))
      (λ t. let r = s.releaser_on (eqb-true (d.entity e type) released_type t) in
      digits_fit releaser_digits (d.entity e releaser) (omega arith) (omega (arith, r.1)) (omega (arith, r.1)))
      (λ t. let r = s.releaser_off (eqb-false (d.entity e type) released_type t) in
      digits_fit releaser_digits (d.entity e releaser) (omega arith) (omega arith) (omega arith))

  thing_lines : (e : ℕ) → e ≤ entity_count → (kinds d e ≡ device_kind → ⊥)
      → length (entity_lines d e) ≤ thing_size + second e + total (used_places d e) 0 (λ i. length (place_at d e i))
  thing_lines e h k =
      let x = (w.entities e).shape.maximum_on k in
      omega (
        arith,
        entity_lines_lem d w e h digit_count releaser_digits 1 (length_most (d.entity e value)) (releaser_fits e)
            (digits_fit 1 (d.entity e maximum) (omega arith) (omega arith) (omega arith)),
      )

  object_empty_lem : (e : ℕ) → (kinds d e ≡ absent_kind → ⊥) → (kinds d e ≡ container_kind → ⊥) → (kinds d e ≡ device_kind → ⊥)
      → total (used_places d e) 0 (λ i. length (place_at d e i)) ≡ 0
  object_empty_lem e a c k =
      let n = (w.entities e).filled.object_empty (omega (arith, (w.entities e).shape.kind_in)) in
      total_none (used_places d e) 0 (λ i. length (place_at d e i)) (λ i x y. absurd (omega arith))

  thing_share : (e : ℕ) → e ≤ entity_count → (kinds d e ≡ absent_kind → ⊥) → (kinds d e ≡ device_kind → ⊥)
      → length (entity_lines d e) ≤ thing_size + second e + content_bytes d e
  unfolding content_bytes
  thing_share e h a k = cases (true_or_false (eqb (kinds d e) container_kind))
      (λ c. rw c (omega (arith, thing_lines e h k, inside_length e)))
      (λ c. rw c (omega (arith, thing_lines e h k, object_empty_lem e a (eqb-false (kinds d e) container_kind c) k)))

  present_bytes : (e : ℕ) → e ≤ entity_count → (kinds d e ≡ absent_kind → ⊥)
      → length (entity_lines d e)
      ≤ pick (screen (kinds d e)) (device_size + second e + used_places d e * (place_size + 1)) (thing_size + second e) + content_bytes d e
  present_bytes e h a = cases (true_or_false (eqb (kinds d e) device_kind))
      (λ k. rw k (omega (arith, device_lines e h (eqb-true (kinds d e) device_kind k))))
      (λ k. rw k (thing_share e h a (eqb-false (kinds d e) device_kind k)))

  pub entity_share : (e : ℕ) → e ≤ entity_count → length (entity_text d e) ≤ own_bytes d e + content_bytes d e
  unfolding entity_text own_bytes
  entity_share e h = cases (true_or_false (eqb (kinds d e) absent_kind))
      (λ a. rw a (omega arith))
      (λ a. rw a (present_bytes e h (eqb-false (kinds d e) absent_kind a)))
