-- Rules 6.11 and 6.13: the stores that empty a screen, and that take a user off.
use Rattle.std.specs.Prelude.{List, ◌≡◌, refl, ◌+◌, ℕ}
use Rattle.std.proofs.Common.{◌∙◌, ap, sym, arith}
use Rattle.model.specs.Effect.Screens.{clear, departing, off}
use Rattle.model.specs.Tables.Edits.{◌and◌, on_entity, on_user, row, user_word, word, written}
use Rattle.model.specs.Tables.Layout.{tables_of}
use Rattle.model.specs.Tables.LayoutLaws.{bounded}
use Rattle.model.specs.Tables.StoreLaws.{twice, user_alike, user_twice}
use Rattle.model.specs.Tables.Words.{Tables, UserWord, authorised, clearance, used, current, device, held, held_op, missed, place, place_count, places}
use Rattle.model.specs.Tables.Words.{present, shown, spare}
use Rattle.op_devices.specs.Wipe.{wiped_to}
use Rattle.rows.specs.EditLaws.{row_apart}
use Rattle.rows.specs.NameLaws.{place_row, shown_row}
use Rattle.rows.specs.Rows.{stored_to, up_to}
use Rattle.rows.specs.StoreLaws.{stored_more, stored_none, stored_whole}

module _ (t : List ℕ) (v : ℕ) where
  -- what is shown of the places, zero before i
  abbrev sums_to : ℕ → Tables
  sums_to i = stored_to shown v (λ j. 0) (tables_of t) i

  -- nothing is stored yet
  pub wipe_none : tables_of t ≡ wiped_to v (tables_of t) 0
  wipe_none = stored_none shown shown_row v (λ j. 0) (tables_of t) 0 (λ j h. absurd (omega arith))
      ∙ stored_none place place_row v (λ j. 0) (sums_to 0) 0 (λ j h. absurd (omega arith))

  -- place i and its sum are stored
  pub wipe_more : (n m : Tables) (i : ℕ) → n ≡ wiped_to v (tables_of t) i → m ≡ on_entity v (word (place i) 0) n
      → on_entity v (word (shown i) 0) m ≡ wiped_to v (tables_of t) (i + 1)
  wipe_more n m i p q = ap (on_entity v (word (shown i) 0)) (q ∙ ap (on_entity v (word (place i) 0)) p
      ∙ stored_more place place_row v (λ j. 0) (sums_to i) i 0 refl)
      ∙ row_apart place place_row v (sums_to i) (up_to (i + 1) (λ j. 0) (places (tables_of t) v)) (shown i) 0 (λ z. omega arith)
      ∙ ap (on_entity v (row place (up_to (i + 1) (λ j. 0) (places (tables_of t) v)))) (stored_more shown shown_row v (λ j. 0) (tables_of t) i 0 refl)

  -- all of them are, and no place is used
  pub wipe_all : (n : Tables) → n ≡ wiped_to v (tables_of t) place_count → on_entity v (word used 0) n ≡ clear v (tables_of t)
  wipe_all n p = ap (on_entity v (word used 0)) (p
      ∙ stored_whole place place_row v (λ j. 0) (sums_to place_count) place_count (λ j h. sym ((bounded t).places_out v j h))
      ∙ ap (on_entity v (row place (λ j. 0))) (stored_whole shown shown_row v (λ j. 0) (tables_of t) place_count (λ j h. sym ((bounded t).shown_out v j h)))
      ∙ twice v (row place (λ j. 0)) (row shown (λ j. 0)) (tables_of t))
      ∙ twice v (word used 0) (row place (λ j. 0) and row shown (λ j. 0)) (tables_of t)

-- a user is taken off the device, and acts with no role
pub off_stores : (d : Tables) (u : ℕ) → on_user u (user_word current 0) (on_user u (user_word device 0) d) ≡ off u d
off_stores d u = user_twice u (user_word current 0) (user_word device 0) d ∙ user_alike u (user_word current 0 and user_word device 0) departing d go
  where
    go : (f : UserWord) → written (user_word current 0 and user_word device 0) (d.user u) f ≡ written departing (d.user u) f
    go present = refl
    go clearance = refl
    go authorised = refl
    go current = refl
    go device = refl
    go held = refl
    go held_op = refl
    go missed = refl
    go (spare i) = refl
