-- Rule 8.4: an accepted operation leaves every word outside what its row may change as it was.
use Rattle.std.specs.Prelude.{Bool, ◌||◌, false, true, refl, ℕ, T}
use Rattle.model.specs.Effect.Screens.{spot}
use Rattle.model.specs.Effect.Triples.{granted}
use Rattle.model.specs.Request.Allowed.{Allowed}
use Rattle.model.specs.Request.Asked.{Asked, named_triple, own}
use Rattle.model.specs.Request.Operations.{Op, row_of, to_acknowledge, to_authorised, to_clear, to_clearance, to_copy, to_create, to_current}
use Rattle.model.specs.Request.Operations.{to_delete, to_device_level, to_edit, to_grant, to_level, to_login, to_logout, to_mark, to_maximum}
use Rattle.model.specs.Request.Operations.{to_move, to_release, to_revoke, to_show}
use Rattle.model.specs.State.WellFormed.{WellFormed}
use Rattle.model.specs.Tables.Edits.{◌and◌, row, word}
use Rattle.model.specs.Tables.Rows.{replace, without}
use Rattle.model.specs.Tables.Words.{Tables, authorised, clearance, current, device, held, held_op, level, mark, maximum, missed}
use Rattle.model.specs.Tables.Words.{place, place_count, places, releaser, shown, sums, triple, triples, type, used, value}
use Rattle.model.specs.Theorem.FramedPlaces.{create_framed, delete_framed, move_framed}
use Rattle.model.specs.Theorem.MayChange.{Frame, screen_word, word_or_row}
use Rattle.model.specs.Theorem.Untouched.{TouchesOnly, both_only, entity_left, row_only, user_left, user_word_only, word_only}

-- one of three tests holds, however they are bracketed
regroup : (a b c : Bool) → T (a || (b || c)) → T ((a || b) || c)
regroup true b c t = tt
regroup false b c t = t

-- An edit of a screen touches its places, their number and their sums.
screen_only : (n : ℕ) (at sum : ℕ → ℕ) → TouchesOnly (word used n and row place at and row shown sum) screen_word
screen_only n at sum =
    let parts = both_only (word_only used {v = n}) (both_only (row_only place at) (row_only shown sum)) in
    record { only = λ f t. regroup (word_or_row used f) (word_or_row (place 0) f) (word_or_row (shown 0) f) (parts.only f t) }

-- Of all twenty: every word outside what the operation's row may change is as before.
pub framed : (o : Op) (d : Tables) → WellFormed d → (s : Asked) → Allowed o s d → Frame o s d ((row_of o).effect s d)
framed to_create d w s a = create_framed d w s a.box
framed to_delete d w s a = delete_framed d w s
framed to_move d w s a = move_framed d w s a.box
framed to_edit d w s a = record { users = λ x f t. refl; entities = entity_left (word_only value) s.first d }
framed to_copy d w s a = record { users = λ x f t. refl; entities = entity_left (word_only value) s.second d }
framed to_level d w s a = record { users = λ x f t. refl; entities = entity_left (word_only level) s.first d }
framed to_mark d w s a = record { users = λ x f t. refl; entities = entity_left (word_only mark) s.first d }
framed to_grant d w s a =
    record { users = λ x f t. refl; entities = entity_left (row_only triple (granted (named_triple s) (triples d s.first))) s.first d }
framed to_revoke d w s a =
    record { users = λ x f t. refl; entities = entity_left (row_only triple (without (named_triple s) (triples d s.first) place_count)) s.first d }
framed to_show d w s a =
    let k = spot (own d s) s.first d in
    record {
      users = λ x f t. refl;
      entities = entity_left (screen_only _ (replace k s.first (places d (own d s)))
          (replace k s.a (sums d (own d s)))) (own d s) d;
    }
framed to_clear d w s a = record { users = λ x f t. refl; entities = entity_left (screen_only 0 (λ i. 0) (λ i. 0)) (own d s) d }
framed to_login d w s a = record { users = user_left (user_word_only device) s.user d; entities = λ x f t. refl }
framed to_logout d w s a = record {
  users = user_left (both_only (user_word_only device) (user_word_only current)) s.user d;
  entities = entity_left (screen_only 0 (λ i. 0) (λ i. 0)) (own d s) d;
}
framed to_current d w s a = record { users = user_left (user_word_only current) s.a d; entities = λ x f t. refl }
framed to_clearance d w s a = record { users = user_left (user_word_only clearance) s.a d; entities = λ x f t. refl }
framed to_authorised d w s a = record { users = user_left (user_word_only authorised) s.a d; entities = λ x f t. refl }
framed to_maximum d w s a = record { users = λ x f t. refl; entities = entity_left (word_only maximum) s.first d }
framed to_device_level d w s a = record { users = λ x f t. refl; entities = entity_left (word_only level) s.first d }
framed to_release d w s a = record { users = λ x f t. refl; entities = entity_left (both_only (word_only type) (word_only releaser)) s.first d }
framed to_acknowledge d w s a = record {
  users = user_left (both_only (user_word_only held) (both_only (user_word_only held_op) (user_word_only missed))) s.user d;
  entities = λ x f t. refl;
}
