-- Rule 8.4: every allowed effect leaves the values that Theorem/Done says.
use Rattle.std.specs.Prelude.{◌≡◌, ℕ, eqb}
use Rattle.std.proofs.Math.Dec.{eqb_refl}
use Rattle.model.specs.Basics.Choice.{pick}
use Rattle.model.specs.Basics.TestLaws.{pick_true}
use Rattle.model.specs.Request.Allowed.{Allowed}
use Rattle.model.specs.Request.Asked.{Asked, own}
use Rattle.model.specs.Request.Operations.{Op, row_of, to_acknowledge, to_authorised, to_clear, to_clearance, to_copy, to_create, to_current}
use Rattle.model.specs.Request.Operations.{to_delete, to_device_level, to_edit, to_grant, to_level, to_login, to_logout, to_mark, to_maximum}
use Rattle.model.specs.Request.Operations.{to_move, to_release, to_revoke, to_show}
use Rattle.model.specs.State.WellFormed.{WellFormed}
use Rattle.model.specs.Tables.Words.{Tables, authorised, clearance, current, device, held, held_op, level, mark, maximum, missed}
use Rattle.model.specs.Tables.Words.{places, released_type, releaser, sums, type, used_places, value}
use Rattle.model.specs.Theorem.Done.{Done}
use Rattle.model.proofs.Theorem.DonePlaces.{create_done, delete_done, move_done}
use Rattle.model.specs.Theorem.DoneRows.{grant_done, revoke_done, show_done}

-- the value at the record that is edited
set_here : (e new old : ℕ) → pick (eqb e e) new old ≡ new
set_here e new old = pick_true (eqb e e) new old (eqb_refl e)

-- Of all twenty: what an allowed effect leaves is what was to be done.
pub effect_done : (o : Op) (d : Tables) → WellFormed d → (s : Asked) → Allowed o s d → Done o s d ((row_of o).effect s d)
effect_done to_create d w s a = create_done d w s a
effect_done to_delete d w s a = delete_done d w s a
effect_done to_move d w s a = move_done d w s a
effect_done to_edit d w s a = set_here s.first s.a (d.entity s.first value)
effect_done to_copy d w s a = set_here s.second (d.entity s.first value) (d.entity s.second value)
effect_done to_level d w s a = set_here s.first s.a (d.entity s.first level)
effect_done to_mark d w s a = set_here s.first s.a (d.entity s.first mark)
effect_done to_grant d w s a = grant_done d w s a
effect_done to_revoke d w s a = revoke_done d w s a
effect_done to_show d w s a = show_done d w s
effect_done to_clear d w s a = record {
  none = set_here (own d s) 0 (used_places d (own d s));
  no_place = λ i. set_here (own d s) 0 (places d (own d s) i);
  no_sum = λ i. set_here (own d s) 0 (sums d (own d s) i);
}
effect_done to_login d w s a = set_here s.user s.first (d.user s.user device)
effect_done to_logout d w s a = record {
  screen = record {
    none = set_here (own d s) 0 (used_places d (own d s));
    no_place = λ i. set_here (own d s) 0 (places d (own d s) i);
    no_sum = λ i. set_here (own d s) 0 (sums d (own d s) i);
  };
  off = set_here s.user 0 (d.user s.user device);
  no_roles = set_here s.user 0 (d.user s.user current);
}
effect_done to_current d w s a = set_here s.a s.b (d.user s.a current)
effect_done to_clearance d w s a = set_here s.a s.b (d.user s.a clearance)
effect_done to_authorised d w s a = set_here s.a s.b (d.user s.a authorised)
effect_done to_maximum d w s a = set_here s.first s.a (d.entity s.first maximum)
effect_done to_device_level d w s a = set_here s.first s.a (d.entity s.first level)
effect_done to_release d w s a = record {
  released = set_here s.first released_type (d.entity s.first type);
  by = set_here s.first s.user (d.entity s.first releaser);
}
effect_done to_acknowledge d w s a = record {
  no_refusal = set_here s.user 0 (d.user s.user held);
  no_operation = set_here s.user 0 (d.user s.user held_op);
  none_missed = set_here s.user 0 (d.user s.user missed);
}
