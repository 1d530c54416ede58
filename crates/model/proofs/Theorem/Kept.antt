-- Every request, accepted, refused or not understood, takes well-formed, secure tables to well-formed, secure tables.
use Rattle.std.specs.Prelude.{◌≢◌, ◌≡◌, refl, ◌≤◌}
use Rattle.std.proofs.Common.{arith}
use Rattle.model.specs.Effect.Notice.{notice}
use Rattle.model.proofs.Effect.NoticeLaws.{notice_secure, notice_well_formed}
use Rattle.model.specs.Effect.Places.{sort_kind, sort_type, vacant}
use Rattle.model.proofs.Effect.PlacesLaws.{create_secure, create_well_formed, delete_secure, delete_well_formed, move_secure}
use Rattle.model.proofs.Effect.PlacesLaws.{move_well_formed, sort_kind_lem, sort_type_lem, vacant_absent}
use Rattle.model.proofs.Effect.ScreensLaws.{clear_secure, clear_well_formed, login_secure, login_well_formed, logout_secure}
use Rattle.model.proofs.Effect.ScreensLaws.{logout_well_formed}
use Rattle.model.specs.Effect.ShowLaws.{show_good}
use Rattle.model.specs.Effect.TriplesLaws.{grant_secure, grant_well_formed, revoke_secure, revoke_well_formed}
use Rattle.model.specs.Effect.WordsLaws.{acknowledge_secure, acknowledge_well_formed, authorised_secure, authorised_well_formed}
use Rattle.model.specs.Effect.WordsLaws.{clearance_well_formed, current_secure, current_well_formed, edit_secure, edit_well_formed}
use Rattle.model.specs.Effect.WordsLaws.{level_well_formed, mark_secure, mark_well_formed, maximum_secure, maximum_well_formed}
use Rattle.model.specs.Effect.WordsLaws.{release_secure, release_well_formed}
use Rattle.model.specs.Request.After.{after, effect, noticed_op}
use Rattle.model.proofs.Request.AfterLaws.{after_each, effect_by, noticed_op_range}
use Rattle.model.specs.Request.Allowed.{Allowed, MayCreate}
use Rattle.model.specs.Request.Asked.{Asked, asked, named_triple, own}
use Rattle.model.specs.Request.Ladder.{answer}
use Rattle.model.specs.Request.LadderLaws.{answer_is, answer_range}
use Rattle.model.proofs.Request.OperationLaws.{names_found}
use Rattle.model.specs.Request.Operations.{Op, row_of, to_acknowledge, to_authorised, to_clear, to_clearance, to_copy, to_create, to_current}
use Rattle.model.specs.Request.Operations.{to_delete, to_device_level, to_edit, to_grant, to_level, to_login, to_logout, to_mark, to_maximum}
use Rattle.model.specs.Request.Operations.{to_move, to_release, to_revoke, to_show}
use Rattle.model.specs.Request.Words.{Request}
use Rattle.model.specs.State.Secure.{Good, Secure}
use Rattle.model.specs.State.WellFormed.{WellFormed}
use Rattle.model.specs.Tables.KindLaws.{terminal_shows}
use Rattle.model.specs.Tables.Kinds.{Screen}
use Rattle.model.specs.Tables.Words.{Tables, first_noticed, kinds, present, value}
use Rattle.model.proofs.Theorem.Acceptance.{accepted, requester_known}
use Rattle.model.specs.Request.Refusals as refusal

-- Each operation's effect keeps them.
module _ (d : Tables) (w : WellFormed d) (g : Secure d) (s : Asked) (p : d.user s.user present ≢ 0) where
  on_screen_lem : own d s ≢ 0 → Screen (kinds d (own d s))
  on_screen_lem h = terminal_shows (kinds d (own d s)) (w.links.device_is s.user h)

  create_good : MayCreate s d → Good ((row_of to_create).effect s d)
  create_good h = (
    create_well_formed d w g (vacant d) s.first (sort_kind s.a) (sort_type s.a) s.b (vacant_absent d h.number) (omega arith, h.number)
        (sort_kind_lem s.a) (sort_type_lem s.a) h.level_in h.box h.room h.low,
    create_secure d w g (vacant d) s.first (sort_kind s.a) (sort_type s.a) s.b (vacant_absent d h.number) (omega arith, h.number)
        (sort_kind_lem s.a) (sort_type_lem s.a) h.level_in h.box h.room h.low,
  )

  pub effect_good : (o : Op) → Allowed o s d → Good ((row_of o).effect s d)
  effect_good to_create h = create_good h
  effect_good to_delete h =
      (delete_well_formed d w g s.first h.thing.1 h.empty h.unseen, delete_secure d w g s.first h.thing.1 h.empty h.unseen)
  effect_good to_move h = (
    move_well_formed d w g s.first s.second h.thing h.box h.room h.apart h.low,
    move_secure d w g s.first
        s.second h.thing h.box h.room h.apart h.low,
  )
  effect_good to_edit h = (edit_well_formed d w s.first s.a h, edit_secure d g s.first s.a)
  effect_good to_copy h =
      (edit_well_formed d w s.second (d.entity s.first value) h.thing₂, edit_secure d g s.second (d.entity s.first value))
  effect_good to_level h = (level_well_formed d w s.first s.a h.thing.0 h.level_in, h.secure)
  effect_good to_mark h = (mark_well_formed d w s.first s.a h.box h.flag, mark_secure d g s.first s.a)
  effect_good to_grant h =
      (grant_well_formed d w g s.first (named_triple s) h.here h.good h.room, grant_secure d w g s.first (named_triple s) h.here h.good)
  effect_good to_revoke h =
      (revoke_well_formed d w g s.first (named_triple s) h.here h.good, revoke_secure d w g s.first (named_triple s) h.here h.good)
  effect_good to_show h =
      show_good d w g s.user (own d s) s.first s.a refl (on_screen_lem h.on) h.thing h.sum h.label h.low h.clear h.room
  effect_good to_clear h = (clear_well_formed d w (own d s) (omega (arith, on_screen_lem h)), clear_secure d w (own d s) g)
  effect_good to_login h =
      (login_well_formed d w g s.user s.first p h.off h.terminal h.free, login_secure d w g s.user s.first p h.terminal h.free)
  effect_good to_logout h = (logout_well_formed d w g s.user p h, logout_secure d w g s.user p h)
  effect_good to_current h =
      (current_well_formed d w s.a s.b h.present h.roles_in h.off, current_secure d g s.a s.b h.authorised)
  effect_good to_clearance h = (clearance_well_formed d w s.a s.b h.present h.level_in, h.secure)
  effect_good to_authorised h = (authorised_well_formed d w s.a s.b h.present h.roles_in, authorised_secure d g s.a s.b h.within)
  effect_good to_maximum h = (maximum_well_formed d w s.first s.a h.screen h.level_in, maximum_secure d g s.first s.a h.low)
  effect_good to_device_level h = (level_well_formed d w s.first s.a (omega (arith, h.screen)) h.level_in, h.secure)
  effect_good to_release h =
      (release_well_formed d w s.user s.first h.box (w.user_numbers s.user p), release_secure d g s.user s.first)
  effect_good to_acknowledge h = (acknowledge_well_formed d w s.user p, acknowledge_secure d g s.user)

-- The theorem: for any request at all.
pub request_good : (d : Tables) → Good d → (q : Request) → Good (after d q)
unfolding asked
request_good d g q = after_each d q Good settled (λ l h. g) noticed
  where
    settled : answer d q ≡ refusal.accepted → Good (effect d q)
    settled e =
        let a = accepted d q e g.0 in
        rw (effect_by d q a.0 (names_found q a.0 a.1.meant.named))
        (effect_good d g.0 g.1 (asked d q) a.1.meant.known.there a.0 a.1.allowed)

    noticed : first_noticed ≤ answer d q → Good (notice q.user (answer d q) (noticed_op q) d)
    noticed l =
        let k = requester_known d q ((answer_is d q).below refusal.unknown_requester (omega arith)) in (
          notice_well_formed d g.0 g.1 q.user (answer d q) (noticed_op q) k.there (l, answer_range d q) (noticed_op_range q),
          notice_secure d g.0 g.1 q.user (answer d q) (noticed_op q) k.there (l, answer_range d q) (noticed_op_range q),
        )
