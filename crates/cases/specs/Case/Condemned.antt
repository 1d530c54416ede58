-- Wrong steps of case state S1, and that the predicates of rule 9 reject them: what a notice does not excuse, and rules 9.9 and 9.11.
-- A definition that were weaker would let one of them pass.
use Rattle.std.specs.Prelude.{not, [], ◌∷◌, ◌≢◌, refl, ℕ, T, eqb}
use Rattle.std.proofs.Common.{inl, inr, T_not}
use Rattle.model.specs.Basics.Agree.{agrees_eq}
use Rattle.cases.specs.Case.Cases.{ask, at, highest}
use Rattle.cases.specs.Case.Opened.{opened}
use Rattle.cases.specs.Case.S1.{s1, s1_sheet}
use Rattle.model.specs.Request.Operations.{number_of, to_edit, to_release}
use Rattle.model.specs.Tables.Edits.{◌and◌, on_entity, on_user, user_word, word}
use Rattle.model.specs.Tables.Words.{Tables, absent_kind, authorised, clearance, current, device, draft_type, held, maximum}
use Rattle.model.specs.Tables.Words.{released_type, releaser, spare, type}
use Rattle.model.specs.Theorem.Definitions.{Quiet, ReleaseSecure, SetSecure}

-- two numbers that the test tells apart
pub differ : (m n : ℕ) → T (not (eqb m n)) → m ≢ n
differ m n t e = T_not (eqb m n) t ((agrees_eq m n).from e)

-- an entity of the kind k before and after is present in both
pub kept : (k : ℕ) → T (not (eqb k 0)) → (k ≢ absent_kind) × (k ≢ absent_kind)
kept k t = (differ k 0 t, differ k 0 t)

-- Rule 9.5: the desk moved user 2 to device 3 and called it the notice.
pub device_condemned : Quiet s1 2 (on_user 2 (user_word device 3) s1) → ⊥
unfolding opened s1 s1_sheet
device_condemned h = differ 3 2 tt (h.users 2 device (λ e t. t))

-- Rule 9.5: the desk wrote a spare word of user 2 and called it the notice.
pub spare_condemned : Quiet s1 2 (on_user 2 (user_word (spare 0) 1) s1) → ⊥
unfolding opened s1 s1_sheet
spare_condemned h = differ 1 0 tt (h.users 2 (spare 0) (λ e t. t))

-- Rule 9.5: at a request of user 2 the desk left a notice to user 1.
pub other_notice_condemned : Quiet s1 2 (on_user 1 (user_word held 9) s1) → ⊥
unfolding opened s1 s1_sheet
other_notice_condemned h = differ 9 0 tt (h.users 1 held (λ e t. differ 1 2 tt e))

-- Rule 9.9: the desk set user 3's clearance for user 2, who has no role.
pub clearance_condemned : SetSecure s1 (ask 2 15 [] [] 3 0 0) (on_user 3 (user_word clearance 0) s1) → ⊥
unfolding opened s1 s1_sheet
clearance_condemned h = h.clearance 3 (differ 0 (at 2 1) tt)

-- Rule 9.9: the desk raised user 2's own clearance for user 2.
pub own_clearance_condemned : SetSecure s1 (ask 2 15 [] [] 2 highest 0) (on_user 2 (user_word clearance highest) s1) → ⊥
unfolding opened s1 s1_sheet
own_clearance_condemned h = h.clearance 2 (differ highest (at 1 0) tt)

-- Rule 9.9: the desk set the maximum of device 3 for user 2.
pub maximum_condemned : SetSecure s1 (ask 2 17 (3 ∷ []) [] 0 0 0) (on_entity 3 (word maximum 0) s1) → ⊥
unfolding opened s1 s1_sheet
maximum_condemned h = h.maximum 3 (kept 3 tt) (differ 0 highest tt)

-- Rule 9.9: the desk set user 3's authorised roles for user 2.
pub authorised_condemned : SetSecure s1 (ask 2 16 [] [] 3 7 0) (on_user 3 (user_word authorised 7) s1) → ⊥
unfolding opened s1 s1_sheet
authorised_condemned h = h.authorised 3 (differ 7 6 tt)

-- Rule 9.9: the desk set user 1's current roles for user 2, who is neither user 1 nor an officer.
pub current_condemned : SetSecure s1 (ask 2 14 [] [] 1 0 0) (on_user 1 (user_word current 0) s1) → ⊥
unfolding opened s1 s1_sheet
current_condemned h = elim (h.current 1 (differ 0 1 tt)) [ inl e ↦ differ 1 2 tt e | inr r ↦ r ]

-- S1 with the current roles r of user 1, who is authorised to have all three
abbrev pub s1_with : ℕ → Tables
s1_with r = on_user 1 (user_word current r) s1

-- Rule 9.9: the desk set each of the four for user 1, who has the other two roles now and not the officer's: a clearance,
pub other_roles_clearance_condemned : SetSecure (s1_with 6) (ask 1 15 [] [] 3 0 0) (on_user 3 (user_word clearance 0) (s1_with 6)) → ⊥
unfolding opened s1 s1_sheet
other_roles_clearance_condemned h = h.clearance 3 (differ 0 (at 2 1) tt)

-- a maximum,
pub other_roles_maximum_condemned : SetSecure (s1_with 6) (ask 1 17 (3 ∷ []) [] 0 0 0) (on_entity 3 (word maximum 0) (s1_with 6)) → ⊥
unfolding opened s1 s1_sheet
other_roles_maximum_condemned h = h.maximum 3 (kept 3 tt) (differ 0 highest tt)

-- authorised roles,
pub other_roles_authorised_condemned : SetSecure (s1_with 6) (ask 1 16 [] [] 3 7 0) (on_user 3 (user_word authorised 7) (s1_with 6)) → ⊥
unfolding opened s1 s1_sheet
other_roles_authorised_condemned h = h.authorised 3 (differ 7 6 tt)

-- another user's current roles.
pub other_roles_current_condemned : SetSecure (s1_with 6) (ask 1 14 [] [] 3 2 0) (on_user 3 (user_word current 2) (s1_with 6)) → ⊥
unfolding opened s1 s1_sheet
other_roles_current_condemned h = elim (h.current 3 (differ 2 0 tt)) [ inl e ↦ differ 3 1 tt e | inr r ↦ r ]

-- entity e is a released message of user u
abbrev released_by : ℕ → ℕ → Tables → Tables
released_by u e = on_entity e (word type released_type and word releaser u)

-- S1 with user 1 a releaser now, and a second draft
abbrev s1_two_drafts : Tables
s1_two_drafts = on_entity 7 (word type draft_type) (s1_with 5)

-- Rule 9.11: draft 6 became released when user 2 asked for an edit of it.
pub release_by_edit_condemned : ReleaseSecure s1 (ask 2 4 (6 ∷ []) [] 0 0 0) (released_by 2 6 s1) → ⊥
unfolding opened s1 s1_sheet
release_by_edit_condemned h =
    differ (number_of to_edit) (number_of to_release) tt (h.becomes 6 (kept 2 tt) (differ 1 2 tt) refl).asks.named

-- Rule 9.11: the desk released draft 6 for user 1, who has the other two roles now and not the releaser's.
pub other_roles_release_condemned : ReleaseSecure (s1_with 3) (ask 1 19 (6 ∷ []) [] 0 0 0) (released_by 1 6 (s1_with 3)) → ⊥
unfolding opened s1 s1_sheet
other_roles_release_condemned h = (h.becomes 6 (kept 2 tt) (differ 1 2 tt) refl).role

-- Rule 9.11: user 1 released draft 6, and the desk wrote user 2 down as its releaser.
pub other_releaser_condemned : ReleaseSecure (s1_with 5) (ask 1 19 (6 ∷ []) [] 0 0 0) (released_by 2 6 (s1_with 5)) → ⊥
unfolding opened s1 s1_sheet
other_releaser_condemned h = differ 2 1 tt (h.becomes 6 (kept 2 tt) (differ 1 2 tt) refl).releaser

-- Rule 9.11: user 1 released draft 6, and the desk released draft 7.
pub other_release_condemned : ReleaseSecure s1_two_drafts (ask 1 19 (6 ∷ []) [] 0 0 0) (released_by 1 7 s1_two_drafts) → ⊥
unfolding opened s1 s1_sheet
other_release_condemned h = differ 6 7 tt (h.becomes 7 (kept 2 tt) (differ 1 2 tt) refl).operand

-- Rule 9.11: user 1 released container 7, which is no draft.
pub no_draft_condemned : ReleaseSecure (s1_with 5) (ask 1 19 (7 ∷ []) [] 0 0 0) (released_by 1 7 (s1_with 5)) → ⊥
unfolding opened s1 s1_sheet
no_draft_condemned h = differ 0 1 tt (h.becomes 7 (kept 2 tt) (differ 0 2 tt) refl).draft

-- S1 with 6 a released message of user 1
abbrev s1_released : Tables
s1_released = released_by 1 6 s1

-- Rule 9.11: the desk wrote user 2 down as the releaser of message 6, which user 1 had released.
pub releaser_condemned : ReleaseSecure s1_released (ask 2 4 (6 ∷ []) [] 0 0 0) (on_entity 6 (word releaser 2) s1_released) → ⊥
unfolding opened s1 s1_sheet
releaser_condemned h = differ 2 1 tt (h.stays 6 (kept 2 tt) refl).1

-- Rule 9.11: the desk made the released message 6 a draft again.
pub draft_again_condemned : ReleaseSecure s1_released (ask 2 4 (6 ∷ []) [] 0 0 0) (on_entity 6 (word type draft_type) s1_released) → ⊥
unfolding opened s1 s1_sheet
draft_again_condemned h = differ 1 2 tt (h.stays 6 (kept 2 tt) refl).0
