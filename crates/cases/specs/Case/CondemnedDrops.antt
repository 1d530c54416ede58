-- Document 02, M-101; rule 9.10: wrong steps of case state S1 by which a level drops. Strictly lower ones the paper's Definition 10 rejects, and so does ours
-- (Theorem/DefinitionLaws: `downgrade_stricter`); those sideways ours alone.
use Rattle.std.specs.Prelude.{[], ◌∷◌, refl, ℕ}
use Rattle.std.proofs.Common.{subst}
use Rattle.cases.specs.Case.Cases.{ask, at, highest}
use Rattle.cases.specs.Case.Condemned.{differ, kept, s1_with}
use Rattle.cases.specs.Case.Opened.{opened}
use Rattle.cases.specs.Case.S1.{s1, s1_sheet}
use Rattle.model.specs.Level.{Lower}
use Rattle.model.specs.Request.Conditions.{level_of}
use Rattle.model.specs.Tables.EditLaws.{case}
use Rattle.model.specs.Tables.Edits.{on_entity, on_user, user_word, word}
use Rattle.model.specs.Tables.Words.{device, level}
use Rattle.model.specs.Theorem.Definitions.{DowngradeSecure, PaperDowngradeSecure}

-- ---- strictly lower: the paper condemns these, and so ours does

-- The desk lowered container 7 from rank 1 to rank 0 for user 2.
pub container_downgrade_condemned : PaperDowngradeSecure s1 (ask 2 6 (7 ∷ []) [] 0 0 0) (on_entity 7 (word level 0) s1) → ⊥
unfolding opened s1 s1_sheet
container_downgrade_condemned h = h 7 (kept 2 tt) (differ 7 2 tt) (tt, differ 0 (at 1 0) tt)

-- The desk lowered object 5 from rank 1 to rank 0 for user 2.
pub object_downgrade_condemned : PaperDowngradeSecure s1 (ask 2 6 (5 ∷ []) [] 0 0 0) (on_entity 5 (word level 0) s1) → ⊥
unfolding opened s1 s1_sheet
object_downgrade_condemned h = h 5 (kept 1 tt) (differ 5 2 tt) (tt, differ 0 (at 1 0) tt)

-- The desk lowered device 1 from the highest level to the lowest for user 2, who is on device 2.
pub device_downgrade_condemned : PaperDowngradeSecure s1 (ask 2 18 (1 ∷ []) [] 0 0 0) (on_entity 1 (word level 0) s1) → ⊥
unfolding opened s1 s1_sheet
device_downgrade_condemned h = h 1 (kept 3 tt) (differ 1 2 tt) (tt, differ 0 highest tt)

-- The desk took the compartment off container 4, which keeps its rank, for user 2.
pub compartment_downgrade_condemned : PaperDowngradeSecure s1 (ask 2 6 (4 ∷ []) [] (at 2 0) 0 0) (on_entity 4 (word level (at 2 0)) s1) → ⊥
unfolding opened s1 s1_sheet
compartment_downgrade_condemned h = h 4 (kept 2 tt) (differ 4 2 tt) (tt, differ (at 2 0) (at 2 1) tt)

-- The desk lowered container 7 for user 1, who has the other two roles now and not the downgrader's.
pub other_roles_downgrade_condemned : PaperDowngradeSecure (s1_with 5) (ask 1 6 (7 ∷ []) [] 0 0 0) (on_entity 7 (word level 0) (s1_with 5)) → ⊥
unfolding opened s1 s1_sheet
other_roles_downgrade_condemned h = h 7 (kept 2 tt) (differ 7 1 tt) (tt, differ 0 (at 1 0) tt)

-- The desk lowered container 7 for user 1 and made the requester a downgrader in the same step: it is the role before that counts.
pub role_after_condemned : PaperDowngradeSecure s1 (ask 1 6 (7 ∷ []) [] 0 0 0) (on_entity 7 (word level 0) (s1_with 2)) → ⊥
unfolding opened s1 s1_sheet
role_after_condemned h = h 7 (kept 2 tt) (differ 7 1 tt) (tt, differ 0 (at 1 0) tt)

-- The desk lowered device 3, here on rank 1, for user 3 and put the requester on it in the same step: it is the device before that counts.
pub device_after_condemned : PaperDowngradeSecure (on_entity 3 (word level (at 1 0)) s1) (ask 3 18 (3 ∷ []) [] 0 0 0)
    (on_user 3 (user_word device 3) (on_entity 3 (word level 0) s1)) → ⊥
unfolding opened s1 s1_sheet
device_after_condemned h = h 3 (kept 3 tt) (differ 3 0 tt) (tt, differ 0 (at 1 0) tt)

-- ---- sideways: ours alone condemns these

-- S1 with container 7 on rank 0 with a compartment, where it had rank 1: the starred step of user 1, who has the triple and is no downgrader.
pub sideways_condemned : DowngradeSecure s1 (ask 1 6 (7 ∷ []) [] (at 0 1) 0 0) (on_entity 7 (word level (at 0 1)) s1) → ⊥
unfolding opened s1 s1_sheet
sideways_condemned h = h 7 (kept 2 tt) (differ 7 1 tt) (λ t. t)

-- The paper lets it pass: 1 is not strictly lower than 256.
pub sideways_paper : PaperDowngradeSecure s1 (ask 1 6 (7 ∷ []) [] (at 0 1) 0 0) (on_entity 7 (word level (at 0 1)) s1)
unfolding opened s1 s1_sheet
sideways_paper x b o l = absurd (case (λ (y : ℕ). Lower y (level_of s1 x) → ⊥) x 7 (at 0 1) (level_of s1 x)
    (λ r z. beside (subst (λ (y : ℕ). Lower (at 0 1) (level_of s1 y)) r z)) (λ r z. z.1 refl) l)
  where
    beside : Lower (at 0 1) (level_of s1 7) → ⊥
    beside z = z.0

-- The desk took container 4, on rank 2, from one compartment to another for user 2.
pub compartments_sideways_condemned : DowngradeSecure s1 (ask 2 6 (4 ∷ []) [] (at 2 2) 0 0) (on_entity 4 (word level (at 2 2)) s1) → ⊥
unfolding opened s1 s1_sheet
compartments_sideways_condemned h = h 4 (kept 2 tt) (differ 4 2 tt) (λ t. t)

-- The desk raised container 4 in rank for user 2, and took its compartment off.
pub raised_sideways_condemned : DowngradeSecure s1 (ask 2 6 (4 ∷ []) [] (at 3 0) 0 0) (on_entity 4 (word level (at 3 0)) s1) → ⊥
unfolding opened s1 s1_sheet
raised_sideways_condemned h = h 4 (kept 2 tt) (differ 4 2 tt) (λ t. t)

-- The desk took device 2 sideways for user 1, who is on device 1.
pub device_sideways_condemned : DowngradeSecure s1 (ask 1 18 (2 ∷ []) [] (at 1 1) 0 0) (on_entity 2 (word level (at 1 1)) s1) → ⊥
unfolding opened s1 s1_sheet
device_sideways_condemned h = h 2 (kept 3 tt) (differ 2 1 tt) (λ t. t)
