-- Wrong steps of case state S1, and that the predicates of rules 9.5 to 9.8 reject them: access, copy, references through marked
-- containers, translation. A definition that were weaker would let one of them pass.
use Rattle.std.specs.Prelude.{not, List, [], ◌∷◌, ◌≢◌, ◌≡◌, refl, ◌<◌, suc, ℕ, T, eqb}
use mathlib.Core.List.Memᴰ
use Rattle.std.proofs.Common.{inl, inr, subst, arith, T_not, lit<, lit≤}
use Rattle.std.proofs.Math.Option.{some}
use Rattle.cases.specs.Case.Cases.{ask}
use Rattle.cases.specs.Case.Condemned.{differ, kept}
use Rattle.cases.specs.Case.Opened.{opened}
use Rattle.cases.specs.Case.S1.{s1, s1_sheet}
use Rattle.model.specs.Level.{bit}
use Rattle.model.specs.Request.Allowed.{Meant, Open, Operand, Permitted}
use Rattle.model.specs.Request.Form.{taken}
use Rattle.model.specs.Request.Asked.{asked, basis_of, operand}
use Rattle.model.proofs.Request.FitLaws.{fits_agrees}
use Rattle.model.specs.Request.Ladder.{fits, permits}
use Rattle.model.proofs.Request.OperationLaws.{names_found, number_range}
use Rattle.model.specs.Request.Operations.{Op, number_of, op_of, to_clear, to_copy, to_edit, to_login, to_show}
use Rattle.model.proofs.Request.TestLaws.{permits_agrees}
use Rattle.model.specs.Request.Words.{Request}
use Rattle.model.specs.Tables.Edits.{◌and◌, on_entity, on_user, user_word, word}
use Rattle.model.specs.Tables.Words.{EntityWord, Tables, device, id_bit, operation_count, place, shown, sums, used, used_places, value}
use Rattle.model.specs.Theorem.Definitions.{AccessSecure, CcrSecure, CopySecure, Flows, NamedOpenly, Quiet, ShowsId, TranslationSecure}

-- A changed word of an entity is more than the notice.
loud : {d d' : Tables} {u : ℕ} (x : ℕ) (f : EntityWord) → Quiet d u d' → T (not (eqb (d'.entity x f) (d.entity x f))) → ⊥
loud {d} {d'} x f h t = differ (d'.entity x f) (d.entity x f) t (h.entities x f)

-- The operation of a request is the one that its number says.
only : {o p : Op} {d : Tables} {q : Request} → op_of q.operation ≡ some p → Meant o d q → o ≡ p
only {o} {p} {d} {q} e m = let f = names_found q o m.named in cc

-- No triple permits what the test denies.
denied : (d : Tables) (u o k e : ℕ) → T (not (permits d u o k e)) → Permitted d u o k e → ⊥
denied d u o k e t g = T_not (permits d u o k e) t ((permits_agrees d u o k e).from g)

-- Where more than the notice has changed by a request for p, each of the three predicates asks its own of p.
module _ {d d' : Tables} {q : Request} (p : Op) (e : op_of q.operation ≡ some p) (changed : Quiet d q.user d' → ⊥) where
  access_rejects : (k : ℕ) → Operand p k → (Permitted d q.user (number_of p) k (operand (asked d q) k) → ⊥) → AccessSecure d q d' → ⊥
  access_rejects k i f (inl z) = changed z
  access_rejects k i f (inr z) =
      f (subst (λ (o : Op). (j : ℕ) → Operand o j → Permitted d q.user (number_of o) j (operand (asked d q) j)) (only e z.1) z.2 k i)

  copy_rejects : (Flows p (asked d q) d d' → ⊥) → CopySecure d q d' → ⊥
  copy_rejects f (inl z) = changed z
  copy_rejects f (inr z) = f (subst (λ (o : Op). Flows o (asked d q) d d') (only e z.1) z.2)

  ccr_rejects : (k : ℕ) → Operand p k → (Open d q.user (basis_of (asked d q) k) → ⊥) → CcrSecure d q d' → ⊥
  ccr_rejects k i f (inl z) = changed z
  ccr_rejects k i f (inr z) = f (subst (λ (o : Op). (j : ℕ) → Operand o j → Open d q.user (basis_of (asked d q) j)) (only e z.1) z.2 k i)

-- Rule 9.5: the desk edited 7 for user 2, whom no triple of 7 allows that.
pub access_condemned : AccessSecure s1 (ask 2 4 (7 ∷ []) [] 41 0 0) (on_entity 7 (word value 41) s1) → ⊥
unfolding opened s1 s1_sheet
access_condemned = access_rejects to_edit refl (λ h. loud 7 value h tt) 1 (lit≤ tt, lit≤ tt) (denied s1 2 4 1 7 tt)

-- Rule 9.5: the desk copied 5 to 5 for user 2, whom the triples of 5 allow that at the first position only.
pub second_access_condemned : AccessSecure s1 (ask 2 5 (5 ∷ []) (5 ∷ []) 0 0 0) (on_entity 5 (word value 41) s1) → ⊥
unfolding opened s1 s1_sheet
second_access_condemned = access_rejects to_copy refl (λ h. loud 5 value h tt) 2 (lit≤ tt, lit≤ tt) (denied s1 2 5 2 5 tt)

-- Rule 9.6: the desk copied 6, of rank 2, to 7, of rank 1, for user 2.
pub copy_condemned : CopySecure s1 (ask 2 5 (6 ∷ []) (7 ∷ []) 0 0 0) (on_entity 7 (word value 41) s1) → ⊥
unfolding opened s1 s1_sheet
copy_condemned = copy_rejects to_copy refl (λ h. loud 7 value h tt) (λ f. f.copied refl (kept 2 tt) (kept 2 tt))

-- entity x alone on device v, with the sum n
abbrev screening : ℕ → ℕ → ℕ → Tables → Tables
screening v x n = on_entity v (word used 1 and word (place 0) x and word (shown 0) n)

-- Rule 9.6: the desk showed 6 on device 2, which is of the same rank and lacks its compartment, to user 2.
pub show_condemned : CopySecure s1 (ask 2 10 (6 ∷ []) [] 3 0 0) (screening 2 6 3 s1) → ⊥
unfolding opened s1 s1_sheet
show_condemned = copy_rejects to_show refl (λ h. loud 2 used h tt) (λ f. f.shown refl (kept 2 tt) (kept 3 tt))

-- Rule 9.6: the desk showed 5 on device 3 to user 3, who is on no device.
pub show_off_condemned : CopySecure s1 (ask 3 10 (5 ∷ []) [] 3 0 0) (screening 3 5 3 s1) → ⊥
unfolding opened s1 s1_sheet
show_off_condemned = copy_rejects to_show refl (λ h. loud 3 used h tt) (λ f. f.screen refl refl)

-- Container 4 is marked and above user 2.
barred : {w : List ℕ} → Open s1 2 (4 ∷ w) → ⊥
unfolding opened s1 s1_sheet
barred h = h 4 (Memᴰ.head refl) (differ 1 0 tt)

-- Rule 9.7: the desk edited 5 for user 2, who named it 4.1, through the marked container 4, of rank 2, with a clearance of rank 1.
pub ccr_condemned : CcrSecure s1 (ask 2 4 (4 ∷ 1 ∷ []) [] 41 0 0) (on_entity 5 (word value 41) s1) → ⊥
unfolding opened s1 s1_sheet
ccr_condemned = ccr_rejects {d = s1} {q = ask 2 4 (4 ∷ 1 ∷ []) [] 41 0 0} to_edit refl (λ h. loud 5 value h tt) 1 (lit≤ tt, lit≤ tt) barred

-- Rule 9.7: the desk copied 7 to 5 for user 2, who named the second one 4.1.
pub second_ccr_condemned : CcrSecure s1 (ask 2 5 (7 ∷ []) (4 ∷ 1 ∷ []) 0 0 0) (on_entity 5 (word value 0) s1) → ⊥
unfolding opened s1 s1_sheet
second_ccr_condemned = ccr_rejects {d = s1} {q = ask 2 5 (7 ∷ []) (4 ∷ 1 ∷ []) 0 0 0} to_copy refl (λ h. loud 5 value h tt) 2 (lit≤ tt, lit≤ tt) barred

-- S1 with the marked container 4 in container 7
abbrev s1_nested : Tables
s1_nested = on_entity 7 (word used 1 and word (place 0) 4) s1

-- Rule 9.7: the desk edited 5 for user 2, who named it 7.1.1: the marked container is the second on the way.
pub deep_ccr_condemned : CcrSecure s1_nested (ask 2 4 (7 ∷ 1 ∷ 1 ∷ []) [] 41 0 0) (on_entity 5 (word value 41) s1_nested) → ⊥
unfolding opened s1 s1_sheet
deep_ccr_condemned = ccr_rejects to_edit refl (λ h. loud 5 value h tt) 1 (lit≤ tt, lit≤ tt)
    (λ h. h 4 (Memᴰ.tail (Memᴰ.head refl)) (differ 1 0 tt))

-- User 9 is not there, so no request of that user's means anything.
nobody_means : (o : Op) → Meant o s1 (ask 9 4 (7 ∷ []) [] 41 0 0) → ⊥
unfolding opened s1 s1_sheet
nobody_means o m = m.known.there refl

-- Rules 9.5 to 9.7: the desk edited 7 for user 9, by each of the three.
pub nobody_access_condemned : AccessSecure s1 (ask 9 4 (7 ∷ []) [] 41 0 0) (on_entity 7 (word value 41) s1) → ⊥
unfolding opened s1 s1_sheet
nobody_access_condemned (inl h) = loud 7 value h tt
nobody_access_condemned (inr z) = nobody_means z.0 z.1

pub nobody_copy_condemned : CopySecure s1 (ask 9 4 (7 ∷ []) [] 41 0 0) (on_entity 7 (word value 41) s1) → ⊥
unfolding opened s1 s1_sheet
nobody_copy_condemned (inl h) = loud 7 value h tt
nobody_copy_condemned (inr z) = nobody_means z.0 z.1

pub nobody_ccr_condemned : CcrSecure s1 (ask 9 4 (7 ∷ []) [] 41 0 0) (on_entity 7 (word value 41) s1) → ⊥
unfolding opened s1 s1_sheet
nobody_ccr_condemned (inl h) = loud 7 value h tt
nobody_ccr_condemned (inr z) = nobody_means z.0 z.1

-- An operation over the last means nothing;
pub no_operation_condemned : (o : Op) → Meant o s1 (ask 2 (suc operation_count) [] [] 0 0 0) → ⊥
unfolding opened s1 s1_sheet
no_operation_condemned o m = omega (arith, m.named, (number_range o).1)

-- nor does an edit with a second reference;
pub unfitting_condemned : (o : Op) → Meant o s1 (ask 2 4 (7 ∷ []) (7 ∷ []) 41 0 0) → ⊥
unfolding opened s1 s1_sheet
unfitting_condemned o m =
    let q : Request = ask 2 4 (7 ∷ []) (7 ∷ []) 41 0 0 in
    subst (λ (p : Op). T (fits p q)) (only refl m) ((fits_agrees o q).from m.fitting)

-- nor an edit of 8, which is not there.
pub nowhere_condemned : (o : Op) → Meant o s1 (ask 2 4 (8 ∷ []) [] 41 0 0) → ⊥
unfolding opened s1 s1_sheet
nowhere_condemned o m =
    let q : Request = ask 2 4 (8 ∷ []) [] 41 0 0 in
    subst (λ (p : Op). (k : ℕ) → Operand p k → operand (asked s1 q) k ≢ 0) (only refl m) m.leading 1 (lit≤ tt, lit≤ tt) refl

-- Nothing is named by a request without operands; by one with one operand, that is named.
named_none : {d : Tables} {q : Request} {x : ℕ} (p : Op) → op_of q.operation ≡ some p → taken p ≡ 0 → NamedOpenly d q x → ⊥
named_none p e a z =
    let i : Operand p z.2.0 = subst (λ (o : Op). Operand o z.2.0) (only e z.1) z.2.1 in
    omega (arith, i.0, i.1)

named_one : {d : Tables} {q : Request} {x : ℕ} (p : Op) → op_of q.operation ≡ some p → taken p ≡ 1 → NamedOpenly d q x
    → ((asked d q).first ≡ x) × Open d q.user (asked d q).first_basis
named_one {d} {q} {x} p e a z =
    let i : Operand p z.2.0 = subst (λ (o : Op). Operand o z.2.0) (only e z.1) z.2.1 in
    let k : z.2.0 ≡ 1 = omega (arith, i.0, i.1) in
    subst (λ (j : ℕ). (operand (asked d q) j ≡ x) × Open d q.user (basis_of (asked d q) j)) k (z.2.2, z.2.3)

-- An empty device shows nothing.
dark : (d : Tables) (v : ℕ) {x : ℕ} → used_places d v ≡ 0 → ShowsId d v x → ⊥
dark d v e z = omega (arith, e, z.1.1)

-- The sum 4 shows the ID,
pub sum4_shows : ShowsId (screening 2 5 4 s1) 2 5
unfolding opened s1 s1_sheet
sum4_shows = (refl, (0, lit< tt, refl, tt))

-- the sum 3, value and label, does not,
pub sum3_hides : ShowsId (screening 2 5 3 s1) 2 5 → ⊥
unfolding opened s1 s1_sheet
sum3_hides z =
    let l : z.1.0 < 1 = z.1.1 in
    let e : z.1.0 ≡ 0 = omega arith in
    subst (λ (i : ℕ). T (bit id_bit (sums (screening 2 5 3 s1) 2 i))) e z.1.3

-- nor does a container.
pub container_hides : ShowsId (screening 7 5 4 s1) 7 5 → ⊥
unfolding opened s1 s1_sheet
container_hides z = differ 2 3 tt z.0

-- Rule 9.8: the desk showed the ID of 5 to user 2, who asked to clear the device,
pub clear_translation_condemned : TranslationSecure s1 (ask 2 11 [] [] 0 0 0) (screening 2 5 4 s1) → ⊥
unfolding opened s1 s1_sheet
clear_translation_condemned h = elim (h 5 (kept 1 tt) sum4_shows) [ inl z ↦ dark s1 2 refl z | inr z ↦ named_none to_clear refl refl z ]

-- who asked to be shown 7,
pub other_translation_condemned : TranslationSecure s1 (ask 2 10 (7 ∷ []) [] 4 0 0) (screening 2 5 4 s1) → ⊥
unfolding opened s1 s1_sheet
other_translation_condemned h =
    elim (h 5 (kept 1 tt) sum4_shows) [ inl z ↦ dark s1 2 refl z | inr z ↦ differ 7 5 tt (named_one to_show refl refl z).0 ]

-- who named it 4.1, through the marked container 4.
pub marked_translation_condemned : TranslationSecure s1 (ask 2 10 (4 ∷ 1 ∷ []) [] 4 0 0) (screening 2 5 4 s1) → ⊥
unfolding opened s1 s1_sheet
marked_translation_condemned h =
    elim (h 5 (kept 1 tt) sum4_shows) [ inl z ↦ dark s1 2 refl z | inr z ↦ barred (named_one to_show refl refl z).1 ]

-- Rule 9.8: the desk put user 3 on device 3, and the ID of 5 with it.
pub login_translation_condemned : TranslationSecure s1 (ask 3 12 (3 ∷ []) [] 0 0 0) (on_user 3 (user_word device 3) (screening 3 5 4 s1)) → ⊥
unfolding opened s1 s1_sheet
login_translation_condemned h =
    elim (h 5 (kept 1 tt) (refl, (0, lit< tt, refl, tt))) [ inl z ↦ dark s1 0 refl z | inr z ↦ differ 3 5 tt (named_one to_login refl refl z).0 ]

-- Rule 9.8: the desk showed user 2, who asked to clear the device, the ID of 5 that stood on device 1.
pub other_screen_translation_condemned : TranslationSecure (screening 1 5 4 s1) (ask 2 11 [] [] 0 0 0) (screening 2 5 4 (screening 1 5 4 s1)) → ⊥
unfolding opened s1 s1_sheet
other_screen_translation_condemned h =
    elim (h 5 (kept 1 tt) (refl, (0, lit< tt, refl, tt))) [ inl z ↦ dark (screening 1 5 4 s1) 2 refl z | inr z ↦ named_none to_clear refl refl z ]

-- Rule 9.8: the desk put user 3 on device 2, where the ID of 5 stood for user 2, who was put off it.
pub taken_screen_condemned : TranslationSecure (screening 2 5 4 s1) (ask 3 12 (2 ∷ []) [] 0 0 0)
    (on_user 2 (user_word device 0) (on_user 3 (user_word device 2) (screening 2 5 4 s1))) → ⊥
unfolding opened s1 s1_sheet
taken_screen_condemned h =
    elim (h 5 (kept 1 tt) (refl, (0, lit< tt, refl, tt)))
    [ inl z ↦ dark (screening 2 5 4 s1) 0 refl z | inr z ↦ differ 2 5 tt (named_one to_login refl refl z).0 ]
