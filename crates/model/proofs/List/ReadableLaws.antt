-- The list's test is its reading in the words of the rules, and a complete list has exactly what is readable (rule 10.3).
use Rattle.std.specs.Prelude.{Bool, false, true, ◌≢◌, ◌≤◌, ℕ, T, eqb, length}
use mathlib.Core.List.{List, Memᴰ}
use Rattle.std.proofs.Common.{subst, sym, arith}
use Rattle.model.specs.Basics.Agree.{Agrees, agrees_T, agrees_and, agrees_as, agrees_eq, agrees_not}
use Rattle.model.specs.Basics.Choice.{Same, it, other, same}
use Rattle.model.specs.Basics.TestLaws.{holds_true, is_true}
use Rattle.model.specs.Level.{AtMost, at_most}
use Rattle.model.specs.List.Admitted.{Admitted}
use Rattle.model.proofs.List.AdmittedLaws.{admitted_barred, barred_admitted}
use Rattle.model.specs.List.Complete.{Complete}
use Rattle.model.specs.List.Further.{asks}
use Rattle.model.specs.List.Listing.{barred, opens}
use Rattle.model.specs.List.Readable.{Readable}
use Rattle.model.proofs.List.ShowLaws.{barred_opens, opens_asks}
use Rattle.model.specs.Request.Allowed.{Open, Permitted}
use Rattle.model.proofs.Request.ConditionLaws.{thing_agrees}
use Rattle.model.specs.Request.Conditions.{level_of}
use Rattle.model.specs.Request.Ladder.{bars}
use Rattle.model.specs.Request.Operations.{number_of, to_show}
use Rattle.model.specs.Request.Reference.{basis, resolve}
use Rattle.model.proofs.Request.ReferenceLaws.{leads_present, leads_resolve, resolve_leads}
use Rattle.model.proofs.Request.TestLaws.{open_agrees, permits_agrees}
use Rattle.model.specs.Request.Words.{name_count}
use Rattle.model.specs.State.WellFormed.{Thing}
use Rattle.model.specs.Tables.Layout.{tables_of}
use Rattle.model.specs.Tables.Words.{Tables, clearance, devices}
use Rattle.model.specs.Request.Refusals as refusal

-- what the ladder asks of the entity e, at the end of the way w
abbrev Asks : Tables → ℕ → ℕ → List ℕ → Type 0
Asks d u e w = (e ≢ 0) × (Permitted d u (number_of to_show) 1 e × (Open d u w × (Thing d e
    × (AtMost (level_of d e) (d.user u clearance) × AtMost (level_of d e) (level_of d (devices d u))))))

asks_agrees : (d : Tables) (u e : ℕ) (w : List ℕ) → Agrees (asks d u e (bars d (d.user u clearance) w)) (Asks d u e w)
asks_agrees d u e w = agrees_and (agrees_not (agrees_eq e 0)) (agrees_and (permits_agrees d u (number_of to_show) 1 e)
    (agrees_and (open_agrees d u w) (agrees_and (thing_agrees d e) (agrees_and (agrees_T (at_most (level_of d e) (d.user u clearance)))
    (agrees_T (at_most (level_of d e) (level_of d (devices d u))))))))

module _ (t : List ℕ) (u : ℕ) (r : List ℕ) where
  -- Of the entity that is read, and of the way that is read to it, this is readable,
  asks_readable : Admitted t u → Asks (tables_of t) u (resolve (tables_of t) r) (basis (tables_of t) r) → Readable t u r
  asks_readable a h = record {
    admitted = a;
    x = resolve (tables_of t) r;
    way = basis (tables_of t) r;
    leads = resolve_leads (tables_of t) r h.0;
    permitted = h.1.0;
    clear = h.1.1.0;
    thing = h.1.1.1.0;
    cleared = h.1.1.1.1.0;
    screen = h.1.1.1.1.1;
  }

  -- and there is no other entity and no other way.
  readable_asks : Readable t u r → Asks (tables_of t) u (resolve (tables_of t) r) (basis (tables_of t) r)
  readable_asks h =
      let p = leads_present h.admitted.good.0 h.leads in
      let e = leads_resolve h.leads in
      subst (λ (x : ℕ). Asks (tables_of t) u x (basis (tables_of t) r)) (sym e.0) (subst (Asks (tables_of t) u h.x) (sym e.1)
      (λ z. omega (arith, p.low), (h.permitted, (h.clear, (h.thing, (h.cleared, h.screen))))))

  -- Rule 10.3: the step answers 0 or 14 exactly if the reference is readable.
  pub opens_readable : 1 ≤ length r → length r ≤ name_count → Agrees (opens t u r) (Readable t u r)
  opens_readable low high = go (eqb (barred t u) refusal.accepted) (same (barred t u) refusal.accepted)
    where
      go : (b : Bool) → Same (barred t u) refusal.accepted b → Agrees (opens t u r) (Readable t u r)
      go true (it e) = subst (λ (b : Bool). Agrees b (Readable t u r)) (sym (opens_asks t u r low high e))
          (agrees_as (asks_readable (barred_admitted t u e)) readable_asks (asks_agrees (tables_of t) u (resolve (tables_of t) r) (basis (tables_of t) r)))
      go false (other n) = record {
        to = λ h. absurd (subst T (barred_opens t u r low high n) h);
        from = λ h. absurd (n (admitted_barred t u h.admitted));
      }

-- So the list has what is readable, and nothing else.
pub complete_readable : (t : List ℕ) (u : ℕ) (l : List (List ℕ)) → Complete (opens t u) l → (r : List ℕ) → 1 ≤ length r → length r ≤ name_count
    → (Readable t u r → Memᴰ r l) × (Memᴰ r l → Readable t u r)
complete_readable t u l c r low high =
    let a = opens_readable t u r low high in
    (λ h. c.every r low high (holds_true (opens t u r) (a.from h)), λ m. a.to (is_true (opens t u r) (c.only r m).2))
