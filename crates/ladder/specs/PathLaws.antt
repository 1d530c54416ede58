-- Rules 7.7 to 7.9: the three rungs that read references, and what their answer says of the whole ladder.
use Rattle.std.specs.Prelude.{Bool, ◌≡◌, ◌≤◌, suc, ℕ}
use Rattle.std.proofs.Math.Bool.{false, true}
use mathlib.Core.List.{List, [], ◌∷◌}
use Rattle.std.proofs.Common.{◌∙◌, subst, sym, arith}
use Rattle.std.proofs.Math.Path.{refl}
use Rattle.ladder.specs.ClimbLaws.{passed_hit, passed_more}
use Rattle.ladder.specs.Contract.{Passed}
use Rattle.ladder.specs.Path.{path_answer}
use Rattle.model.specs.Request.Ladder.{Rung, answer, applies, ladder, leads_nowhere, lowest, never, no_access, not_cleared, rung_at}
use Rattle.model.specs.Request.Refusals as refusal
use Rattle.model.specs.Request.Words.{Request}
use Rattle.model.specs.Tables.Words.{Tables, first_noticed}
use Rattle.names.specs.RefusalLaws.{refusal_some}
use Rattle.names.specs.Refusals.{number_of}
use Rattle.names.specs.declared.refusal.Refusal.{Refusal}

-- the first rung of a list applies, or is passed over
lowest_yes : (n : ℕ) (r : Rung) (rs : List Rung) (d : Tables) (q : Request) → r d q ≡ true → lowest n (r ∷ rs) d q ≡ n
unfolding lowest
lowest_yes n r rs d q e = subst (λ (b : Bool). elim b [ true ↦ n | false ↦ lowest (suc n) rs d q ] ≡ n) (sym e) refl

lowest_no : (n : ℕ) (r : Rung) (rs : List Rung) (d : Tables) (q : Request) → r d q ≡ false → lowest n (r ∷ rs) d q ≡ lowest (suc n) rs d q
unfolding lowest
lowest_no n r rs d q e = subst (λ (b : Bool). elim b [ true ↦ n | false ↦ lowest (suc n) rs d q ] ≡ lowest (suc n) rs d q) (sym e) refl

module _ (d : Tables) (q : Request) where
  pub path_nowhere : leads_nowhere d q ≡ true → path_answer d q ≡ refusal.no_such_name
  unfolding path_answer
  path_nowhere a = lowest_yes refusal.no_such_name leads_nowhere (no_access ∷ not_cleared ∷ []) d q a

  module _ (a : leads_nowhere d q ≡ false) where
    pub path_shut : no_access d q ≡ true → path_answer d q ≡ refusal.no_access
    unfolding path_answer
    path_shut b = lowest_no refusal.no_such_name leads_nowhere (no_access ∷ not_cleared ∷ []) d q a ∙ lowest_yes refusal.no_access no_access
        (not_cleared ∷ []) d q b

    module _ (b : no_access d q ≡ false) where
      pub path_barred : not_cleared d q ≡ true → path_answer d q ≡ refusal.marked
      unfolding path_answer
      path_barred c = lowest_no refusal.no_such_name leads_nowhere (no_access ∷ not_cleared ∷ []) d q a ∙ lowest_no refusal.no_access no_access
          (not_cleared ∷ []) d q b
          ∙ lowest_yes refusal.marked not_cleared [] d q c

      pub path_open : not_cleared d q ≡ false → path_answer d q ≡ 0
      unfolding path_answer lowest
      path_open c = lowest_no refusal.no_such_name leads_nowhere (no_access ∷ not_cleared ∷ []) d q a ∙ lowest_no refusal.no_access no_access
          (not_cleared ∷ []) d q b
          ∙ lowest_no refusal.marked not_cleared [] d q c

  -- what the answer of the three says of the whole ladder
  record Told (p : ℕ) : Type 0 where
    hit : 1 ≤ p → (p ≡ answer d q) × (first_noticed ≤ p)
    pass : p ≡ 0 → Passed refusal.marked d q

  told : Passed refusal.not_logged_on d q → Told (path_answer d q)
  unfolding applies rung_at never ladder
  told p = go (leads_nowhere d q) (no_access d q) (not_cleared d q) refl refl refl
    where
      go : (a b c : Bool) → leads_nowhere d q ≡ a → no_access d q ≡ b → not_cleared d q ≡ c → Told (path_answer d q)
      go true b c x y z = rw (path_nowhere x) record { hit = λ h. (passed_hit d q refusal.not_logged_on p x, omega arith); pass = λ h. absurd (omega arith) }
      go false true c x y z = rw (path_shut x y) record {
        hit = λ h. (passed_hit d q refusal.no_such_name (passed_more d q refusal.not_logged_on p x) y, omega arith);
        pass = λ h. absurd (omega arith);
      }
      go false false true x y z = rw (path_barred x y z) record {
        hit = λ h. (passed_hit d q refusal.no_access (passed_more d q refusal.no_such_name (passed_more d q refusal.not_logged_on p x) y) z, omega arith);
        pass = λ h. absurd (omega arith);
      }
      go false false false x y z = record {
        hit = λ h. absurd (omega (arith, path_open x y z));
        pass = λ h. passed_more d q refusal.no_access (passed_more d q refusal.no_such_name (passed_more d q refusal.not_logged_on p x) y) z;
      }

  -- a refusal by the three is the answer
  pub path_hit : Passed refusal.not_logged_on d q → 1 ≤ path_answer d q → (path_answer d q ≡ answer d q) × (first_noticed ≤ path_answer d q)
  path_hit p h = (told p).hit h

  -- where none of the three applies the ladder is passed up to rung 9
  pub path_pass : Passed refusal.not_logged_on d q → path_answer d q ≡ 0 → Passed refusal.marked d q
  path_pass p h = (told p).pass h

  -- the same of the refusal that the answer is the number of
  pub path_refused : (r : Refusal) → Passed refusal.not_logged_on d q → number_of r ≡ path_answer d q
      → (number_of r ≡ answer d q) × (first_noticed ≤ number_of r)
  path_refused r p e = rw e (path_hit p (subst (λ (n : ℕ). 1 ≤ n) e (refusal_some r)))
