-- The verdicts on the entities, as the walk reads them: one for each, at its number.
use Rattle.std.specs.Prelude.{Bool, List, ◌≡◌, ◌≤◌, false, suc, ℕ, get_or, length}
use Rattle.verdicts.specs.declared.Verdict.{Verdict}
use Rattle.model.specs.List.Admitted.{Admitted}
use Rattle.model.specs.List.Ways.{showable, ways}
use Rattle.model.specs.Request.Conditions.{level_of}
use Rattle.model.specs.Tables.Layout.{tables_of, word_count}
use Rattle.model.specs.Tables.Words.{Tables, clearance, used_places, devices, entity_count, places}
use Rattle.reference.specs.Ways.{Ranged}

-- the user u is let in, c is the clearance and s the level of the screen
pub record Asker (t : List ℕ) (u c s : ℕ) : Type 0 where
  pub admitted : Admitted t u
  pub clearance : c ≡ (tables_of t).user u clearance
  pub screen : s ≡ level_of (tables_of t) (devices (tables_of t) u)

-- the places of e that lead on for the user u, and whether u may be shown e
unfoldable pub verdict : Tables → ℕ → ℕ → Verdict
verdict d u e = record { ways = ways d u e; shown = showable d u e }

-- no place leads on, and there is nothing to show
abbrev pub no_verdict : Verdict
no_verdict = record { ways = 0; shown = false }

-- What a verdict says: how many places lead on, and whether the entity is to be listed.
unfoldable pub leads : List Verdict → ℕ → ℕ
leads v e = (get_or v e no_verdict).ways

unfoldable pub listed : List Verdict → ℕ → Bool
listed v e = (get_or v e no_verdict).shown

-- v has the verdicts on the entities 1 to n, each at its number; number 0 is no entity
pub record Judged (d : Tables) (u n : ℕ) (v : List Verdict) : Type 0 where
  pub size : length v ≡ suc entity_count
  pub first : get_or v 0 no_verdict ≡ no_verdict
  pub told : (e : ℕ) → 1 ≤ e → e ≤ n → get_or v e no_verdict ≡ verdict d u e

-- whole tables with their places in range, and verdicts by which no more places lead on than are used; where some do, the others hold nothing
pub record Guided (t : List ℕ) (v : List Verdict) : Type 0 where
  pub whole : length t ≡ word_count
  pub ranged : Ranged (tables_of t)
  pub size : length v ≡ suc entity_count
  pub used : (e : ℕ) → leads v e ≤ used_places (tables_of t) e
  pub rest : (e : ℕ) → 1 ≤ leads v e → (i : ℕ) → leads v e ≤ i → places (tables_of t) e i ≡ 0
