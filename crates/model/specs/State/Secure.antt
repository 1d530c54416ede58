-- Document 01, "The tables"; rule 4, secure (Definition 2): a named part for each sentence.
use Rattle.std.specs.Prelude.{Bool, ◌≢◌, ◌<◌, ℕ, T}
use Rattle.model.specs.Basics.Tests.{imp}
use Rattle.model.specs.Level.{AtMost, Subset, bit, role_count}
use Rattle.model.specs.State.WellFormed.{Holds, WellFormed}
use Rattle.model.specs.Tables.Kinds.{Screen}
use Rattle.model.specs.Tables.Words.{Tables, authorised, clearance, current, devices, kinds, label_bit, level, maximum, sums}
use Rattle.model.specs.Tables.Words.{used_places, value_bit}

-- the value is shown only where the label is
unfoldable pub labelled : ℕ → Bool
labelled s = imp (bit value_bit s) (bit label_bit s)

pub record Secure (d : Tables) : Type 0 where
  -- rule 4.1: nothing stands in or on what is not at least its level
  pub contained : (e c : ℕ) → Holds d e c → AtMost (d.entity c level) (d.entity e level)
  -- rule 4.2: nobody is shown what they are not cleared for
  pub seen : (u c : ℕ) → devices d u ≢ 0 → Holds d (devices d u) c → AtMost (d.entity c level) (d.user u clearance)
  -- rule 4.3: no value without its label
  pub value_labelled : (e i : ℕ) → Screen (kinds d e) → i < used_places d e → T (labelled (sums d e i))
  -- rule 4.4: nobody acts with a role that is not authorised
  pub roles : (u : ℕ) → Subset role_count (d.user u current) (d.user u authorised)
  -- rule 4.5: no screen is set above its maximum
  pub ceiling : (e : ℕ) → Screen (kinds d e) → AtMost (d.entity e level) (d.entity e maximum)

-- well-formed and secure
abbrev pub Good : Tables → Type 0
Good d = WellFormed d × Secure d
