-- What the one pass over the entities answers and leaves: what is not well-formed ends it.
use Rattle.std.specs.Prelude.{Bool, Err, List, Ok, Result, true, ◌≡◌, ◌*◌, suc, ℕ}
use Rattle.model.specs.Basics.Choice.{pick}
use Rattle.model.specs.Basics.Tests.{every}
use Rattle.model.specs.Request.Refusals as refusal
use Rattle.model.specs.Tables.Words.{Tables, entity_count, place_count}
use Rattle.names.specs.Refusals.{number_of}
use Rattle.names.specs.declared.refusal.Refusal.{Refusal}
use Rattle.state.specs.Holders.{Amiss, Noted}
use Rattle.secure.specs.Secured.{entity_secure}
use Rattle.state.specs.Passes.{own_test}

-- what is secure is accepted, and what is not is refused
abbrev pub grade : Bool → ℕ
grade b = pick b refusal.accepted refusal.not_secure

-- entity e is in order, what stands in it is noted, and s says whether it is secure
pub record Sound (d : Tables) (e : ℕ) (s : Bool) (h : List ℕ) : Type 0 where
  pub own : own_test d e ≡ true
  pub noted : Noted d (e * place_count) h
  pub graded : s ≡ entity_secure d e

-- r refuses tables that are not well-formed
abbrev pub Refusing : Tables → Refusal → Type 0
Refusing d r = (number_of r ≡ refusal.not_well_formed) × Amiss d

-- what is answered of entity e
abbrev pub Judging : Tables → ℕ → Result Bool Refusal → List ℕ → Type 0
Judging d e (Ok s) h = Sound d e s h
Judging d e (Err r) h = Refusing d r

-- the same of the first i entities
pub record SoundTo (d : Tables) (i : ℕ) (s : Bool) (h : List ℕ) : Type 0 where
  pub own : every i (λ e. own_test d (suc e)) ≡ true
  pub noted : Noted d (i * place_count) h
  pub graded : s ≡ every i (λ e. entity_secure d (suc e))

-- and of all
abbrev pub JudgingAll : Tables → Result Bool Refusal → List ℕ → Type 0
JudgingAll d (Ok s) h = SoundTo d entity_count s h
JudgingAll d (Err r) h = Refusing d r
