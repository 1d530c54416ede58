-- Rules 6.9 and 7: a request to revoke, test by test, as its function climbs the ladder.
use Rattle.std.specs.Prelude.{Bool, false, true, List, ◌≡◌, ◌≤◌, ℕ}
use Rattle.std.proofs.Common.{◌∙◌, arith}
use Rattle.std.proofs.Math.Path.{refl, sym}
use Rattle.ladder.specs.Contract.{First, Judged, Taking}
use Rattle.ladder.specs.JudgeLaws.{accepted, asked_of, free, kind_right, kind_wrong, skip}
use Rattle.model.specs.Basics.Tests.{every}
use Rattle.model.specs.Effect.Triples.{revoke}
use Rattle.model.specs.Request.Asked.{asked, named_triple}
use Rattle.model.specs.Request.Conditions.{is_any}
use Rattle.model.specs.Request.Operations.{to_revoke}
use Rattle.model.specs.State.WellFormed.{WellFormed}
use Rattle.model.specs.Tables.Edits.{on_entity, row}
use Rattle.model.specs.Tables.Layout.{tables_of}
use Rattle.model.specs.Tables.RowLaws.{close_beyond}
use Rattle.model.specs.Tables.Rows.{close, seek, without}
use Rattle.model.specs.Tables.Words.{Tables, place_count, triple, triples}
use Rattle.op_triples.specs.Named.{triple_in}
use Rattle.rows.specs.EditLaws.{row_unedited}
use Rattle.rows.specs.NameLaws.{triple_row}
use Rattle.model.specs.Request.Refusals as refusal

-- a row that has not the triple is the same without it
none_same : (d : Tables) (e x : ℕ) → WellFormed d → place_count ≤ seek x (triples d e) place_count → d ≡ revoke e x d
none_same d e x w h =
    let a = (w.entities e).access in
    sym (row_unedited triple triple_row e d (without x (triples d e) place_count)
    (close_beyond (triples d e) a.0 (seek x (triples d e) place_count) a.1.packed (omega (arith, a.1.packed.room))))

module _ (t q : List ℕ) (u e : ℕ) (k : Taking to_revoke t q u × First t q e) (b : Bool) (hb : b ≡ is_any (tables_of t) e) where
  pub revoke_wrong : b ≡ false → Judged t q refusal.wrong_kind t
  revoke_wrong = kind_wrong k.0 e k.1 is_any refl b hb

  module _ (yes : b ≡ true) (x p : ℕ) (hx : x ≡ triple_in q) (hp : p ≡ seek x (triples (tables_of t) e) place_count) where
    -- what is asked, as it was read
    first_is : (asked_of t q).first ≡ e
    first_is = k.1.is

    triple_is : named_triple (asked_of t q) ≡ x
    unfolding asked
    triple_is = sym hx

    done : (n : List ℕ) → tables_of n ≡ revoke e x (tables_of t) → Judged t q refusal.accepted n
    unfolding every free
    done n z = accepted k.0 n
        (skip k.0 6 refusal.wrong_kind (omega arith) (omega arith) (kind_right k.0 e k.1 is_any refl b hb yes) tt)
        (z ∙ rw (first_is, triple_is))

    -- there is none
    pub revoke_none : place_count ≤ p → Judged t q refusal.accepted t
    revoke_none h = done t (none_same (tables_of t) e x k.0.climbed.ready.good.0 (omega arith))

    -- it is taken out
    pub revoke_out : (n : List ℕ) → tables_of n ≡ on_entity e (row triple (close p (triples (tables_of t) e))) (tables_of t) → Judged t q refusal.accepted n
    revoke_out n z = done n (z ∙ rw hp)
