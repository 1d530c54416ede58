-- Granting and revoking keep tables well-formed and secure.
use Rattle.std.specs.Prelude.{Bool, false, true, ◌≢◌, ◌⊎◌, ◌≡◌, ◌<◌, ◌≤◌, pred, suc, ℕ, ltb}
use Rattle.std.proofs.Common.{inl, inr, arith}
use Rattle.model.specs.Basics.Choice.{Below, below, over, pick, under}
use Rattle.model.specs.Effect.Triples.{grant, granted, revoke}
use Rattle.model.specs.State.Secure.{Secure}
use Rattle.model.specs.State.WellFormed.{Access, EntityOk, GoodTriple, WellFormed}
use Rattle.model.specs.Tables.EditLaws.{case, each}
use Rattle.model.specs.Tables.Edits.{row, written}
use Rattle.model.specs.Tables.RowLaws.{append_packed, close_each, close_beyond, close_packed, first_zero, sought}
use Rattle.model.specs.Tables.Rows.{close, replace, seek, without}
use Rattle.model.specs.Tables.Words.{Tables, kind, place_count, triple, triples}

-- 8 grant, 9 revoke, on a row
good_replace : (t n : ℕ) (r : ℕ → ℕ) → GoodTriple t → ((i : ℕ) → i < n → GoodTriple (r i)) → (i : ℕ) → i < suc n → GoodTriple (replace n t r i)
good_replace t n r g old i h = case GoodTriple i n t (r i) (λ q. g) (λ q. old i (omega arith))

granted_access : (t n : ℕ) (r : ℕ → ℕ) → GoodTriple t → (seek t r place_count ≡ place_count → seek 0 r place_count < place_count) → Access n r
    → (m : ℕ) × Access m (granted t r)
granted_access t n r g fits a = go (ltb (seek t r place_count) place_count) (below (seek t r place_count) place_count) (sought t r place_count)
  where
    z : seek 0 r place_count ≡ n
    z = first_zero r n a.packed

    go : (b : Bool) → Below (seek t r place_count) place_count b
        → ((seek t r place_count < place_count) × (r (seek t r place_count) ≡ t)) ⊎
        ((seek t r place_count ≡ place_count) × ((i : ℕ) → i < place_count → r i ≢ t))
        → (m : ℕ) × Access m (pick b r (replace (seek 0 r place_count) t r))
    go true (under h) s = (n, a)
    go false (over h) (inl s) = absurd (omega (arith, s.0))
    go false (over h) (inr s) = (
      suc n,
      rw z record {
        packed = append_packed r n t a.packed (omega (arith, fits s.0, z)) (omega arith) (λ i l. s.1 i (omega (arith, a.packed.room)));
        good = good_replace t n r g a.good;
      },
    )

closed_access : (k n : ℕ) (r : ℕ → ℕ) → Access n r → (m : ℕ) × Access m (close k r)
closed_access k n r a = go (ltb k n) (below k n)
  where
    go : (b : Bool) → Below k n b → (m : ℕ) × Access m (close k r)
    go true (under h) = (pred n, record { packed = close_packed r n k a.packed h; good = close_each GoodTriple r n k a.good })
    go false (over h) = (n, rw (close_beyond r n k a.packed h) a)

module _ (d : Tables) (w : WellFormed d) (s : Secure d) (e t : ℕ) (here : 1 ≤ d.entity e kind) (g : GoodTriple t) where
  grant_ok : (seek t (triples d e) place_count ≡ place_count → seek 0 (triples d e) place_count < place_count) → EntityOk (d.entity e)
      → EntityOk (written (row triple (granted t (triples d e))) (d.entity e))
  grant_ok fits o = let n = granted_access t o.access.0 (triples d e) g fits o.access.1 in search arith

  pub grant_well_formed : (seek t (triples d e) place_count ≡ place_count → seek 0 (triples d e) place_count < place_count) → WellFormed (grant e t d)
  grant_well_formed fits = let n = each EntityOk (row triple (granted t (triples d e))) e d.entity w.entities (grant_ok fits (w.entities e)) in search

  pub grant_secure : Secure (grant e t d)
  grant_secure = search

  revoke_ok : EntityOk (d.entity e) → EntityOk (written (row triple (without t (triples d e) place_count)) (d.entity e))
  revoke_ok o = let n = closed_access (seek t (triples d e) place_count) o.access.0 (triples d e) o.access.1 in search arith

  pub revoke_well_formed : WellFormed (revoke e t d)
  revoke_well_formed = let n = each EntityOk (row triple (without t (triples d e) place_count)) e d.entity w.entities (revoke_ok (w.entities e)) in search

  pub revoke_secure : Secure (revoke e t d)
  revoke_secure = search
