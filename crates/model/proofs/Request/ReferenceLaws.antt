-- Reading a reference name by name decides where it leads and what it is based on (rule 5.3).
use Rattle.std.specs.Prelude.{Bool, false, true, List, [], ◌∷◌, ◌≢◌, ◌≡◌, refl, ◌≤◌, pred, ℕ, T}
use Rattle.std.proofs.Common.{ap, arith}
use Rattle.model.specs.Basics.Agree.{Agrees, agrees_and, agrees_as, agrees_eq, agrees_le, agrees_not}
use Rattle.model.specs.Request.Reference.{Leads, Present, Follows, basis, begins, follow, further, here, passed, place_test, present_test}
use Rattle.model.specs.Request.Reference.{resolve, standing}
use Rattle.model.specs.State.WellFormed.{Holds, WellFormed}
use Rattle.model.specs.Tables.Words.{Tables, absent_kind, container_kind, entity_count, kinds, object_kind, used_places}

pub place_agrees : (d : Tables) (e p : ℕ) → Agrees (place_test d e p) ((1 ≤ p) × (p ≤ used_places d e))
unfolding place_test
place_agrees d e p = agrees_and (agrees_le 1 p) (agrees_le p (used_places d e))

pub present_agrees : (d : Tables) (e : ℕ) → Agrees (present_test d e) (Present d e)
unfolding present_test
present_agrees d e = agrees_as {P = ((1 ≤ e) × (e ≤ entity_count)) × (kinds d e ≢ absent_kind)}
    (λ z. record { low = z.0.0; high = z.0.1; there = z.1 }) (λ p. ((p.low, p.high), p.there))
    (agrees_and (agrees_and (agrees_le 1 e) (agrees_le e entity_count)) (agrees_not (agrees_eq (kinds d e) absent_kind)))

-- What is read from e on is what the relation says.
pub follow_follows : (d : Tables) (e : ℕ) (ps : List ℕ) → follow d e ps ≢ 0 → Follows d e ps (passed d e ps) (follow d e ps)
unfolding follow passed
follow_follows d e [] h = here
follow_follows d e (p ∷ ps) h = go (place_test d e p) (place_agrees d e p).to h (follow_follows d (standing d e p) ps)
  where
    go : (b : Bool) → (T b → (1 ≤ p) × (p ≤ used_places d e)) → ◌≢◌ {A = ℕ} (elim b [ true ↦ follow d (standing d e p) ps | false ↦ 0 ]) 0
        → (follow d (standing d e p) ps ≢ 0 → Follows d (standing d e p) ps (passed d (standing d e p) ps) (follow d (standing d e p) ps))
        → Follows d e (p ∷ ps) (e ∷ passed d (standing d e p) ps) (elim b [ true ↦ follow d (standing d e p) ps | false ↦ 0 ])
    go true f n ih = further (f tt).0 (f tt).1 (ih n)
    go false f n ih = absurd (n refl)

pub follows_follow : {d : Tables} {e x : ℕ} {ps w : List ℕ} → Follows d e ps w x → (follow d e ps ≡ x) × (passed d e ps ≡ w)
unfolding follow passed
follows_follow here = (refl, refl)
follows_follow {d} (further {e = e} {p = p} {ps = ps} {x = x} l h r) =
    (go (place_test d e p) ((place_agrees d e p).from (l, h)) (follows_follow r).0, ap (λ (v : List ℕ). e ∷ v) (follows_follow r).1)
  where
    go : (b : Bool) → T b → follow d (standing d e p) ps ≡ x → elim b [ true ↦ follow d (standing d e p) ps | false ↦ 0 ] ≡ x
    go true t q = q
    go false t q = absurd t

-- A reference that is read leads to what is read, by its basis.
pub resolve_leads : (d : Tables) (ns : List ℕ) → resolve d ns ≢ 0 → Leads d ns (basis d ns) (resolve d ns)
unfolding resolve basis
resolve_leads d [] h = absurd (h refl)
resolve_leads d (e ∷ ps) h = go (present_test d e) (present_agrees d e).to h
  where
    go : (b : Bool) → (T b → Present d e) → ◌≢◌ {A = ℕ} (elim b [ true ↦ follow d e ps | false ↦ 0 ]) 0
        → Leads d (e ∷ ps) (passed d e ps) (elim b [ true ↦ follow d e ps | false ↦ 0 ])
    go true f n = begins (f tt) (follow_follows d e ps n)
    go false f n = absurd (n refl)

-- Where a reference leads is what is read: there is one such entity, and one way.
pub leads_resolve : {d : Tables} {ns w : List ℕ} {x : ℕ} → Leads d ns w x → (resolve d ns ≡ x) × (basis d ns ≡ w)
unfolding resolve basis
leads_resolve {d} (begins {e = e} {ps = ps} {x = x} p r) = (go (present_test d e) ((present_agrees d e).from p) (follows_follow r).0, (follows_follow r).1)
  where
    go : (b : Bool) → T b → follow d e ps ≡ x → elim b [ true ↦ follow d e ps | false ↦ 0 ] ≡ x
    go true t q = q
    go false t q = absurd t

-- In well-formed tables a reference leads to what is there.
pub follows_present : {d : Tables} {e x : ℕ} {ps w : List ℕ} → WellFormed d → Present d e → Follows d e ps w x → Present d x
follows_present w p here = p
follows_present {d} w p (further {e = e} {p = n} l h r) = follows_present w inner r
  where
    held_there : Holds d e (standing d e n)
    held_there = (pred n, omega arith, refl)

    kind_there : (object_kind ≤ kinds d (standing d e n)) × (kinds d (standing d e n) ≤ container_kind)
    kind_there = w.links.contents e (standing d e n) held_there

    inner : Present d (standing d e n)
    inner =
        let z : kinds d (standing d e n) ≢ absent_kind = λ q. omega (arith, kind_there) in
        let i = w.entity_numbers (standing d e n) z in
        record { low = i.0; high = i.1; there = z }

pub leads_present : {d : Tables} {ns v : List ℕ} {x : ℕ} → WellFormed d → Leads d ns v x → Present d x
leads_present w (begins p r) = follows_present w p r
