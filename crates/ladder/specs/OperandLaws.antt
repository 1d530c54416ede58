-- Rules 7.7 to 7.9: what the readers of operands find decides the rungs that read references.
use Rattle.std.specs.Prelude.{Bool, ◌&&◌, ◌||◌, false, true, List, [], ◌∷◌, ◌≢◌, ◌≡◌, refl, ◌≤◌, suc, zero, ℕ, length}
use Rattle.std.proofs.Math.Bool.{not}
use Rattle.std.proofs.Math.Option.{Option, none, some}
use Rattle.std.proofs.Common.{◌∙◌, sym, arith, eq-eqb, ne_eqb}
use Rattle.std.proofs.Math.Path.{ap}
use Rattle.std.proofs.Math.Dec.{eqb}
use Rattle.laws.specs.Bools.{either, joined}
use Rattle.ladder.specs.Path.{arity_of, path_answer}
use Rattle.ladder.specs.PathLaws.{path_barred, path_nowhere, path_open, path_shut}
use Rattle.tables.specs.declared.Entity.{Entity}
use Rattle.model.specs.Basics.TestLaws.{only}
use Rattle.model.proofs.Request.FitLaws.{operands_taken}
use Rattle.model.specs.Request.Form.{taken}
use Rattle.model.specs.Request.Asked.{asked, basis_of, operand}
use Rattle.model.specs.Request.Conditions.{Kind}
use Rattle.model.specs.Request.Ladder.{bars, leads_nowhere, no_access, not_cleared, of_op, permits, some_operand}
use Rattle.model.proofs.Request.OperationLaws.{op_of_number}
use Rattle.model.specs.Request.Operations.{Op, number_of, op_of, row_of}
use Rattle.model.specs.Request.Reference.{basis, resolve}
use Rattle.model.proofs.Request.ReferenceLaws.{leads_present, resolve_leads}
use Rattle.model.specs.Request.Refusals as refusal
use Rattle.model.specs.Request.Words.{Reference, Request, names}
use Rattle.model.specs.State.WellFormed.{WellFormed}
use Rattle.model.specs.Tables.Words.{Tables, clearance, entity_count}
use Rattle.reference.specs.Ways.{leading}
use Rattle.reference.specs.declared.Found.{Found}
use Rattle.reference.specs.declared.Found.TheVariants.{At, Nowhere}

-- ---- a question put to the operands

one_asked : (p : ℕ → Bool) (xs : List Kind) → length xs ≡ 1 → some_operand 1 xs (λ k x. p k) ≡ p 1
unfolding some_operand
one_asked p [] z = absurd (omega arith)
one_asked p (x ∷ []) z = only (p 1)
one_asked p (x ∷ y ∷ zs) z = absurd (omega arith)

two_asked : (p : ℕ → Bool) (xs : List Kind) → length xs ≡ 2 → some_operand 1 xs (λ k x. p k) ≡ (p 1 || p 2)
unfolding some_operand
two_asked p [] z = absurd (omega arith)
two_asked p (x ∷ []) z = absurd (omega arith)
two_asked p (x ∷ y ∷ []) z = either (p 1) (p 2)
two_asked p (x ∷ y ∷ w ∷ zs) z = absurd (omega arith)

-- of the request's operation, by its number
asked_of : (q : Request) (p : ℕ → ℕ → Bool) (n : ℕ) (r : ℕ → Bool) → ((m : ℕ) (xs : List Kind) → length xs ≡ suc n → some_operand 1 xs (λ k x. p m k) ≡ r m)
    → arity_of q ≡ suc n → of_op q (λ o. some_operand 1 (row_of o).operands (λ k x. p (number_of o) k)) ≡ r q.operation
unfolding arity_of of_op
asked_of q p n r f h = go (op_of q.operation) refl h
  where
    go : (m : Option Op) → op_of q.operation ≡ m → elim m [ none ↦ 0 | some o ↦ taken o ] ≡ suc n
        → elim m [ none ↦ false | some o ↦ some_operand 1 (row_of o).operands (λ k x. p (number_of o) k) ] ≡ r q.operation
    go none e z = absurd (omega arith)
    go (some o) e z = f (number_of o) (row_of o).operands (operands_taken o ∙ z) ∙ ap r (op_of_number q.operation o e)

-- ---- the resolver's answer

leading_none : (x : ℕ) (b : Bool) → leading x b ≡ Nowhere → x ≡ 0
leading_none zero b e = refl
leading_none (suc x) b e = absurd (let z : ◌≡◌ {A = ℕ} 0 1 = cc in omega arith)

leading_some : (x : ℕ) (b : Bool) (e : Entity) (o : Bool) → leading x b ≡ At e o → (x ≡ e.0) × ((b ≡ o) × (x ≢ 0))
leading_some zero b e o h = absurd (let z : ◌≡◌ {A = ℕ} 0 1 = cc in omega arith)
leading_some (suc x) b e o h =
    let p : ◌≡◌ {A = Entity} (record { 0 = suc x }) e = cc in
    (ap (λ (r : Entity). r.0) p, (cc, λ z. omega arith))

-- what the resolver finds in well-formed tables is the number of an entity
pub found_in : (d : Tables) (ns : List ℕ) (b : Bool) (e : Entity) (o : Bool) → WellFormed d → leading (resolve d ns) b ≡ At e o
    → (1 ≤ e.0) × (e.0 ≤ entity_count)
found_in d ns b e o w h =
    let z = leading_some (resolve d ns) b e o h in
    let p = leads_present w (resolve_leads d ns z.1.1) in
    (rw z.0 at p.low, rw z.0 at p.high)

-- a reference that the resolver was asked for: its names ns, the answer f, and the operand x and its basis w in the model
module _ (d : Tables) (l : ℕ) (r : Reference) (ns : List ℕ) (hn : ns ≡ names r) (f : Found)
    (hf : f ≡ leading (resolve d ns) (not (bars d l (basis d ns)))) where
  nowhere : f ≡ Nowhere → eqb (resolve d (names r)) 0 ≡ true
  nowhere h = eq-eqb (resolve d (names r)) 0 (ap (resolve d) (sym hn) ∙ leading_none (resolve d ns) (not (bars d l (basis d ns))) (sym hf ∙ h))

  module _ (e : Entity) (o : Bool) (h : f ≡ At e o) where
    found : (resolve d ns ≡ e.0) × ((not (bars d l (basis d ns)) ≡ o) × (resolve d ns ≢ 0))
    found = leading_some (resolve d ns) (not (bars d l (basis d ns))) e o (sym hf ∙ h)

    found_is : resolve d (names r) ≡ e.0
    found_is = ap (resolve d) (sym hn) ∙ found.0

    somewhere : eqb (resolve d (names r)) 0 ≡ false
    somewhere = ne_eqb (resolve d (names r)) 0 (λ z. found.1.1 (ap (resolve d) hn ∙ z))

    way_is : bars d l (basis d (names r)) ≡ not o
    way_is = ap (λ (m : List ℕ). bars d l (basis d m)) (sym hn) ∙ twice (bars d l (basis d ns)) ∙ ap not found.1.0
      where
        twice : (b : Bool) → b ≡ not (not b)
        twice true = refl
        twice false = refl

-- where the request's references lead are its operands
module _ (d : Tables) (q : Request) (l : ℕ) (ns : List ℕ) (f : Found) (hf : f ≡ leading (resolve d ns) (not (bars d l (basis d ns))))
    (e : Entity) (o : Bool) (h : f ≡ At e o) where
  pub first_is : ns ≡ names q.first → e.0 ≡ (asked d q).first
  unfolding asked
  first_is hn = sym (found_is d l q.first ns hn f hf e o h)

  pub second_is : ns ≡ names q.second → e.0 ≡ (asked d q).second
  unfolding asked
  second_is hn = sym (found_is d l q.second ns hn f hf e o h)

module _ (d : Tables) (q : Request) (u op l : ℕ) (hu : q.user ≡ u) (ho : q.operation ≡ op) (hl : l ≡ d.user u clearance) where
  -- the clearance that was read is the requester's
  own_clearance : d.user q.user clearance ≡ l
  own_clearance = ap (λ (x : ℕ). d.user x clearance) hu ∙ sym hl

  -- ---- one operand

  module _ (one : arity_of q ≡ 1) where
    one_7 : leads_nowhere d q ≡ eqb (resolve d (names q.first)) 0
    unfolding leads_nowhere asked
    one_7 = asked_of q (λ n k. eqb (operand (asked d q) k) 0) 0 (λ n. eqb (asked d q).first 0)
        (λ m xs z. one_asked (λ k. eqb (operand (asked d q) k) 0) xs z) one

    one_8 : no_access d q ≡ not (permits d u op 1 (resolve d (names q.first)))
    unfolding no_access asked
    one_8 = asked_of q (λ n k. not (permits d q.user n k (operand (asked d q) k))) 0 (λ n. not (permits d q.user n 1 (asked d q).first))
        (λ m xs z. one_asked (λ k. not (permits d q.user m k (operand (asked d q) k))) xs z) one ∙ rw (hu, ho)

    one_9 : not_cleared d q ≡ bars d l (basis d (names q.first))
    unfolding not_cleared asked
    one_9 = asked_of q (λ n k. bars d (d.user q.user clearance) (basis_of (asked d q) k)) 0
        (λ n. bars d (d.user q.user clearance) (asked d q).first_basis)
        (λ m xs z. one_asked (λ k. bars d (d.user q.user clearance) (basis_of (asked d q) k)) xs z) one ∙ rw own_clearance

    module _ (ns : List ℕ) (hn : ns ≡ names q.first) (f : Found) (hf : f ≡ leading (resolve d ns) (not (bars d l (basis d ns)))) where
      -- the reference leads nowhere
      pub one_nowhere : f ≡ Nowhere → refusal.no_such_name ≡ path_answer d q
      one_nowhere h = sym (path_nowhere d q (one_7 ∙ nowhere d l q.first ns hn f hf h))

      module _ (e : Entity) (o : Bool) (h : f ≡ At e o) (p : Bool) (hp : p ≡ permits d u op 1 e.0) where
        leads : leads_nowhere d q ≡ false
        leads = one_7 ∙ somewhere d l q.first ns hn f hf e o h

        access : no_access d q ≡ not p
        access = one_8 ∙ rw (found_is d l q.first ns hn f hf e o h, hp)

        way : not_cleared d q ≡ not o
        way = one_9 ∙ way_is d l q.first ns hn f hf e o h

        -- its triples do not permit the request
        pub one_shut : p ≡ false → refusal.no_access ≡ path_answer d q
        one_shut x = sym (path_shut d q leads (access ∙ ap not x))

        -- something on the way is marked, and the requester is not cleared for it
        pub one_barred : p ≡ true → o ≡ false → refusal.marked ≡ path_answer d q
        one_barred x y = sym (path_barred d q leads (access ∙ ap not x) (way ∙ ap not y))

        -- it may be had
        pub one_fine : p ≡ true → o ≡ true → (refusal.accepted ≡ path_answer d q) × (e.0 ≡ (asked d q).first)
        one_fine x y = (sym (path_open d q leads (access ∙ ap not x) (way ∙ ap not y)), first_is d q l ns f hf e o h hn)

  -- ---- two operands: each rung is asked of both before the next

  module _ (two : arity_of q ≡ 2) where
    two_7 : leads_nowhere d q ≡ (eqb (resolve d (names q.first)) 0 || eqb (resolve d (names q.second)) 0)
    unfolding leads_nowhere asked
    two_7 = asked_of q (λ n k. eqb (operand (asked d q) k) 0) 1 (λ n. eqb (asked d q).first 0 || eqb (asked d q).second 0)
        (λ m xs z. two_asked (λ k. eqb (operand (asked d q) k) 0) xs z) two

    two_8 : no_access d q ≡ (not (permits d u op 1 (resolve d (names q.first))) || not (permits d u op 2 (resolve d (names q.second))))
    unfolding no_access asked
    two_8 = asked_of q (λ n k. not (permits d q.user n k (operand (asked d q) k))) 1
        (λ n. not (permits d q.user n 1 (asked d q).first) || not (permits d q.user n 2 (asked d q).second))
        (λ m xs z. two_asked (λ k. not (permits d q.user m k (operand (asked d q) k))) xs z) two ∙ rw (hu, ho)

    two_9 : not_cleared d q ≡ (bars d l (basis d (names q.first)) || bars d l (basis d (names q.second)))
    unfolding not_cleared asked
    two_9 = asked_of q (λ n k. bars d (d.user q.user clearance) (basis_of (asked d q) k)) 1
        (λ n. bars d (d.user q.user clearance) (asked d q).first_basis || bars d (d.user q.user clearance) (asked d q).second_basis)
        (λ m xs z. two_asked (λ k. bars d (d.user q.user clearance) (basis_of (asked d q) k)) xs z) two ∙ rw own_clearance

    module _ (ns : List ℕ) (hn : ns ≡ names q.first) (f : Found) (hf : f ≡ leading (resolve d ns) (not (bars d l (basis d ns)))) where
      -- the first reference leads nowhere
      pub two_nowhere : f ≡ Nowhere → refusal.no_such_name ≡ path_answer d q
      two_nowhere h = sym (path_nowhere d q (two_7 ∙ rw (nowhere d l q.first ns hn f hf h)))

      module _ (e : Entity) (o : Bool) (h : f ≡ At e o)
          (ms : List ℕ) (hm : ms ≡ names q.second) (g : Found) (hg : g ≡ leading (resolve d ms) (not (bars d l (basis d ms)))) where
        -- the second one does
        pub two_nowhere₂ : g ≡ Nowhere → refusal.no_such_name ≡ path_answer d q
        two_nowhere₂ k = sym (path_nowhere d q (two_7 ∙ rw (nowhere d l q.second ms hm g hg k, somewhere d l q.first ns hn f hf e o h)))

        module _ (c : Entity) (w : Bool) (k : g ≡ At c w) (p : Bool) (hp : p ≡ permits d u op 1 e.0) where
          both_lead : leads_nowhere d q ≡ false
          both_lead = two_7 ∙ rw (somewhere d l q.first ns hn f hf e o h, somewhere d l q.second ms hm g hg c w k)

          access_both : (r : Bool) → r ≡ permits d u op 2 c.0 → no_access d q ≡ (not p || not r)
          access_both r hr = two_8 ∙ rw (found_is d l q.first ns hn f hf e o h, found_is d l q.second ms hm g hg c w k, hp, hr)

          -- the first operand's triples do not permit the request
          pub two_shut : p ≡ false → refusal.no_access ≡ path_answer d q
          two_shut x = sym (path_shut d q both_lead (access_both (permits d u op 2 c.0) refl ∙ rw x))

          module _ (x : p ≡ true) (r : Bool) (hr : r ≡ permits d u op 2 c.0) where
            -- the second one's do not
            pub two_shut₂ : r ≡ false → refusal.no_access ≡ path_answer d q
            two_shut₂ y = sym (path_shut d q both_lead (access_both r hr ∙ rw (x, y)))

            way_both : not_cleared d q ≡ not (o && w)
            way_both = two_9 ∙ rw (way_is d l q.first ns hn f hf e o h, way_is d l q.second ms hm g hg c w k) (joined o w)

            -- one of the ways is not open
            pub two_barred : r ≡ true → (o && w) ≡ false → refusal.marked ≡ path_answer d q
            two_barred y z = sym (path_barred d q both_lead (access_both r hr ∙ rw (x, y)) (way_both ∙ ap not z))

            -- both may be had
            pub two_fine : r ≡ true → (o && w) ≡ true
                → (refusal.accepted ≡ path_answer d q) × ((e.0 ≡ (asked d q).first) × (c.0 ≡ (asked d q).second))
            two_fine y z = (
              sym (path_open d q both_lead (access_both r hr ∙ rw (x, y)) (way_both ∙ ap not z)),
              (first_is d q l ns f hf e o h hn, second_is d q l ms g hg c w k hm),
            )
