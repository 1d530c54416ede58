-- The ways in which reading the line of a place or of a triple ends.
use Rattle.std.specs.Prelude.{Bool, ◌&&◌, ◌||◌, false, true, List, [], ◌∷◌, ◌≡◌, refl, Some, None, Option, leb, ltb, get_or, length}
use Prim.Native.Nat.{◌+◌, ◌<◌, ◌≤◌, zero-le, ℕ}
use Rattle.std.proofs.Common.{add-one, arith, drop_of_length-le, drop-cons, eq-eqb, le-ltb, leb-false, leb-true, lt-ltb, ne_eqb}
use Rattle.laws.specs.Bools.{neither_l, neither_r, or_cases}
use Rattle.lines.specs.LineAt.{KeyAt}
use Rattle.lines.specs.NumberAt.{NumberAt}
use Rattle.lines.specs.declared.reading.Number.{Number}
use Rattle.model.specs.Basics.Cases.{cases}
use Rattle.model.specs.Tables.Words.{operation_weight, triple_of, who_weight}
use Rattle.model.specs.Text.Lines.{line_end, read_line}
use Rattle.model.specs.Text.References.{dot_byte}
use Rattle.record_reader.specs.RowAt.{DotAt, PlaceAt, TripleAt}
use Rattle.tables_text.specs.Keys.{content_key, triple_key}
use Rattle.tables_text.specs.Values.{fitting}

-- ---- a number after a dot

module _ {s : List ℕ} {at : ℕ} where
  -- the bytes end, or another byte stands there,
  pub dot_end : length s ≤ at → DotAt s at None
  dot_end h = record { is = rw (drop_of_length-le s {i = at} h); within = zero-le }

  pub dot_other : at < length s → (get_or s at 0 ≡ dot_byte → ⊥) → DotAt s at None
  dot_other h n = record { is = rw (drop-cons s at 0 h, ne_eqb (get_or s at 0) dot_byte n); within = zero-le }

  -- or it is a dot
  pub dot_number_lem : {r : Option Number} → at < length s → get_or s at 0 ≡ dot_byte → NumberAt s (at + 1) r → DotAt s at r
  dot_number_lem {r} h e n = record { is = rw (n.is, add-one at, drop-cons s at 0 h, eq-eqb (get_or s at 0) dot_byte e); within = n.within }

-- ---- the line of a place

module _ {s : List ℕ} {at : ℕ} where
  pub place_no_key : KeyAt s at content_key None → PlaceAt s at None
  unfolding read_line
  place_no_key k = record { is = rw (← k.is); within = zero-le }

  pub place_no_entity : {i : ℕ} → KeyAt s at content_key (Some i) → NumberAt s i None → PlaceAt s at None
  unfolding read_line
  place_no_entity k n = record { is = rw (← k.is, ← n.is); within = zero-le }

  pub place_no_sum : {i : ℕ} {c : Number} → KeyAt s at content_key (Some i) → NumberAt s i (Some c) → DotAt s c.next None → PlaceAt s at None
  unfolding read_line
  place_no_sum k n d = record { is = rw (← k.is, ← n.is, ← d.is); within = zero-le }

  pub place_no_end : {i : ℕ} {c m : Number} → KeyAt s at content_key (Some i) → NumberAt s i (Some c) → DotAt s c.next (Some m)
      → KeyAt s m.next (line_end ∷ []) None
      → PlaceAt s at None
  unfolding read_line
  place_no_end k n d e = record { is = rw (← k.is, ← n.is, ← d.is, ← e.is); within = zero-le }

  pub place_read : {i x : ℕ} {c m : Number} → KeyAt s at content_key (Some i) → NumberAt s i (Some c) → DotAt s c.next (Some m)
      → KeyAt s m.next (line_end ∷ []) (Some x)
      → PlaceAt s at (Some (record { entity = c.v; sum = m.v; next = x }))
  unfolding read_line
  place_read k n d e = record { is = rw (← k.is, ← n.is, ← d.is, ← e.is); within = e.within }

-- ---- the line of a triple

module _ {s : List ℕ} {at : ℕ} where
  pub triple_no_key : KeyAt s at triple_key None → TripleAt s at None
  unfolding read_line
  triple_no_key k = record { is = rw (← k.is); within = zero-le }

  pub triple_no_who : {i : ℕ} → KeyAt s at triple_key (Some i) → NumberAt s i None → TripleAt s at None
  unfolding read_line
  triple_no_who k n = record { is = rw (← k.is, ← n.is); within = zero-le }

  pub triple_no_operation : {i : ℕ} {w : Number} → KeyAt s at triple_key (Some i) → NumberAt s i (Some w) → DotAt s w.next None → TripleAt s at None
  unfolding read_line
  triple_no_operation k n d = record { is = rw (← k.is, ← n.is, ← d.is); within = zero-le }

  pub triple_no_position : {i : ℕ} {w o : Number} → KeyAt s at triple_key (Some i) → NumberAt s i (Some w) → DotAt s w.next (Some o) → DotAt s o.next None
      → TripleAt s at None
  unfolding read_line
  triple_no_position k n d q = record { is = rw (← k.is, ← n.is, ← d.is, ← q.is); within = zero-le }

-- a test of three parts fails where one of them does
and_none : (a : Bool) → (a && false) ≡ false
and_none true = refl
and_none false = refl

and_neither : (a b : Bool) → (a && (b && false)) ≡ false
and_neither true b = and_none b
and_neither false b = refl

and_three : (a b c : Bool) → (a && (b && (c && false))) ≡ false
and_three true b c = and_neither b c
and_three false b c = refl

-- The three parts of a triple are there.
pub record PartsAt (s : List ℕ) (at : ℕ) (w o p : Number) : Type 0 where
  pub keyed : ℕ
  pub key : KeyAt s at triple_key (Some keyed)
  pub who : NumberAt s keyed (Some w)
  pub operation : DotAt s w.next (Some o)
  pub position : DotAt s o.next (Some p)

pub parts_at : {s : List ℕ} {at i : ℕ} {w o p : Number} → KeyAt s at triple_key (Some i) → NumberAt s i (Some w) → DotAt s w.next (Some o)
    → DotAt s o.next (Some p) → PartsAt s at w o p
parts_at {i = i} k n d q = record { keyed = i; key = k; who = n; operation = d; position = q }

-- One of them is too large, or none is: as code asks it.
abbrev pub too_large : ℕ → ℕ → ℕ → Bool
too_large w o p = leb who_weight w || (leb operation_weight o || leb operation_weight p)

pub small : (w o p : ℕ) → too_large w o p ≡ false → (w < who_weight) × (o < operation_weight) × (p < operation_weight)
small w o p e =
    let r : leb operation_weight o || leb operation_weight p ≡ false = neither_r (leb who_weight w) _ e in (
      leb-false who_weight w (neither_l (leb who_weight w) _ e),
      leb-false operation_weight o (neither_l (leb operation_weight o) _ r),
      leb-false operation_weight p (neither_r (leb operation_weight o) _ r),
    )

-- no triple is read where its parts do not fit,
module _ {s : List ℕ} {at : ℕ} {w o p : Number} (a : PartsAt s at w o p) where
  none : fitting (record { who = w.v; operation = o.v; position = p.v }) ≡ false → TripleAt s at None
  unfolding read_line
  none h = record { is = rw (← a.key.is, ← a.who.is, ← a.operation.is, ← a.position.is, h); within = zero-le }

  pub triple_large : too_large w.v o.v p.v ≡ true → TripleAt s at None
  triple_large e =
      none (cases (or_cases (leb who_weight w.v) _ e) (λ h. rw (le-ltb w.v who_weight (leb-true who_weight w.v h)))
      (λ r. cases (or_cases (leb operation_weight o.v) _ r)
      (λ h. rw (le-ltb o.v operation_weight (leb-true operation_weight o.v h)) (and_none (ltb w.v who_weight)))
      (λ h. rw (le-ltb p.v operation_weight (leb-true operation_weight p.v h)) (and_neither (ltb w.v who_weight) (ltb o.v operation_weight)))))

  pub triple_zero : too_large w.v o.v p.v ≡ false → triple_of w.v o.v p.v ≡ 0 → TripleAt s at None
  triple_zero e z =
      none (rw (eq-eqb (w.v + o.v + p.v) 0 (omega arith)) (and_three (ltb w.v who_weight) (ltb o.v operation_weight) (ltb p.v operation_weight)))

  -- and where they do, one is, if LF follows
  module _ (e : too_large w.v o.v p.v ≡ false) (z : triple_of w.v o.v p.v ≡ 0 → ⊥) where
    fits : fitting (record { who = w.v; operation = o.v; position = p.v }) ≡ true
    fits =
        let q = small w.v o.v p.v e in
        rw (
          lt-ltb w.v who_weight q.0,
          lt-ltb o.v operation_weight q.1,
          lt-ltb p.v operation_weight q.2,
          ne_eqb (w.v + o.v + p.v) 0 (λ y. z (omega arith)),
        )

    pub triple_no_end : KeyAt s p.next (line_end ∷ []) None → TripleAt s at None
    unfolding read_line
    triple_no_end k = record { is = rw (← a.key.is, ← a.who.is, ← a.operation.is, ← a.position.is, fits, ← k.is); within = zero-le }

    pub triple_read : {v x : ℕ} → v ≡ triple_of w.v o.v p.v → KeyAt s p.next (line_end ∷ []) (Some x) → TripleAt s at (Some (record { v = v; next = x }))
    unfolding read_line
    triple_read q k =
        record { is = rw (q, ← a.key.is, ← a.who.is, ← a.operation.is, ← a.position.is, fits, ← k.is); within = k.within }
