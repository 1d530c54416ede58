-- Reading a key at an index, byte by byte, and the ways in which reading a line ends.
use Rattle.std.specs.Prelude.{Bool, ◌&&◌, false, true, List, [], ◌++◌, ◌∷◌, ◌≡◌, refl, Some, None, Option, eqb, drop, get_or, length}
use Rattle.std.proofs.Common.{◌∙◌, ap, sym, add-one, arith, drop_of_length-le, length-append, length-drop, drop-cons, eq-eqb, ne_eqb}
use Prim.Native.Nat.{◌+◌, ◌-◌, ◌<◌, ◌≤◌, suc, zero-le, ℕ}
use Rattle.lines.specs.LineAt.{KeyAt, LineAt}
use Rattle.lines.specs.NumberAt.{NumberAt}
use Rattle.lines.specs.NumberAtLaws.{byte, low, number_got, number_one}
use Rattle.lines.specs.declared.reading.Number.{Number}
use Rattle.model.specs.Basics.Cases.{cases, lt_or_le}
use Rattle.model.specs.Basics.Choice.{pick}
use Rattle.model.specs.Text.LineLaws.{behind_back, length_line, line_back, numbers}
use Rattle.model.specs.Text.Lines.{behind, line, line_end, read_line}
use Rattle.model.specs.Text.NumberLaws.{length_small, length_step}
use Rattle.model.specs.Text.Numbers.{Read, bad, digits, got, most, nine_byte, number, zero_byte}

-- a key does not stand there, or it does
pub key_nothing : {s : List ℕ} {at : ℕ} {key : List ℕ} → behind key (drop at s) ≡ bad → KeyAt s at key None
key_nothing e = record { is = sym e; within = zero-le }

pub key_at_lem : {s : List ℕ} {at : ℕ} {key : List ℕ} {i : ℕ} → i ≤ length s → behind key (drop at s) ≡ got tt (drop i s) → KeyAt s at key (Some i)
key_at_lem h e = record { is = sym e; within = h }

-- no key is left, and none is wanted
pub key_none : {s : List ℕ} {at : ℕ} → at ≤ length s → KeyAt s at [] (Some at)
key_none h = record { is = refl; within = h }

-- where a key stands, the answer is the index after it
pub key_index : {s : List ℕ} {at : ℕ} {key : List ℕ} {i : ℕ} → at ≤ length s → KeyAt s at key (Some i) → i ≡ at + length key
key_index {s} {at} {key} {i} h k =
    let e : drop at s ≡ key ++ drop i s = behind_back key (drop at s) (drop i s) (sym k.is) in
    let l : length (drop at s) ≡ length key + length (drop i s) = ap length e ∙ length-append key (drop i s) in
    omega (arith, l, length-drop at s, length-drop i s, k.within)

-- and with two bytes of place after it, both are there
pub key_room : {s : List ℕ} {at : ℕ} {key : List ℕ} {i : ℕ} → at ≤ length s → length key + 2 ≤ length s - at → KeyAt s at key (Some i) → i + 1 < length s
key_room h l k = omega (arith, l, key_index h k)

-- there is no place for it
pub key_short : {s : List ℕ} {at : ℕ} {key : List ℕ} → length s - at < length key → KeyAt s at key None
key_short {s} {at} {key} h = key_nothing (go (behind key (drop at s)) refl)
  where
    go : (r : Read (Unit {0})) → behind key (drop at s) ≡ r → r ≡ bad
    go bad e = refl
    go (got t x) e =
        let l : length (drop at s) ≡ length key + length x = ap length (behind_back key (drop at s) x e) ∙ length-append key x in
        absurd (omega (arith, l, length-drop at s))

-- Nothing of a key was compared yet.
pub key_start : (s key : List ℕ) (at : ℕ) → behind key (drop at s) ≡ behind key (drop (at + 0) s)
key_start s key at = let e : at + 0 ≡ at = omega arith in rw e

-- The bytes of a key before the index i were compared with those from `at` on, and all were the same or not: then comes the next byte,
module _ (s key : List ℕ) (at i : ℕ) where
  pub key_turn : (same : Bool) → i < length key → at + i < length s
      → pick same (behind (drop i key) (drop (at + i) s)) bad
      ≡ pick (same && eqb (get_or s (at + i) 0) (get_or key i 0)) (behind (drop (i + 1) key) (drop (at + (i + 1)) s)) bad
  key_turn false h l = refl
  key_turn true h l =
      let e : at + (i + 1) ≡ suc (at + i) = omega arith in
      rw (e, add-one i, drop-cons key i 0 h, drop-cons s (at + i) 0 l)

  -- or there is none, and it is decided
  pub key_end : (same : Bool) → length key ≤ i → pick same (behind (drop i key) (drop (at + i) s)) bad ≡ pick same (got tt (drop (at + i) s)) bad
  key_end same h = rw (drop_of_length-le key {i = i} h)

-- The byte at the index i is LF, or not.
module _ (s : List ℕ) (i : ℕ) where
  pub end_at : i < length s → get_or s i 0 ≡ line_end → KeyAt s i (line_end ∷ []) (Some (i + 1))
  end_at l e = key_at_lem (omega arith) (rw (add-one i, drop-cons s i 0 l, eq-eqb (get_or s i 0) line_end e))

  pub end_other : i < length s → (get_or s i 0 ≡ line_end → ⊥) → KeyAt s i (line_end ∷ []) None
  end_other l n = key_nothing (rw (drop-cons s i 0 l, ne_eqb (get_or s i 0) line_end n))

-- a number has a digit
digits_some : (v : ℕ) → v ≤ most → 1 ≤ length (digits v)
digits_some v h =
    cases (lt_or_le v 10)
    (λ l. omega (arith, length_small v l))
    (λ g. omega (arith, length_step v g (omega arith)))

-- The ways in which reading a line ends: without its key, without a number, without LF, or well.
module _ {s : List ℕ} {at : ℕ} {key : List ℕ} where
  pub line_no_key : KeyAt s at key None → LineAt s at key None
  unfolding read_line
  line_no_key k = record { is = rw (← k.is); within = zero-le }

  pub line_no_number : {i : ℕ} → KeyAt s at key (Some i) → NumberAt s i None → LineAt s at key None
  unfolding read_line
  line_no_number k n = record { is = rw (← k.is, ← n.is); within = zero-le }

  pub line_no_end : {i : ℕ} {n : Number} → KeyAt s at key (Some i) → NumberAt s i (Some n) → KeyAt s n.next (line_end ∷ []) None → LineAt s at key None
  unfolding read_line
  line_no_end k n e = record { is = rw (← k.is, ← n.is, ← e.is); within = zero-le }

  pub line_read : {i x : ℕ} {n : Number} → KeyAt s at key (Some i) → NumberAt s i (Some n) → KeyAt s n.next (line_end ∷ []) (Some x)
      → LineAt s at key (Some (record { v = n.v; next = x }))
  unfolding read_line
  line_read k m e = record { is = rw (← k.is, ← m.is, ← e.is); within = e.within }

  -- a line has a digit and LF after its key, and so place for them
  pub line_short : length s - at < length key + 2 → LineAt s at key None
  line_short h = record { is = go (read_line key number (drop at s)) refl; within = zero-le }
    where
      go : (r : Read ℕ) → read_line key number (drop at s) ≡ r → bad ≡ read_line key number (drop at s)
      go bad e = sym e
      go (got v x) e =
          let b : (v ≤ most) × (drop at s ≡ line key (digits v) ++ x) = line_back numbers key (drop at s) v x e in
          let l : length (drop at s) ≡ length (line key (digits v)) + length x = ap length b.1 ∙ length-append (line key (digits v)) x in
          absurd (omega (arith, l, length_line key (digits v), digits_some v b.0, length-drop at s))

  -- the key was read, and then the rest of the line
  pub line_behind : {i : ℕ} {r : Option Number} → KeyAt s at key (Some i) → LineAt s i [] r → LineAt s at key r
  unfolding read_line
  line_behind k e = record { is = e.is ∙ rw (← k.is); within = e.within }

  -- the number has one digit
  pub line_one : {i : ℕ} → KeyAt s at key (Some i) → i + 1 < length s → zero_byte ≤ byte s i → byte s i ≤ nine_byte → byte s (i + 1) ≡ line_end
      → LineAt s at key (Some (record { v = byte s i - zero_byte; next = i + 2 }))
  line_one {i} k l h g e =
      let n : NumberAt s i (Some (record { v = byte s i - zero_byte; next = i + 1 })) =
      number_got refl (omega arith) (number_one s i l h g (rw e (low line_end (omega arith)))) in
      let t : i + 1 + 1 ≡ i + 2 = omega arith in
      let x : KeyAt s (i + 1) (line_end ∷ []) (Some (i + 2)) = rw t at (end_at s (i + 1) l e) in
      line_read k n x
