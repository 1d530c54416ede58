-- The laws of bytes written at an index of a room: one write after another is one write.
use Rattle.std.specs.Prelude.{List, [], ◌++◌, ◌∷◌, ◌≡◌, ◌+◌, ◌<◌, ◌≤◌, ℕ, drop, length, set, take}
use Rattle.std.proofs.Common.{append_assoc, ◌∙◌, sym, arith, length-append, take-append-drop, drop-drop, length-take-le}
use Rattle.lines.specs.Onto.{Puts, Wrote}
use Rattle.lines.specs.OntoLaws.{wrote_byte, wrote_length, wrote_puts}

-- what stands before the index counts as written
front : (d : List ℕ) (at : ℕ) → at ≤ length d → Wrote (take at d) d d at
front d at h =
    let e : length (take at d) ≡ at = length-take-le at d h in
    record { many = sym e; now_is = rw e (sym (take-append-drop at d)) }

-- and then the two ways of saying what was written are one
puts_wrote : {s d e : List ℕ} {at r : ℕ} → at ≤ length d → Puts s d at e r → Wrote (take at d ++ s) d e r
puts_wrote {s} {d} {e} {at} h p = wrote_puts (front d at h) p

wrote_back : {s d e : List ℕ} {at r : ℕ} → at ≤ length d → Wrote (take at d ++ s) d e r → Puts s d at e r
wrote_back {s} {d} {e} {at} {r} h w =
    let l : length (take at d) ≡ at = length-take-le at d h in
    record {
      many = w.many ∙ rw (length-append (take at d) s, l);
      now_is = w.now_is ∙ rw (length-append (take at d) s, l, drop-drop (length s) at d) (append_assoc (take at d) s (drop (at + length s) d));
    }

-- nothing is written
pub puts_none : (d : List ℕ) (at : ℕ) → Puts [] d at d at
puts_none d at = record { many = omega arith; now_is = sym (take-append-drop at d) }

-- one byte
pub puts_byte : (d : List ℕ) (at b : ℕ) → at < length d → Puts (b ∷ []) d at (set d at b) (at + 1)
puts_byte d at b h = wrote_back (omega arith) (wrote_byte b (front d at (omega arith)) h)

-- t is written directly after s
pub puts_puts : {s t d e f : List ℕ} {at a r : ℕ} → at ≤ length d → Puts s d at e a → Puts t e a f r → Puts (s ++ t) d at f r
puts_puts {s} {t} {d} {e} {f} {at} {a} {r} h p q =
    let w : Wrote ((take at d ++ s) ++ t) d f r = wrote_puts (puts_wrote h p) q in
    wrote_back h (rw (append_assoc (take at d) s t) at w)

-- the room is as long as it was
pub puts_length : {s d e : List ℕ} {at r : ℕ} → Puts s d at e r → at + length s ≤ length d → length e ≡ length d
puts_length p h = wrote_length (puts_wrote (omega arith) p) (omega (arith, p.many))

-- there is room for t after s where there was enough for both
pub room_after_lem : {s d e : List ℕ} {at a : ℕ} (t : List ℕ) → Puts s d at e a → at + (length s + length t) ≤ length d → a + length t ≤ length e
room_after_lem t p h = omega (arith, p.many, puts_length p (omega arith))

-- ---- s ++ t is to be written, and there is room for it: then there is room for s,
pub room_first : (s t : List ℕ) (at : ℕ) {n : ℕ} → at + length (s ++ t) ≤ n → at + length s ≤ n
room_first s t at h = omega (arith, length-append s t)

-- after s there is room for t,
pub room_next : {s d e : List ℕ} {at a : ℕ} (t : List ℕ) → at + length (s ++ t) ≤ length d → Puts s d at e a → a + length t ≤ length e
room_next {s} t h p = room_after_lem t p (omega (arith, length-append s t))

-- and after t all is written
pub puts_both : {s t d e f : List ℕ} {at a r : ℕ} → at + length (s ++ t) ≤ length d → Puts s d at e a → Puts t e a f r → Puts (s ++ t) d at f r
puts_both h p q = puts_puts (omega arith) p q

-- what is written at the front
pub puts_wrote_front : {s d e : List ℕ} {r : ℕ} → Puts s d 0 e r → Wrote s d e r
puts_wrote_front p = record { many = p.many ∙ omega arith; now_is = p.now_is }
