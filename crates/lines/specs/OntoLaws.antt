-- The laws of bytes written into a room: one write after another is one write.
use Rattle.std.specs.Prelude.{List, [], ◌++◌, ◌∷◌, ◌≡◌, refl, ◌+◌, ◌-◌, ◌<◌, ◌≤◌, suc, ℕ, drop, get_or, length, set, take}
use Rattle.std.proofs.Common.{append_assoc, append-nil, ◌∙◌, sym, add-one, arith, drop_of_length-le, length-append, length-drop, drop_at, drop-cons}
use Rattle.std.proofs.Common.{drop-drop, length-take-le, take_all, take_at, take-suc}
use Rattle.std.proofs.lemmas.List.{set_at}
use Rattle.lines.specs.Onto.{Puts, Wrote, onto}

-- bytes of which there are none
pub empty : (s : List ℕ) → length s ≡ 0 → s ≡ []
empty [] h = refl
empty (b ∷ s) h = absurd (omega arith)

-- one byte more after what was written
onto_snoc : (s d : List ℕ) (b n : ℕ) → n ≡ length s → n < length d → set (onto s d) n b ≡ onto (s ++ (b ∷ [])) d
onto_snoc s d b n e h =
    rw (
      e,
      drop-cons d (length s) 0 (omega arith),
      set_at s _ _ b (length s) refl,
      length-append s (b ∷ []),
      add-one,
      append_assoc s (b ∷ []) (drop (suc (length s)) d),
    )

length_onto : (s d : List ℕ) → length s ≤ length d → length (onto s d) ≡ length d
length_onto s d h = rw (length-append, length-drop) (omega arith)

-- more is written after it, in the part of the room that starts there
onto_behind : (s t d : List ℕ) (n : ℕ) → n ≡ length s → take n (onto s d) ++ onto t (drop n (onto s d)) ≡ onto (s ++ t) d
onto_behind s t d n e =
    rw (e, take_at s _ (length s) refl, drop_at s _ (length s) refl, drop-drop, length-append s t) (sym (append_assoc s t (drop (length s + length t) d)))

-- a turn of the loop that writes src byte by byte
pub onto_turn : (src d : List ℕ) (i : ℕ) → i < length src → length src ≤ length d → set (onto (take i src) d) i (get_or src i 0) ≡ onto (take (i + 1) src) d
onto_turn src d i h l =
    let e : length (take i src) ≡ i = length-take-le i src (omega arith) in
    rw (add-one, take-suc src i 0 h) (onto_snoc (take i src) d (get_or src i 0) i (sym e) (omega arith))

-- ---- the part of a room that starts at an index, in the form in which it is lent

-- it is all that stands from there on
pub part_is : (xs : List ℕ) (a : ℕ) → take (length xs - a) (drop a xs) ≡ drop a xs
part_is xs a = take_all (length xs - a) (drop a xs) (omega (arith, length-drop a xs))

-- and as long
pub length_part : (xs : List ℕ) (a : ℕ) → length (take (length xs - a) (drop a xs)) ≡ length xs - a
length_part xs a = rw (part_is xs a) (length-drop a xs)

-- nothing stands after it
part_last : (xs : List ℕ) (a : ℕ) → drop (length xs - a) (drop a xs) ≡ []
part_last xs a = drop_of_length-le (drop a xs) {i = length xs - a} (omega (arith, length-drop a xs))

-- ---- what was written

-- nothing was written
pub wrote_none : (d : List ℕ) → Wrote [] d d 0
wrote_none d = record { many = refl; now_is = refl }

-- one byte more
pub wrote_byte : {s d xs : List ℕ} {a : ℕ} (b : ℕ) → Wrote s d xs a → a < length d → Wrote (s ++ (b ∷ [])) d (set xs a b) (a + 1)
wrote_byte {s} {d} {xs} {a} b w h =
    record {
      many = rw (length-append s (b ∷ []), w.many);
      now_is = rw w.now_is (onto_snoc s d b a w.many h);
    }

-- t is written after s, in the part of the room that starts there
pub wrote_behind : {s t d xs ys : List ℕ} {a r : ℕ}
    → Wrote s d xs a → Wrote t (take (length xs - a) (drop a xs)) ys r
    → Wrote (s ++ t) d (take a xs ++ (ys ++ drop (length xs - a) (drop a xs))) (a + r)
wrote_behind {s} {t} {d} {xs} {ys} {a} {r} w v =
    let e : ys ≡ onto t (drop a xs) = v.now_is ∙ rw (part_is xs a) in
    record {
      many = rw (length-append s t, w.many, v.many);
      now_is = rw (part_last xs a, append-nil, e, w.now_is) (onto_behind s t d a w.many);
    }

-- the room is as long as it was
pub wrote_length : {s d xs : List ℕ} {a : ℕ} → Wrote s d xs a → a ≤ length d → length xs ≡ length d
wrote_length {s} {d} w h = rw w.now_is (length_onto s d (omega (arith, w.many)))

-- a write into the part that starts at an index is a write at that index
pub puts : {s d ys : List ℕ} {at n : ℕ}
    → Wrote s (take (length d - at) (drop at d)) ys n → Puts s d at (take at d ++ (ys ++ drop (length d - at) (drop at d))) (at + n)
puts {s} {d} {ys} {at} {n} w =
    let e : ys ≡ onto s (drop at d) = w.now_is ∙ rw (part_is d at) in
    record { many = rw w.many; now_is = rw (part_last d at, append-nil, e) }

-- there is room at the index after s where the room had enough for both
pub puts_room : {s d e : List ℕ} {a : ℕ} (t : List ℕ) → Wrote s d e a → length s + length t ≤ length d → a + length t ≤ length e
puts_room t w h = omega (arith, w.many, wrote_length w (omega (arith, w.many)))

-- a write at the index after what was written before
pub wrote_puts : {s t d e f : List ℕ} {a r : ℕ} → Wrote s d e a → Puts t e a f r → Wrote (s ++ t) d f r
wrote_puts {s} {t} {d} {e} {f} {a} {r} w p =
    record {
      many = rw (p.many, w.many, length-append s t);
      now_is = p.now_is ∙ rw w.now_is (onto_behind s t d a w.many);
    }
