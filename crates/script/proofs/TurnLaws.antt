-- A turn, from what the reader of seven lines answers.
use Rattle.std.specs.Prelude.{List, ◌≡◌, refl, Ok, Err, ◌-◌, ℕ, drop, length}
use Rattle.std.proofs.Common.{◌∙◌, sym, arith}
use Rattle.model.specs.Request.Step.{after_of}
use Rattle.model.specs.Script.Reports.{report, unread}
use Rattle.model.specs.Text.Reading.{words_in}
use Rattle.model.specs.Text.Wording.{Lines, bad_line, lines, read_seven}
use Rattle.request_reader.specs.Seven.{SevenAt, seven_of}
use Rattle.request_reader.specs.declared.BadLine.{BadLine}
use Rattle.script.specs.Reported.{in_code}
use Rattle.script.specs.Turn.{SettledTo, Turns, left_by, turned_by}
use Rattle.script.specs.declared.turns.Place.{Place}
use Rattle.script.specs.declared.turns.Turned.{Turned}

next_turn : (t w v : List ℕ) (p : Place) (n : ℕ) (x : Lines) (i : ℕ) → Ok i ≡ seven_of n x → v ≡ words_in x w
    → (turned_by t n p x ≡ record { place = record { at = i; line = 0 }; report = in_code (report t v) }) × (left_by t x ≡ after_of t v)
next_turn t w v p n (lines m y) i e g = let a : i ≡ n - length y = cc in rw (g, a) (refl, refl)
next_turn t w v p n (bad_line k) i e g = let z : ◌≡◌ {A = ℕ} 0 1 = cc in absurd (omega arith)

bad_turn : (t : List ℕ) (p : Place) (n : ℕ) (x : Lines) (k : BadLine) → Err k ≡ seven_of n x
    → (turned_by t n p x ≡ record { place = record { at = p.at; line = k.0 }; report = in_code unread }) × (left_by t x ≡ t)
bad_turn t p n (lines m y) k e = let z : ◌≡◌ {A = ℕ} 0 1 = cc in absurd (omega arith)
bad_turn t p n (bad_line j) k e = let a : k ≡ record { 0 = j } = cc in rw a (refl, refl)

module _ (t : List ℕ) (p : Place) {s w v : List ℕ} {r : Turned} where
  -- a request was read, up to the index i, and its words are v
  pub turn_next : {i : ℕ} {u : List ℕ} → SevenAt s p.at w v (Ok i) → SettledTo t v i r u → Turns t s p r u
  turn_next {i} f x =
      let z = next_turn t w v p (length s) (read_seven (drop p.at s)) i f.answer f.words in
      record { turned = x.turned ∙ sym z.0; left = x.left ∙ sym z.1 }

  -- no request was read, and line k is the first that is bad or missing
  pub turn_bad : {k : BadLine} → SevenAt s p.at w v (Err k) → r ≡ record { place = record { at = p.at; line = k.0 }; report = in_code unread }
      → Turns t s p r t
  turn_bad {k} f e =
      let z = bad_turn t p (length s) (read_seven (drop p.at s)) k f.answer in
      record { turned = e ∙ sym z.0; left = sym z.1 }
