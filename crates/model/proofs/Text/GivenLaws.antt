-- A text gives the words whose text it is, and no others: the writer's test says exactly which words have a text.
use Rattle.std.specs.Prelude.{true, List, [], ◌++◌, ◌∷◌, ◌≡◌, ◌≤◌, suc, zero, ℕ, length, take}
use Rattle.std.proofs.Common.{◌∙◌, ap, subst, sym, arith, length-take-le}
use Rattle.model.specs.Basics.Agree.{Agrees}
use Rattle.model.specs.Basics.TestLaws.{holds_true, is_true}
use Rattle.model.specs.List.Listing.{entry}
use Rattle.model.specs.Request.Words.{Reference, name_count, names, reference_at, request_of, request_words}
use Rattle.model.specs.Text.Given.{Gives, HasText, Small}
use Rattle.model.specs.Text.Numbers.{most}
use Rattle.model.specs.Text.Textual.{AllFit, Textual, Written}
use Rattle.model.specs.Text.Wording.{Wording, lines, sixteen, text_of, wording_of}
use Rattle.model.specs.Text.WordingLaws.{whole_back, whole_there}
use Rattle.model.proofs.Text.WordsLaws.{has_text_says, sixteen_has_text, sixteen_length, sixteen_wording, wording_sixteen}
use Rattle.model.specs.Text.Writing.{has_text, text_of_words}

-- ---- words of 32 bits

-- All words of a list are of 32 bits: one by one, and at each place.
pub fit_small : (l : List ℕ) → AllFit l → Small l
fit_small [] f i = omega arith
fit_small (x ∷ l) f zero = f.0
fit_small (x ∷ l) f (suc i) = fit_small l f.1 i

pub small_fit : (l : List ℕ) → Small l → AllFit l
small_fit [] s = tt
small_fit (x ∷ l) s = (s 0, small_fit l (λ i. s (suc i)))

fit_take : (n : ℕ) (l : List ℕ) → AllFit l → AllFit (take n l)
fit_take zero l f = tt
fit_take (suc n) [] f = tt
fit_take (suc n) (x ∷ l) f = (f.0, fit_take n l f.1)

fit_append : (l r : List ℕ) → AllFit l → AllFit r → AllFit (l ++ r)
fit_append [] r f g = g
fit_append (x ∷ l) r f g = (f.0, fit_append l r f.1 g)

-- the five words of a reference
entry_fit : (r : List ℕ) → (length r ≤ name_count) × AllFit r → AllFit (entry r)
entry_fit r ok = let s : Small r = fit_small r ok.1 in (omega (arith, ok.0), (s 0, (s 1, (s 2, (s 3, tt)))))

-- the sixteen words of a wording that is written
written_small : (m : Wording) → Written m → Small (sixteen m)
unfolding sixteen
written_small m ok =
    let x : List ℕ = m.a ∷ m.b ∷ m.c ∷ 0 ∷ [] in
    let f : AllFit x = (ok.a, (ok.b, (ok.c, (omega arith, tt)))) in
    let g : AllFit (entry m.second ++ x) = fit_append (entry m.second) x (entry_fit m.second ok.second) f in
    fit_small (sixteen m) (ok.user, (ok.operation, fit_append (entry m.first) (entry m.second ++ x) (entry_fit m.first ok.first) g))

-- A reference that says at most four has no more names.
pub names_few : (r : Reference) → r.length ≤ name_count → length (names r) ≤ name_count
unfolding names
names_few r h = omega (arith, length-take-le r.length (r.name 0 ∷ r.name 1 ∷ r.name 2 ∷ r.name 3 ∷ []) h)

-- the names of such a reference, each of 32 bits
names_fit_lem : (r : Reference) → r.name 0 ≤ most → r.name 1 ≤ most → r.name 2 ≤ most → r.name 3 ≤ most → AllFit (names r)
unfolding names
names_fit_lem r a b c d = fit_take r.length (r.name 0 ∷ r.name 1 ∷ r.name 2 ∷ r.name 3 ∷ []) (a, (b, (c, (d, tt))))

-- the wording of small words that have a text
small_written : (w : List ℕ) → Small w → has_text (request_of w) ≡ true → Written (wording_of (request_of w))
unfolding request_of reference_at
small_written w s h =
    let t : Textual (request_of w) = has_text_says (request_of w) h in
    record {
      user = s 0;
      operation = s 1;
      first = (names_few (reference_at w 2) t.first_few, names_fit_lem (reference_at w 2) (s 3) (s 4) (s 5) (s 6));
      second = (names_few (reference_at w 7) t.second_few, names_fit_lem (reference_at w 7) (s 8) (s 9) (s 10) (s 11));
      a = s 12;
      b = s 13;
      c = s 14;
    }

-- ---- what a text gives

-- What a text that is read has: a wording that is written, and the bytes that are written of it.
pub gives_written : {s w : List ℕ} (g : Gives s w) → Written g.wording × (s ≡ text_of g.wording)
gives_written {s} g = whole_back s g.wording [] g.read

-- the wording of words that a text gives is the text's
gives_wording : {s w : List ℕ} (g : Gives s w) → wording_of (request_of w) ≡ g.wording
gives_wording g =
    let ok : Written g.wording = (gives_written g).0 in
    ap (λ (v : List ℕ). wording_of (request_of v)) (sym g.words) ∙ wording_sixteen g.wording ok.first.0 ok.second.0

-- Words that a text gives are sixteen,
pub gives_length : {s w : List ℕ} → Gives s w → length w ≡ request_words
gives_length g = ap length (sym g.words) ∙ sixteen_length g.wording

-- of 32 bits,
pub gives_small : {s w : List ℕ} → Gives s w → Small w
gives_small g = subst Small g.words (written_small g.wording (gives_written g).0)

-- they pass the writer's test,
pub gives_has_text : {s w : List ℕ} → Gives s w → has_text (request_of w) ≡ true
gives_has_text g =
    let ok : Written g.wording = (gives_written g).0 in
    ap (λ (v : List ℕ). has_text (request_of v)) (sym g.words) ∙ sixteen_has_text g.wording ok.first.0 ok.second.0

-- and the text is the one that is written of them.
pub gives_text : {s w : List ℕ} → Gives s w → s ≡ text_of_words w
gives_text g = (gives_written g).1 ∙ ap text_of (sym (gives_wording g))

-- So a text gives one list of words,
pub gives_unique : {s w v : List ℕ} → Gives s w → Gives s v → w ≡ v
gives_unique g h =
    let e : lines g.wording [] ≡ lines h.wording [] = sym g.read ∙ h.read in
    let m : g.wording ≡ h.wording = cc in
    sym g.words ∙ ap sixteen m ∙ h.words

-- and words are given by one text.
pub gives_one : {s r w : List ℕ} → Gives s w → Gives r w → s ≡ r
gives_one g h = gives_text g ∙ sym (gives_text h)

-- Sixteen words of 32 bits that pass the writer's test are given by the text that is written of them.
pub gives_own : {w : List ℕ} → length w ≡ request_words → Small w → has_text (request_of w) ≡ true → Gives (text_of_words w) w
gives_own {w} h s t = record {
  wording = wording_of (request_of w);
  read = whole_there (wording_of (request_of w)) (small_written w s t);
  words = sixteen_wording w h t;
}

-- Rule 11.3: the writer's test says of sixteen words of 32 bits exactly whether they have a text.
pub has_text_agrees : (w : List ℕ) → length w ≡ request_words → Small w → Agrees (has_text (request_of w)) (HasText w)
has_text_agrees w h s = record {
  to = λ t. record { text = text_of_words w; gives = gives_own h s (holds_true (has_text (request_of w)) t) };
  from = λ x. is_true (has_text (request_of w)) (gives_has_text x.gives);
}
