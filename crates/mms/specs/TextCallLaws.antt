-- Demand 2, the text: what is read and written, and both ways.
use Rattle.std.specs.Prelude.{Bool, false, true, ◌↔◌, ◌≢◌, ◌≡◌, refl, ℕ, T, eqb, leb, length, take}
use mathlib.Core.List.Memᴰ
use mathlib.Core.List.{List, Memᴰ}
use Rattle.std.proofs.Common.{⊎_elim, subst, sym, arith}
use Rattle.mms.specs.AnswerLaws.{read_answers_lem, read_answers}
use Rattle.mms.specs.CallLaws.{read_halves, write_halves}
use Rattle.mms.specs.Calls.{ReadCall, TextWritten, WriteCall, no_in, number_in}
use Rattle.model.specs.Basics.Cases.{cases, lt_or_le}
use Rattle.model.specs.Basics.Choice.{Same, it, other, pick, same}
use Rattle.model.specs.Basics.TestLaws.{is_true}
use Rattle.model.specs.Request.Words.{request_of, request_words}
use Rattle.model.proofs.Text.BothWays.{write_read}
use Rattle.model.specs.Text.Broken.{FirstBad, sorts}
use Rattle.model.proofs.Text.BrokenLaws.{broken_reads, reads_broken}
use Rattle.model.proofs.Text.CallLaws.{gives_reads, gives_short, gives_writes, reads_gives}
use Rattle.model.specs.Text.Given.{Gives, Small}
use Rattle.model.proofs.Text.GivenLaws.{gives_written, has_text_agrees}
use Rattle.model.specs.Text.Reading.{Reads, answer_in, read_answer}
use Rattle.model.specs.Text.Textual.{Textual, Written}
use Rattle.model.specs.Text.Wording.{Lines, Wording, bad_line, lines, read_text, sixteen, text_of}
use Rattle.model.specs.Text.WordingLaws.{whole_there}
use Rattle.model.proofs.Text.WordsLaws.{has_text_says, says_has_text}
use Rattle.model.specs.Text.Writing.{Writes, has_text, text_of_words, write_answer}
use Rattle.model.specs.Request.Refusals as refusal

-- ---- lengths

pub read_length_lem : {s v w : List ℕ} {a : ℕ} → ReadCall s v a w → (no_in a ≡ refusal.bad_length) ↔ (length v ≢ request_words)
unfolding read_answer
read_length_lem {s} {v} {w} {a} x =
    go (eqb (length v) request_words) (same (length v) request_words) (read_text s) (read_halves x).answer
  where
    go : (b : Bool) → Same (length v) request_words b → (l : Lines) → no_in a ≡ pick b (answer_in l) refusal.bad_length
        → (no_in a ≡ refusal.bad_length) ↔ (length v ≢ request_words)
    go true (it h) (lines m y) e = (λ z k. omega arith, λ k. absurd (k h))
    go true (it h) (bad_line n) e = (λ z k. omega arith, λ k. absurd (k h))
    go false (other h) l e = (λ z. h, λ k. e)

pub write_length_lem : {w room r : List ℕ} {b : ℕ} → WriteCall w room b r → (no_in b ≡ refusal.bad_length) ↔ (length w ≢ request_words)
unfolding write_answer
write_length_lem {w} {room} {r} {b} x =
    go (eqb (length w) request_words) (same (length w) request_words) (has_text (request_of w)) (leb (length (text_of_words w)) (length room))
    (write_halves x).answer
  where
    go : (c : Bool) → Same (length w) request_words c → (t f : Bool)
        → no_in b ≡ pick c (pick t (pick f refusal.accepted refusal.too_short) refusal.bad_request) refusal.bad_length
        → (no_in b ≡ refusal.bad_length) ↔ (length w ≢ request_words)
    go true (it h) true true e = (λ z k. omega arith, λ k. absurd (k h))
    go true (it h) true false e = (λ z k. omega arith, λ k. absurd (k h))
    go true (it h) false f e = (λ z k. omega arith, λ k. absurd (k h))
    go false (other h) t f e = (λ z. h, λ k. e)

-- ---- what is read

-- the text of a wording gives its words
wording_gives : (m : Wording) → Written m → Gives (text_of m) (sixteen m)
wording_gives m h = record { wording = m; read = whole_there m h; words = refl }

pub read_text_lem : (m : Wording) → Written m → {v w : List ℕ} {a : ℕ} → length v ≡ request_words → ReadCall (text_of m) v a w
    → (no_in a ≡ refusal.accepted) × (w ≡ sixteen m)
read_text_lem m h l x = let z = gives_reads (wording_gives m h) l (read_halves x) in (z.0, z.2)

-- what was accepted gives its words
accepted_gives : {s v w : List ℕ} {a : ℕ} → ReadCall s v a w → no_in a ≡ refusal.accepted → Gives s w
accepted_gives {s} {v} {w} {a} x e = reads_gives (subst (λ (n : ℕ). Reads s v n (number_in a) w) e (read_halves x))

pub read_only : {s v w : List ℕ} {a : ℕ} → ReadCall s v a w → no_in a ≡ refusal.accepted → (m : Wording) × Written m × (s ≡ text_of m) × (w ≡ sixteen m)
read_only x e =
    let g = accepted_gives x e in
    let z = gives_written g in
    (g.wording, z.0, z.1, sym g.words)

pub read_refuses_lem : {s v w : List ℕ} {a : ℕ} → ReadCall s v a w → no_in a ≡ refusal.not_a_request → FirstBad sorts s (number_in a)
read_refuses_lem {s} {v} {w} {a} x e = (reads_broken (subst (λ (n : ℕ). Reads s v n (number_in a) w) e (read_halves x))).0

pub read_names_lem : {s v w : List ℕ} {a k : ℕ} → FirstBad sorts s k → length v ≡ request_words → ReadCall s v a w
    → (no_in a ≡ refusal.not_a_request) × (number_in a ≡ k)
read_names_lem f h x = let z = broken_reads f h (read_halves x) in (z.0, z.1)

pub others_refused_lem : {s v w : List ℕ} {a : ℕ} → length v ≡ request_words → ReadCall s v a w
    → (no_in a ≡ refusal.not_a_request) ↔ ((m : Wording) → Written m → s ≡ text_of m → ⊥)
others_refused_lem {s} {v} {w} {a} h x = (λ e m k z. both e (reading m k z), λ f. third f (read_answers_lem (read_halves x)))
  where
    -- a text of a request is read
    reading : (m : Wording) → Written m → s ≡ text_of m → no_in a ≡ refusal.accepted
    reading m k z = (read_text_lem m k h (subst (λ (y : List ℕ). ReadCall y v a w) z x)).0

    both : no_in a ≡ refusal.not_a_request → no_in a ≡ refusal.accepted → ⊥
    both e f = omega arith

    -- 0, 1 or 18
    third : ((m : Wording) → Written m → s ≡ text_of m → ⊥) → Memᴰ (no_in a) read_answers → no_in a ≡ refusal.not_a_request
    third f i = ⊎_elim (λ e. let z = read_only x e in absurd (f z.0 z.1 z.2))
        (λ j. ⊎_elim (λ e. absurd ((read_length_lem x).0 e h)) (λ k. ⊎_elim (λ e. e) (λ l. absurd (Memᴰ.not-nil l)) (Memᴰ.cases_cons k))
        (Memᴰ.cases_cons j)) (Memᴰ.cases_cons i)

-- ---- what is written

-- words of 32 bits that have a text are those of their wording
pub words_of_text_lem : (w : List ℕ) → length w ≡ request_words → Small w → Textual (request_of w) → (m : Wording) × Written m × (w ≡ sixteen m)
words_of_text_lem w h s t =
    let g = ((has_text_agrees w h s).to (is_true (has_text (request_of w)) (says_has_text (request_of w) t))).gives in
    (g.wording, (gives_written g).0, sym g.words)

-- words that a text gives are written as that text
given_written : {s w room r : List ℕ} {b : ℕ} → Gives s w → WriteCall w room b r → TextWritten s room b r
given_written {s} {w} {room} {r} {b} g x = record {
  bytes = cases (lt_or_le (length room) (length s)) (λ h. (gives_short g (write_halves x) h).1) (λ h. (gives_writes g (write_halves x) h).1);
  fits = λ h. let z = gives_writes g (write_halves x) h in (z.0, z.2);
  short = λ h. let z = gives_short g (write_halves x) h in (z.0, z.2);
}

pub write_text : (m : Wording) → Written m → {room r : List ℕ} {b : ℕ} → WriteCall (sixteen m) room b r → TextWritten (text_of m) room b r
write_text m h x = given_written (wording_gives m h) x

pub write_refuses_lem : {w room r : List ℕ} {b : ℕ} → length w ≡ request_words → WriteCall w room b r
    → (no_in b ≡ refusal.bad_request) ↔ (Textual (request_of w) → ⊥)
unfolding write_answer
write_refuses_lem {w} {room} {r} {b} h x =
    go (eqb (length w) request_words) (same (length w) request_words) (has_text (request_of w)) refl (leb (length (text_of_words w)) (length room))
    (write_halves x).answer
  where
    go : (c : Bool) → Same (length w) request_words c → (t : Bool) → has_text (request_of w) ≡ t → (f : Bool)
        → no_in b ≡ pick c (pick t (pick f refusal.accepted refusal.too_short) refusal.bad_request) refusal.bad_length
        → (no_in b ≡ refusal.bad_request) ↔ (Textual (request_of w) → ⊥)
    go true y true q true e = (λ z k. omega arith, λ k. absurd (k (has_text_says (request_of w) q)))
    go true y true q false e = (λ z k. omega arith, λ k. absurd (k (has_text_says (request_of w) q)))
    go true y false q f e = (λ z k. absurd (subst T q (is_true (has_text (request_of w)) (says_has_text (request_of w) k))), λ k. e)
    go false (other n) t q f e = absurd (n h)

-- ---- both ways

pub read_written : {s v w room r : List ℕ} {a b : ℕ} → ReadCall s v a w → no_in a ≡ refusal.accepted → WriteCall w room b r → TextWritten s room b r
read_written x e y = given_written (accepted_gives x e) y

pub written_read : {w room r v u : List ℕ} {a b : ℕ} → Small w → WriteCall w room b r → no_in b ≡ refusal.accepted → length v ≡ request_words
    → ReadCall (take (number_in b) r) v a u → (no_in a ≡ refusal.accepted) × (u ≡ w)
written_read {w} {room} {r} {b = b} s y e h x =
    let z = write_read s (subst (λ (n : ℕ). Writes w room n (number_in b) r) e (write_halves y)) h (read_halves x) in
    (z.0, z.2)
