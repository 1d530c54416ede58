-- How the writer ends: refused for the words, too little room, or written.
use Rattle.std.specs.Prelude.{false, true, List, ◌≡◌, ◌<◌, ◌≤◌, ℕ, length}
use Rattle.std.proofs.Math.Path.{refl}
use borrow.Author.Tests.{eq-eqb, le-leb, lt-leb, ne_eqb}
use Rattle.lines.specs.Onto.{Wrote}
use Rattle.model.specs.Request.Words.{request_of, request_words}
use Rattle.model.specs.Text.Writing.{Writes, has_text, text_of_words, write_answer, write_number}
use Rattle.model.specs.Request.Refusals as refusal

module _ (w room : List ℕ) where
  -- the words are not sixteen
  pub end_size : (length w ≡ request_words → ⊥) → Writes w room refusal.bad_length 0 room
  unfolding write_answer write_number
  end_size h = let e = ne_eqb (length w) request_words h in record { answer = rw e; number = rw e; bytes = refl }

  module _ (l : length w ≡ request_words) where
    -- no text has them
    pub end_textless : has_text (request_of w) ≡ false → Writes w room refusal.bad_request 0 room
    unfolding write_answer write_number
    end_textless f = let e = eq-eqb (length w) request_words l in record { answer = rw (e, f); number = rw (e, f); bytes = refl }

    module _ (t : has_text (request_of w) ≡ true) where
      -- the room is too short for the text
      pub end_short : {n : ℕ} → n ≡ length (text_of_words w) → length room < n → Writes w room refusal.too_short n room
      unfolding write_answer write_number
      end_short m h =
          let e = eq-eqb (length w) request_words l in
          let s = lt-leb (length (text_of_words w)) (length room) (rw m at h) in
          record { answer = rw (e, t, s); number = rw (e, t, m); bytes = refl }

      -- the text was written
      pub end_written : {r : List ℕ} {n : ℕ} → length (text_of_words w) ≤ length room → Wrote (text_of_words w) room r n → Writes w room refusal.accepted n r
      unfolding write_answer write_number
      end_written h x =
          let e = eq-eqb (length w) request_words l in
          let s = le-leb (length (text_of_words w)) (length room) h in
          record { answer = rw (e, t, s); number = rw (e, t, x.many); bytes = x.now_is }
