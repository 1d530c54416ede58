-- What a run keeps while it goes: it begins, it goes on by a request, it ends.
use Rattle.std.specs.Prelude.{List, [], ◌++◌, ◌∷◌, ◌≡◌, refl, ◌*◌, ◌+◌, ◌<◌, ◌≤◌, suc, ℕ, drop, get_or, length, set, take}
use Rattle.std.proofs.Common.{append_assoc, ◌∙◌, ap, ap₂, sym, add-one, arith, length-append, length-drop, drop-cons, length-take-le, take_all}
use Rattle.std.proofs.lemmas.List.{set_at}
use Rattle.model.specs.Request.Step.{after_of, answer_of}
use Rattle.model.specs.Request.Words.{request_words}
use Rattle.model.specs.Run.Requests.{request_count, requests_in}
use Rattle.model.specs.Run.RequestsLaws.{first_at, first_length}
use Rattle.model.specs.Run.Through.{answers_to}
use Rattle.model.proofs.Run.ThroughLaws.{answers_length, answers_next}
use Rattle.model.specs.State.Check.{check}
use Rattle.model.proofs.Theorem.SequenceUnique.{after_words_next}
use Rattle.model.specs.Theorem.Statements.{after_words}
use Rattle.model.proofs.Theorem.Steps.{check_stays}
use Rattle.run.specs.Contract.{AnsweredAll, Going, RunReady}
use Rattle.step.specs.Contract.{Checked, Settled}

pub going_start : (t w room : List ℕ) (c : ℕ) → RunReady t w room c → Going t w room c 0 t room
unfolding after_words answers_to
going_start t w room c k = record { within = omega arith; said = k.said; tables = refl; answers = refl }

module _ {t w room : List ℕ} {c i : ℕ} {r s : List ℕ} (k : RunReady t w room c) (g : Going t w room c i r s) where
  -- the room has its length
  pub going_length : length s ≡ length room
  going_length =
      let n = length-take-le i (requests_in w) (omega (arith, g.within, first_length (request_count w) w)) in
      omega (
        arith,
        ap length g.answers,
        length-append (answers_to t (take i (requests_in w))) (drop i room),
        answers_length t (take i (requests_in w)),
        n,
        length-drop i room,
        g.within,
        k.places,
      )

  module _ (h : i < request_count w) where
    -- another request stands here, whole: the part of the words that is lent to the step
    module _ (at n : ℕ) (begins : at ≡ i * request_words) (whole : n ≡ request_words) (q : List ℕ) (part : q ≡ take n (drop at w)) where
      request_is : q ≡ get_or (requests_in w) i []
      request_is =
          let e : at ≡ request_words * i = omega (arith, begins) in
          part ∙ ap₂ (λ (m k : ℕ). take m (drop k w)) whole e ∙ sym (first_at (request_count w) w i h)

      pub going_checked : Checked r q c
      going_checked = record {
        said = g.said;
        request = ap length part ∙ length-take-le n (drop at w) (omega (arith, length-drop at w, begins, whole, h)) ∙ whole;
      }

      -- Rules 15.3 and 15.4: its answer stands in its place, and the next request finds what it left
      one_more : (n : ℕ) (u : List ℕ) → Settled r q n u → Going t w room c (suc i) u (set s i n)
      one_more n u x =
          let qs = requests_in w in
          let l : i < length qs = omega (arith, h, first_length (request_count w) w) in
          let was : length (answers_to t (take i qs)) ≡ i = answers_length t (take i qs) ∙ length-take-le i qs (omega arith) in
          let a : n ≡ answer_of (after_words t (take i qs)) (get_or qs i []) = x.answer ∙ ap₂ answer_of g.tables request_is in
          let b : u ≡ after_of (after_words t (take i qs)) (get_or qs i []) = x.words ∙ ap₂ after_of g.tables request_is in
          let d : drop i room ≡ get_or room i 0 ∷ drop (suc i) room = drop-cons room i 0 (omega (arith, h, k.places)) in
          let put : set s i n ≡ answers_to t (take i qs) ++ (n ∷ drop (suc i) room) =
          ap (λ (y : List ℕ). set y i n) (g.answers ∙ ap (λ y. answers_to t (take i qs) ++ y) d)
          ∙ set_at (answers_to t (take i qs)) (get_or room i 0) (drop (suc i) room) n i was in
          let more : answers_to t (take (suc i) qs) ≡ answers_to t (take i qs) ++ (n ∷ []) =
          answers_next t qs i l ∙ ap (λ (y : ℕ). answers_to t (take i qs) ++ (y ∷ [])) (sym a) in
          record {
            within = omega (arith, h);
            said = g.said ∙ sym (check_stays r q) ∙ ap check (sym x.words);
            tables = b ∙ sym (after_words_next t qs i l);
            answers = put ∙ sym (ap (λ y. y ++ drop (suc i) room) more ∙ append_assoc (answers_to t (take i qs)) (n ∷ []) (drop (suc i) room));
          }

      pub going_on : (n : ℕ) (u : List ℕ) → Settled r q n u → Going t w room c (i + 1) u (set s i n)
      going_on n u x = rw (add-one i) (one_more n u x)

  -- at the end of the words every request has its answer
  pub going_end : request_count w ≤ i → AnsweredAll t w room r s
  going_end h =
      let n : i ≡ request_count w = omega (arith, g.within, h) in
      let all : take i (requests_in w) ≡ requests_in w = take_all i (requests_in w) (omega (arith, first_length (request_count w) w)) in
      record {
        tables = g.tables ∙ ap (after_words t) all;
        answers = g.answers ∙ ap₂ (λ (y : List (List ℕ)) (m : ℕ). answers_to t y ++ drop m room) all n;
      }
