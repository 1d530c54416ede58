-- The laws of requests in words: words of whole requests are cut in one way only, and requests put behind others are cut after them.
use Rattle.std.specs.Prelude.{List, [], ◌++◌, ◌∷◌, ◌≡◌, refl, ◌%◌, ◌*◌, ◌+◌, ◌<◌, suc, zero, ℕ, drop, get_or, length, take}
use Rattle.std.proofs.Common.{append_assoc, append-nil, ◌∙◌, ap, ap₂, sym, arith, length-append, length-drop, take-append-drop, drop_at, drop-drop}
use Rattle.std.proofs.Common.{length-take-le, take_at}
use Rattle.model.specs.Basics.Together.{together}
use Rattle.model.specs.Request.Words.{request_words}
use Rattle.model.specs.Run.Requests.{AllSixteen, Requests, first_requests, request_count, requests_in}

-- lists one after another, and others behind them
pub together_append : {A : Type 0} (xs ys : List (List A)) → together (xs ++ ys) ≡ together xs ++ together ys
together_append [] ys = refl
together_append (x ∷ xs) ys = ap (λ l. x ++ l) (together_append xs ys) ∙ sym (append_assoc x (together xs) (together ys))

-- requests of sixteen words have so many words
pub together_length : (qs : List (List ℕ)) → AllSixteen qs → length (together qs) ≡ request_words * length qs
together_length [] h = refl
together_length (q ∷ qs) h = omega (arith, length-append q (together qs), h.0, together_length qs h.1)

-- each of them has
pub sixteen_at : (qs : List (List ℕ)) (d : List ℕ) → AllSixteen qs → length d ≡ request_words → (i : ℕ) → length (get_or qs i d) ≡ request_words
sixteen_at [] d h e i = e
sixteen_at (q ∷ qs) d h e zero = h.0
sixteen_at (q ∷ qs) d h e (suc i) = sixteen_at qs d h.1 e i

pub sixteen_append : (ps qs : List (List ℕ)) → AllSixteen ps → AllSixteen qs → AllSixteen (ps ++ qs)
sixteen_append [] qs h k = k
sixteen_append (p ∷ ps) qs h k = (h.0, sixteen_append ps qs h.1 k)

pub sixteen_take : (qs : List (List ℕ)) (i : ℕ) → AllSixteen qs → AllSixteen (take i qs)
sixteen_take [] zero h = tt
sixteen_take [] (suc i) h = tt
sixteen_take (q ∷ qs) zero h = tt
sixteen_take (q ∷ qs) (suc i) h = (h.0, sixteen_take qs i h.1)

-- ---- words cut into requests

-- words that are n requests are cut into n requests
first_words : (n : ℕ) (w : List ℕ) → length w ≡ request_words * n → Requests w (first_requests n w)
unfolding first_requests
first_words zero [] h = record { words = refl; sixteen = tt }
first_words zero (x ∷ w) h = absurd (omega arith)
first_words (suc n) w h =
    let r = first_words n (drop request_words w) (omega (arith, length-drop request_words w)) in record {
      words = sym (take-append-drop request_words w) ∙ ap (λ l. take request_words w ++ l) r.words;
      sixteen = (length-take-le request_words w (omega arith), r.sixteen);
    }

-- and requests are what their words are cut into
first_together : (qs : List (List ℕ)) → AllSixteen qs → first_requests (length qs) (together qs) ≡ qs
unfolding first_requests
first_together [] h = refl
first_together (q ∷ qs) h =
    ap₂ ◌∷◌ (take_at q (together qs) request_words h.0)
    (ap (first_requests (length qs)) (drop_at q (together qs) request_words h.0) ∙ first_together qs h.1)

-- request i of the words is the sixteen that stand behind i requests
pub first_at : (n : ℕ) (w : List ℕ) (i : ℕ) → i < n → get_or (first_requests n w) i [] ≡ take request_words (drop (request_words * i) w)
unfolding first_requests
first_at zero w i h = absurd (omega arith)
first_at (suc n) w zero h = refl
first_at (suc n) w (suc i) h =
    let e : request_words + request_words * i ≡ request_words * suc i = omega arith in
    first_at n (drop request_words w) i (omega arith)
    ∙ ap (take request_words) (drop-drop (request_words * i) request_words w ∙ ap (λ (k : ℕ). drop k w) e)

pub first_length : (n : ℕ) (w : List ℕ) → length (first_requests n w) ≡ n
unfolding first_requests
first_length zero w = refl
first_length (suc n) w = ap suc (first_length n (drop request_words w))

-- Rule 15.1: where the words are those of requests, there are so many of them,
pub requests_count : {w : List ℕ} {qs : List (List ℕ)} → Requests w qs → request_count w ≡ length qs
requests_count {w} {qs} r = omega (arith, ap length r.words, together_length qs r.sixteen)

-- the words are a multiple of sixteen,
pub requests_whole : {w : List ℕ} {qs : List (List ℕ)} → Requests w qs → length w % request_words ≡ 0
requests_whole {w} {qs} r = omega (arith, ap length r.words, together_length qs r.sixteen)

-- and the requests are those that the words are cut into: there are no others.
pub requests_are : {w : List ℕ} {qs : List (List ℕ)} → Requests w qs → qs ≡ requests_in w
requests_are {w} {qs} r = sym (ap₂ first_requests (requests_count r) r.words ∙ first_together qs r.sixteen)

-- Any words that are a multiple of sixteen are requests.
pub requests_in_lem : (w : List ℕ) → length w % request_words ≡ 0 → Requests w (requests_in w)
requests_in_lem w h = first_words (request_count w) w (omega arith)

-- Requests behind requests are requests.
pub requests_append : {v w : List ℕ} {ps qs : List (List ℕ)} → Requests v ps → Requests w qs → Requests (v ++ w) (ps ++ qs)
requests_append {ps = ps} {qs = qs} x y = record {
  words = ap₂ ◌++◌ x.words y.words ∙ sym (together_append ps qs);
  sixteen = sixteen_append ps qs x.sixteen y.sixteen;
}

-- Sixteen words are one request.
pub requests_one : (q : List ℕ) → length q ≡ request_words → Requests q (q ∷ [])
requests_one q h = record { words = sym (append-nil q); sixteen = (h, tt) }
