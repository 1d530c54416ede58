-- The laws of a run on words: there is one result only, tables that fail the check stay, and a run that is cut in two is its two pieces one after another.
-- (Of any number of pieces speak Run/ThroughLaws and, of the calls, the demands.)
use Rattle.std.specs.Prelude.{Bool, List, ◌++◌, ◌≢◌, ◌≡◌, ◌%◌, ◌<◌, ◌≤◌, ℕ, get_or, take}
use Rattle.std.proofs.Math.Bool.{false, true}
use Rattle.std.proofs.Common.{append_assoc, ◌∙◌, ap₂, arith, take_at}
use Rattle.std.proofs.Math.Path.{ap, refl, sym}
use Rattle.std.proofs.Math.ListN.{get_or-append, drop, length}
use Rattle.model.specs.Basics.Agree.{Agrees, agrees_and, agrees_eq, agrees_le, agrees_not}
use Rattle.model.specs.Basics.Choice.{pick}
use Rattle.model.specs.Basics.TestLaws.{pick_false, pick_true}
use Rattle.model.specs.Request.Words.{request_words}
use Rattle.model.specs.Run.Requests.{request_count, requests_in}
use Rattle.model.specs.Run.RequestsLaws.{requests_append, requests_are, requests_count, requests_in_lem, requests_whole}
use Rattle.model.specs.Run.Run.{Answers, Run, Sizes, run_answer, run_room, run_tables, sizes}
use Rattle.model.specs.Run.Through.{answers_to}
use Rattle.model.proofs.Run.ThroughLaws.{answers_length, through_append, through_are, through_length, through_refused, through_steps}
use Rattle.model.specs.State.Check.{check}
use Rattle.model.specs.Tables.Layout.{word_count}
use Rattle.model.specs.Theorem.Statements.{after_words}
use Rattle.model.specs.Request.Refusals as refusal

-- Rule 15.2: the test of the sizes is their statement.
pub sizes_agrees : (t w room : List ℕ) → Agrees (sizes t w room) (Sizes t w room)
unfolding sizes
sizes_agrees t w room =
    let z = agrees_and (agrees_eq (length t) word_count) (agrees_and (agrees_eq (length w % request_words) 0) (agrees_le (request_count w) (length room))) in
    record {
      to = λ h. let p = z.to h in record { tables = p.0; multiple = p.1.0; places = p.1.1 };
      from = λ p. z.from (p.tables, (p.multiple, p.places));
    }

module _ (t w room : List ℕ) where
  -- a room with the answers at its front
  placed : List ℕ
  placed = answers_to t (requests_in w) ++ drop (request_count w) room

  answered_in : Sizes t w room → Answers t w room (after_words t (requests_in w)) placed
  unfolding placed
  answered_in z =
      let r = requests_in_lem w z.multiple in
      let n : request_count w ≡ length (answers_to t (requests_in w)) = requests_count r ∙ sym (answers_length t (requests_in w)) in record {
        requests = requests_in w;
        parts = r;
        answers = answers_to t (requests_in w);
        through = through_steps t (requests_in w);
        places = ap (λ (k : ℕ). answers_to t (requests_in w) ++ drop k room) n;
      }

  -- what is computed, where the sizes fit and where they do not
  pub run_done_lem : Sizes t w room
      → (run_answer t w room ≡ refusal.accepted) × (run_tables t w room ≡ after_words t (requests_in w))
      × (run_room t w room ≡ answers_to t (requests_in w) ++ drop (request_count w) room)
  unfolding run_answer run_tables run_room
  run_done_lem z =
      let h = (sizes_agrees t w room).from z in (
        pick_true (sizes t w room) refusal.accepted refusal.bad_length h,
        pick_true (sizes t w room) (after_words t (requests_in w)) t h,
        pick_true (sizes t w room) (answers_to t (requests_in w) ++ drop (request_count w) room) room h,
      )

  pub run_other : (Sizes t w room → ⊥) → (run_answer t w room ≡ refusal.bad_length) × (run_tables t w room ≡ t) × (run_room t w room ≡ room)
  unfolding run_answer run_tables run_room
  run_other n =
      let h = (agrees_not (sizes_agrees t w room)).from n in (
        pick_false (sizes t w room) refusal.accepted refusal.bad_length h,
        pick_false (sizes t w room) (after_words t (requests_in w)) t h,
        pick_false (sizes t w room) (answers_to t (requests_in w) ++ drop (request_count w) room) room h,
      )

  -- Rule 15: what is computed is a run,
  pub run_computed : Run t w room (run_answer t w room) (run_tables t w room) (run_room t w room)
  unfolding run_answer run_tables run_room placed
  run_computed = go (sizes t w room) (sizes_agrees t w room)
    where
      go : (b : Bool) → Agrees b (Sizes t w room)
          → Run t w room (pick b refusal.accepted refusal.bad_length) (pick b (after_words t (requests_in w)) t) (pick b placed room)
      go true a = record { refused = λ n. absurd (n (a.to tt)); accepted = λ z. refl; answered = answered_in }
      go false a = record { refused = λ n. (refl, refl, refl); accepted = λ z. absurd (a.from z); answered = λ z. absurd (a.from z) }

-- the answers of a run are settled, and so is what it leaves
answers_are : {t w room r s : List ℕ} → Answers t w room r s
    → (r ≡ after_words t (requests_in w)) × (s ≡ answers_to t (requests_in w) ++ drop (request_count w) room)
answers_are {t} {w} {room} x =
    let q = requests_are x.parts in
    let z = through_are x.through in
    let n : length x.answers ≡ request_count w = through_length x.through ∙ sym (requests_count x.parts) in (
      z.1 ∙ ap (after_words t) q,
      x.places ∙ ap₂ (λ (l : List ℕ) (k : ℕ). l ++ drop k room) (z.0 ∙ ap (answers_to t) q) n,
    )

-- and no other is.
pub run_unique : {t w room r s u v : List ℕ} {a b : ℕ} → Run t w room a r s → Run t w room b u v → (a ≡ b) × (r ≡ u) × (s ≡ v)
run_unique {t} {w} {room} {r} {s} {u} {v} {a} {b} x y = go (sizes t w room) (sizes_agrees t w room)
  where
    go : (c : Bool) → Agrees c (Sizes t w room) → (a ≡ b) × (r ≡ u) × (s ≡ v)
    go true c =
        let z = c.to tt in
        let p = answers_are (x.answered z) in
        let q = answers_are (y.answered z) in
        (x.accepted z ∙ sym (y.accepted z), p.0 ∙ sym q.0, p.1 ∙ sym q.1)
    go false c =
        let p = x.refused (λ z. c.from z) in
        let q = y.refused (λ z. c.from z) in
        (p.0 ∙ sym q.0, p.1 ∙ sym q.1, p.2 ∙ sym q.2)

module _ {t w room r s : List ℕ} {a : ℕ} (x : Run t w room a r s) where
  -- A run that is accepted had the sizes that it asks for.
  pub run_sized : a ≡ refusal.accepted → Sizes t w room
  run_sized e = go (sizes t w room) (sizes_agrees t w room)
    where
      go : (c : Bool) → Agrees c (Sizes t w room) → Sizes t w room
      go true c = c.to tt
      go false c = let p = x.refused (λ z. c.from z) in absurd (omega (arith, p.0))

  pub run_refused_lem : a ≢ refusal.accepted → (a ≡ refusal.bad_length) × (r ≡ t) × (s ≡ room)
  run_refused_lem n = x.refused (λ z. n (x.accepted z))

  -- Rule 15.4: tables that fail the check stay, and every request is answered with the check's number.
  pub run_unchecked : a ≡ refusal.accepted → check t ≢ refusal.accepted → (r ≡ t) × ((i : ℕ) → i < request_count w → get_or s i 0 ≡ check t)
  run_unchecked e n =
      let k = x.answered (run_sized e) in
      let z = through_refused k.through k.parts.sixteen n in
      let c = requests_count k.parts in
      (z.0, λ i h. place i (omega arith) ∙ z.1 i (omega arith))
    where
      k : Answers t w room r s
      k = x.answered (run_sized e)

      place : (i : ℕ) → i < length k.requests → get_or s i 0 ≡ get_or k.answers i 0
      place i h = ap (λ (l : List ℕ). get_or l i 0) k.places
          ∙ get_or-append k.answers (drop (length k.answers) room) 0 i (omega (arith, through_length k.through))

-- Rule 15.5: the run of v, then the run of w from what the first left, and the run of all, each in a room of its own.
pub run_cut : {t v w room room₁ room₂ r s r₁ s₁ r₂ s₂ : List ℕ} {a b c : ℕ} → Run t v room₁ a r₁ s₁ → a ≡ refusal.accepted → Run r₁ w room₂ b r₂ s₂
    → b ≡ refusal.accepted → Run t (v ++ w) room c r s → request_count (v ++ w) ≤ length room
    → (c ≡ refusal.accepted) × (r ≡ r₂) × (s ≡ take (request_count v) s₁ ++ (take (request_count w) s₂ ++ drop (request_count (v ++ w)) room))
run_cut {t} {v} {w} {room} {s₁ = s₁} {r₂ = r₂} {s₂ = s₂} x e y f z h =
    let p = x.answered (run_sized x e) in
    let q = y.answered (run_sized y f) in
    let u = requests_append p.parts q.parts in
    let k : Sizes t (v ++ w) room = record { tables = (run_sized x e).tables; multiple = requests_whole u; places = h } in
    let m : length (p.answers ++ q.answers) ≡ request_count (v ++ w) =
    through_length (through_append p.through q.through) ∙ sym (requests_count u) in
    let g : Answers t (v ++ w) room r₂ ((p.answers ++ q.answers) ++ drop (request_count (v ++ w)) room) = record {
      requests = p.requests ++ q.requests;
      parts = u;
      answers = p.answers ++ q.answers;
      through = through_append p.through q.through;
      places = ap (λ (n : ℕ). (p.answers ++ q.answers) ++ drop n room) (sym m);
    } in
    let l = answers_are g in
    let o = answers_are (z.answered k) in
    let first : take (request_count v) s₁ ≡ p.answers =
    ap (take (request_count v)) p.places ∙ take_at p.answers _ (request_count v) (through_length p.through ∙ sym (requests_count p.parts)) in
    let second : take (request_count w) s₂ ≡ q.answers =
    ap (take (request_count w)) q.places ∙ take_at q.answers _ (request_count w) (through_length q.through ∙ sym (requests_count q.parts)) in (
      z.accepted k,
      o.0 ∙ sym l.0,
      o.1 ∙ sym l.1 ∙ append_assoc p.answers q.answers (drop (request_count (v ++ w)) room)
          ∙ ap₂ (λ (i j : List ℕ). i ++ (j ++ drop (request_count (v ++ w)) room)) (sym first) (sym second),
    )
