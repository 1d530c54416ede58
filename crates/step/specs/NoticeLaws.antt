-- Rule 8.2: what the step stores of a refusal is its notice; and what an operation answers and does, with that notice, is what the step promises.
use Rattle.std.specs.Prelude.{Bool, false, true, List, ◌≢◌, ◌≡◌, refl, ◌≤◌, suc, zero, ℕ, eqb, ltb}
use Rattle.std.proofs.Common.{◌∙◌, ap, sym, arith, eq-eqb, ne_eqb}
use Rattle.ladder.specs.Contract.{Judged, Passed, PastRequester, Stepped, acted}
use Rattle.laws.specs.Bools.{clash}
use Rattle.model.specs.Basics.Choice.{Below, below, over, under}
use Rattle.model.specs.Effect.Notice.{missed_more, notice, noticing}
use Rattle.model.specs.Request.After.{noticed_op}
use Rattle.model.proofs.Request.AfterLaws.{after_accepted, after_noticed}
use Rattle.model.specs.Request.Ladder.{answer, applies}
use Rattle.model.specs.Request.LadderLaws.{answer_is}
use Rattle.model.specs.Request.Refusals as refusal
use Rattle.model.specs.Request.Words.{Request, request_of}
use Rattle.model.specs.Tables.Edits.{◌and◌, on_user, user_word, written}
use Rattle.model.specs.Tables.Layout.{tables_of}
use Rattle.model.specs.Tables.StoreLaws.{user_alike, user_twice}
use Rattle.model.specs.Tables.Words.{Tables, UserWord, authorised, clearance, current, device, first_noticed, held, held_op, missed, missed_most, present}
use Rattle.model.specs.Tables.Words.{spare}

module _ (d : Tables) (u n o m : ℕ) (h : m ≡ missed_more (ltb (d.user u missed) missed_most) (d.user u missed)) where
  -- something was held: only the number of missed ones grows
  pub notice_kept_lem : d.user u held ≢ 0 → on_user u (user_word missed m) d ≡ notice u n o d
  notice_kept_lem k = user_alike u (user_word missed m) (noticing u n o d) d same
    where
      e : eqb (d.user u held) 0 ≡ false
      e = ne_eqb (d.user u held) 0 k

      same : (f : UserWord) → written (user_word missed m) (d.user u) f ≡ written (noticing u n o d) (d.user u) f
      same present = refl
      same clearance = refl
      same authorised = refl
      same current = refl
      same device = refl
      same held = rw e
      same held_op = rw e
      same missed = h
      same (spare i) = refl

  -- nothing was held: the refusal and its operation are
  pub notice_new : d.user u held ≡ 0
      → on_user u (user_word held n) (on_user u (user_word held_op o) (on_user u (user_word missed m) d)) ≡ notice u n o d
  notice_new k =
      ap (on_user u (user_word held n)) (user_twice u (user_word held_op o) (user_word missed m) d)
      ∙ user_twice u (user_word held n) (user_word held_op o and user_word missed m) d
      ∙ user_alike u (user_word held n and user_word held_op o and user_word missed m) (noticing u n o d) d same
    where
      e : eqb (d.user u held) 0 ≡ true
      e = eq-eqb (d.user u held) 0 k

      same : (f : UserWord) → written (user_word held n and user_word held_op o and user_word missed m) (d.user u) f ≡ written (noticing u n o d) (d.user u) f
      same present = refl
      same clearance = refl
      same authorised = refl
      same current = refl
      same device = refl
      same held = rw e
      same held_op = rw e
      same missed = h
      same (spare i) = refl

-- a refusal by one who passed rung 4 is one of which a notice is left
noticed_from : (d : Tables) (q : Request) → Passed refusal.unknown_requester d q → answer d q ≢ 0 → first_noticed ≤ answer d q
noticed_from d q p z = go (ltb (answer d q) first_noticed) (below (answer d q) first_noticed)
  where
    go : (b : Bool) → Below (answer d q) first_noticed b → first_noticed ≤ answer d q
    go true (under h) = clash (applies (answer d q) d q) ((answer_is d q).applied z) (p (answer d q) (omega arith))
    go false (over h) = h

pub acted_no : (r : ℕ) (d : Tables) (q : Request) → r ≢ 0 → acted r d q ≡ d
acted_no zero d q z = absurd (z refl)
acted_no (suc r) d q z = refl

module _ {t q : List ℕ} {r : ℕ} {m : List ℕ} (j : Judged t q r m) where
  pub judged_done : r ≡ 0 → Stepped t q r m
  judged_done z = record {
    answer = j.answer;
    tables = j.tables ∙ ap (λ (x : ℕ). acted x (tables_of t) (request_of q)) z ∙ sym (after_accepted (tables_of t) (request_of q) (sym j.answer ∙ z));
  }

  pub judged_refused : {u op : ℕ} {n : List ℕ} → PastRequester t q u → op ≡ noticed_op (request_of q) → r ≢ 0 → tables_of n ≡ notice u r op (tables_of m)
      → Stepped t q r n
  judged_refused k o z e = record {
    answer = j.answer;
    tables = e ∙ rw (j.tables ∙ acted_no r (tables_of t) (request_of q) z, o, ← k.user)
        (sym (after_noticed (tables_of t) (request_of q) r (sym j.answer)
        (rw (← j.answer) at (noticed_from (tables_of t) (request_of q) k.passed (λ y. z (j.answer ∙ y))))));
  }
