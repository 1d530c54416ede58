-- The first rungs: 1 by the request's length, 1 to 3 by the state check, 4 the requester, 5 the form, 6 whether the requester is on a device; and the
-- step's own ends.
use Rattle.std.specs.Prelude.{Bool, ◌&&◌, false, true, List, ◌≢◌, ◌≡◌, refl, ℕ, T, length}
use Rattle.std.proofs.Math.Bool.{not}
use Rattle.std.proofs.Math.Option.{none}
use Rattle.std.proofs.Common.{◌∙◌, arith, lit<, lit≤}
use Rattle.std.proofs.Math.Path.{ap, sym}
use Rattle.std.proofs.Math.Dec.{eqb, leb}
use borrow.Author.Tests.{leb-true}
use Rattle.ladder.specs.ClimbLaws.{good_passed, passed_hit, passed_more}
use Rattle.ladder.specs.DispatchLaws.{fits_named, named_as, none_meant}
use Rattle.ladder.specs.Contract.{Judged, Passed, PastLogon, PastRequester, Ready, Stepped}
use Rattle.laws.specs.Bools.{and_l, and_r}
use Rattle.model.specs.Basics.Agree.{agrees_eq, agrees_not}
use Rattle.model.specs.Request.After.{noticed_op}
use Rattle.model.proofs.Request.AfterLaws.{after_unchanged}
use Rattle.model.specs.Request.Ladder.{applies, fits, ladder, never, not_logged_on, not_understood, of_op, rung_at, unknown_user}
use Rattle.model.specs.Request.LadderLaws.{of_op_some}
use Rattle.model.specs.Request.Operations.{number_of, op_of, open_logged_off}
use Rattle.model.specs.Request.Refusals as refusal
use Rattle.model.specs.Request.Step.{after_of, sized}
use Rattle.model.specs.Request.Words.{Request, request_of, request_words}
use Rattle.model.specs.State.AgreeSecure.{check_agrees}
use Rattle.model.specs.State.Check.{check}
use Rattle.model.specs.State.Secure.{Good}
use Rattle.model.specs.Tables.Layout.{tables_of, word_count}
use Rattle.model.specs.Tables.Words.{device, present, user_count}
use Rattle.model.specs.Tables.WordsOfLaws.{tables_of_injective}
use Rattle.model.proofs.Theorem.Steps.{after_of_length, after_of_tables, answer_of_sized, check_refuses, sized_agrees, unsized}
use Rattle.names.specs.Operations.{meant}
use Rattle.names.specs.RefusalLaws.{refusal_some}
use Rattle.names.specs.Refusals as told
use Rattle.names.specs.declared.op.Op.{Op}
use Rattle.names.specs.declared.refusal.Refusal.{Refusal}
use Rattle.step.specs.Contract.{Checked, Settled}
use Rattle.tables.specs.Singles.{known}

-- ---- rung 4

module _ (t q : List ℕ) (r : Ready t q) (n : ℕ) (e : n ≡ (request_of q).user) where
  user_word_lem : (request_of q).user ≡ n
  user_word_lem = sym e

  -- the requester is none of the users that are there
  pub unknown : known (tables_of t) n ≡ false → Stepped t q refusal.unknown_requester t
  unfolding applies rung_at never ladder unknown_user known
  unknown h =
      let a = passed_hit (tables_of t) (request_of q) refusal.not_secure (good_passed (tables_of t) (request_of q) r.good) (rw user_word_lem (ap not h)) in
      record { answer = a; tables = sym (after_unchanged (tables_of t) (request_of q) refusal.unknown_requester (sym a) (lit≤ tt) (lit< tt)) }

  -- the requester is one of them
  pub known_climbed : known (tables_of t) n ≡ true → PastRequester t q n
  unfolding applies rung_at never ladder unknown_user known
  known_climbed h =
      let l = leb 1 n && leb n user_count in
      let y = not (eqb ((tables_of t).user n present) 0) in
      let z = and_l l y h in
      record {
        ready = r;
        user = user_word_lem;
        low = leb-true 1 n (and_l (leb 1 n) (leb n user_count) z);
        high = leb-true n user_count (and_r (leb 1 n) (leb n user_count) z);
        passed = passed_more (tables_of t) (request_of q) refusal.not_secure (good_passed (tables_of t) (request_of q) r.good) (rw user_word_lem (ap not h));
      }

-- ---- rungs 5 and 6

-- a number that is no operation's
pub unnamed : (t q : List ℕ) (u : ℕ) → PastRequester t q u → op_of (request_of q).operation ≡ none → Judged t q refusal.bad_request t
unfolding applies rung_at never ladder not_understood
unnamed t q u k e = record {
  answer = passed_hit (tables_of t) (request_of q) refusal.unknown_requester k.passed (ap not (sym (none_meant (λ o. fits o (request_of q)) (request_of q) e)));
  tables = refl;
}

-- b says whether the request has the form that its operation asks, which none has whose number is no operation's: it has not
pub misshapen : (t q : List ℕ) (u : ℕ) → PastRequester t q u → (b : Bool) → b ≡ of_op (request_of q) (λ o. fits o (request_of q)) → b ≡ false
    → Judged t q refusal.bad_request t
unfolding applies rung_at never ladder not_understood
misshapen t q u k b h z = record {
  answer = passed_hit (tables_of t) (request_of q) refusal.unknown_requester k.passed (ap not (sym h ∙ z));
  tables = refl;
}

-- login and acknowledge alone want no device
abbrev pub wants_device : Op → Bool
wants_device o = not (open_logged_off (meant o))

-- the number of operation o; b says whether the request has its form
module _ (t q : List ℕ) (u : ℕ) (k : PastRequester t q u) (o : Op) (e : (request_of q).operation ≡ number_of (meant o)) where
  module _ (b : Bool) (h : b ≡ fits (meant o) (request_of q)) where
    form_is : applies refusal.bad_request (tables_of t) (request_of q) ≡ not b
    unfolding applies rung_at never ladder not_understood
    form_is = ap not (sym (h ∙ fits_named (request_of q) (meant o) e))

    module _ (z : b ≡ true) (v : ℕ) (hv : v ≡ (tables_of t).user u device) where
      fifth : Passed refusal.bad_request (tables_of t) (request_of q)
      fifth = passed_more (tables_of t) (request_of q) refusal.unknown_requester k.passed (form_is ∙ ap not z)

      on_is : applies refusal.not_logged_on (tables_of t) (request_of q) ≡ (wants_device o && eqb v 0)
      unfolding applies rung_at never ladder not_logged_on
      on_is = of_op_some (request_of q) (meant o) (named_as (request_of q) (meant o) e)
          (λ o. not (open_logged_off o) && eqb ((tables_of t).user (request_of q).user device) 0)
          ∙ rw (k.user, ← hv)

      -- the requester is off, and the operation wants a device
      pub off : (wants_device o && eqb v 0) ≡ true → Judged t q refusal.not_logged_on t
      off w = record { answer = passed_hit (tables_of t) (request_of q) refusal.bad_request fifth (on_is ∙ w); tables = refl }

      -- else the ladder is passed up to rung 6
      pub on : (wants_device o && eqb v 0) ≡ false → PastLogon t q u
      on w = record {
        ready = k.ready;
        user = k.user;
        low = k.low;
        high = k.high;
        passed = passed_more (tables_of t) (request_of q) refusal.bad_request fifth (on_is ∙ w);
      }

-- ---- the operation that a notice keeps

-- of the number of an operation it is that number
pub noticed_as : (q : Request) (o : Op) → q.operation ≡ number_of (meant o) → number_of (meant o) ≡ noticed_op q
unfolding noticed_op
noticed_as q o e = rw (named_as q (meant o) e, noticed_op)

-- of any other it is 0
pub noticed_none : (q : Request) → op_of q.operation ≡ none → 0 ≡ noticed_op q
unfolding noticed_op
noticed_none q e = rw (e, noticed_op)

-- ---- the step's ends

-- Rule 7.1: a request of another length
pub other_length : (t q : List ℕ) → length q ≢ request_words → Settled t q refusal.bad_length t
other_length t q n =
    let z = unsized t q ((agrees_not (sized_agrees t q)).from (λ h. n h.1)) in
    record { answer = sym z.0; words = sym z.1 }

module _ (t q : List ℕ) (c : ℕ) (k : Checked t q c) where
  -- Rules 7.1 to 7.3: the state check has refused, and nothing changes
  pub checked_settled : c ≢ refusal.accepted → Settled t q c t
  checked_settled n =
      let z = check_refuses t q k.request (λ e. n (k.said ∙ e)) in
      record { answer = k.said ∙ sym z.0; words = sym z.1 }

  module _ (e : c ≡ refusal.accepted) where
    passed : (length t ≡ word_count) × Good (tables_of t)
    passed = (check_agrees t).to ((agrees_eq (check t) refusal.accepted).from (sym k.said ∙ e))

    whole : T (sized t q)
    whole = (sized_agrees t q).from (passed.0, k.request)

    -- it has passed, and the ladder goes on
    pub checked_ready : Ready t q
    checked_ready = record { whole = passed.0; request = k.request; good = passed.1 }

    -- what the ladder leaves is what the step promises
    pub stepped_settled : (r : ℕ) (n : List ℕ) → length n ≡ length t → Stepped t q r n → Settled t q r n
    stepped_settled r n l s = record {
      answer = s.answer ∙ sym (answer_of_sized t q whole);
      words = tables_of_injective n (after_of t q) (l ∙ passed.0) (after_of_length t q ∙ passed.0) (s.tables ∙ sym (after_of_tables t q whole));
    }

-- the same of the refusal that the check has told
pub checked_refused : (t q : List ℕ) (r : Refusal) → Checked t q (told.number_of r) → Settled t q (told.number_of r) t
checked_refused t q r k = checked_settled t q (told.number_of r) k (λ e. omega (arith, refusal_some r))
