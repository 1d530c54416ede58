-- The refusals that the list shares with the step: which there are, and that their absence is what `Admitted` says (rule 10.2).
use Rattle.std.specs.Prelude.{Bool, false, true, List, [], ◌≡◌, refl, ◌≤◌, ℕ, eqb, length}
use Rattle.std.proofs.Common.{◌∙◌, ap, arith}
use Rattle.model.specs.Basics.Agree.{Agrees, agrees_eq}
use Rattle.model.specs.Basics.Choice.{Same, other, pick, same}
use Rattle.model.specs.Basics.Fails.{Fails}
use Rattle.model.specs.Basics.TestLaws.{pick_true}
use Rattle.model.specs.List.Admitted.{Admitted}
use Rattle.model.specs.List.Further.{asker, checked}
use Rattle.model.specs.List.Listing.{barred, showing}
use Rattle.model.specs.Request.Allowed.{Known, On}
use Rattle.model.specs.Request.Ladder.{not_logged_on, unknown_user}
use Rattle.model.proofs.Request.OperationLaws.{number_op_of, show_wants}
use Rattle.model.specs.Request.Operations.{to_show}
use Rattle.model.proofs.Request.RungLaws.{not_logged_on_fails, unknown_user_fails}
use Rattle.model.specs.Request.Words.{Request, request_of}
use Rattle.model.specs.State.AgreeSecure.{check_agrees}
use Rattle.model.specs.State.Check.{check, judge, secure_test, well_formed_test}
use Rattle.model.specs.State.Secure.{Good}
use Rattle.model.specs.Tables.Layout.{tables_of, word_count}
use Rattle.model.specs.Tables.Words.{Tables}
use Rattle.model.specs.Request.Refusals as refusal

-- Where none of 1, 2, 3, 4 and 6 applies, the words are whole, their tables are good, and the user is there and on a device.
pub barred_admitted : (t : List ℕ) (u : ℕ) → barred t u ≡ refusal.accepted → Admitted t u
unfolding barred request_of showing
barred_admitted t u = go (eqb (check t) refusal.accepted) (unknown_user (tables_of t) q) (not_logged_on (tables_of t) q)
    (same (check t) refusal.accepted) (check_agrees t) (unknown_user_fails (tables_of t) q) (not_logged_on_fails (tables_of t) q to_show (number_op_of to_show))
  where
    q : Request
    q = request_of (showing u [])

    go : (a b c : Bool) → Same (check t) refusal.accepted a → Agrees a ((length t ≡ word_count) × Good (tables_of t)) → Fails b (Known (tables_of t) u)
        → Fails c (On to_show (tables_of t) u) → pick a (asker b c refusal.accepted) (check t) ≡ refusal.accepted → Admitted t u
    go true true c s x y z e = absurd (omega arith)
    go true false true s x y z e = absurd (omega arith)
    go true false false s x y z e =
        let k = y.to tt in
        record { whole = (x.to tt).0; good = (x.to tt).1; low = k.low; high = k.high; there = k.there; on = z.to tt show_wants }
    go false b c (other n) x y z e = absurd (n e)

-- Where that holds, none of them applies.
pub admitted_barred : (t : List ℕ) (u : ℕ) → Admitted t u → barred t u ≡ refusal.accepted
unfolding barred request_of showing
admitted_barred t u h = go (eqb (check t) refusal.accepted) (unknown_user (tables_of t) q) (not_logged_on (tables_of t) q) (check_agrees t)
    (unknown_user_fails (tables_of t) q) (not_logged_on_fails (tables_of t) q to_show (number_op_of to_show))
  where
    q : Request
    q = request_of (showing u [])

    go : (a b c : Bool) → Agrees a ((length t ≡ word_count) × Good (tables_of t)) → Fails b (Known (tables_of t) u) → Fails c (On to_show (tables_of t) u)
        → pick a (asker b c refusal.accepted) (check t) ≡ refusal.accepted
    go true true c x y z = absurd (y.from (record { low = h.low; high = h.high; there = h.there }))
    go true false true x y z = absurd (z.from (λ s. h.on))
    go true false false x y z = refl
    go false b c x y z = absurd (x.from (h.whole, h.good))

-- No refusal before 17 is above 6.
pub barred_range : (t : List ℕ) (u : ℕ) → barred t u ≤ refusal.not_logged_on
unfolding barred check judge
barred_range t u = go (eqb (length t) word_count) (well_formed_test (tables_of t)) (secure_test (tables_of t))
    (unknown_user (tables_of t) (request_of (showing u []))) (not_logged_on (tables_of t) (request_of (showing u [])))
  where
    go : (a w s b c : Bool) → pick (eqb (checked a w s) refusal.accepted) (asker b c refusal.accepted) (checked a w s) ≤ refusal.not_logged_on
    go true true true true c = omega arith
    go true true true false true = omega arith
    go true true true false false = omega arith
    go true true false b c = omega arith
    go true false s b c = omega arith
    go false w s b c = omega arith

-- Where the state check passes the words of the tables d, who asks is what is left.
pub barred_checked : (t : List ℕ) (d : Tables) (u : ℕ) → check t ≡ refusal.accepted → tables_of t ≡ d
    → barred t u ≡ asker (unknown_user d (request_of (showing u []))) (not_logged_on d (request_of (showing u []))) refusal.accepted
unfolding barred
barred_checked t d u e f = pick_true (eqb (check t) refusal.accepted) (left (tables_of t)) (check t) ((agrees_eq (check t) refusal.accepted).from e) ∙ ap left f
  where
    left : Tables → ℕ
    left d = asker (unknown_user d (request_of (showing u []))) (not_logged_on d (request_of (showing u []))) refusal.accepted
