-- Rule 10.2: the refusals before the walk, one law for each way in which they end.
use Rattle.std.specs.Prelude.{Bool, false, true, List, [], ◌≢◌, ◌≡◌, ◌≤◌, ℕ, T, eqb, length}
use Rattle.std.proofs.Common.{◌∙◌, subst, sym, ne_eqb}
use Rattle.std.proofs.Math.Path.{refl}
use Rattle.laws.specs.Bools.{refuted}
use Rattle.model.specs.Basics.Agree.{Agrees, agrees_and, agrees_eq, agrees_le, agrees_not}
use Rattle.model.specs.Basics.Fails.{Fails, fails_holds, fails_no}
use Rattle.model.specs.Basics.TestLaws.{is_true}
use Rattle.model.specs.List.Listing.{barred, showing}
use Rattle.model.specs.Request.Allowed.{Known, On}
use Rattle.model.specs.Request.Ladder.{not_logged_on, unknown_user}
use Rattle.model.proofs.Request.OperationLaws.{number_op_of, show_wants}
use Rattle.model.specs.Request.Operations.{to_show}
use Rattle.model.specs.Request.Refusals as refusal
use Rattle.model.proofs.Request.RungLaws.{not_logged_on_fails, unknown_user_fails}
use Rattle.model.specs.Request.Words.{Request, request_of}
use Rattle.model.specs.State.AgreeSecure.{check_agrees}
use Rattle.model.specs.State.Check.{check}
use Rattle.model.specs.Tables.Layout.{tables_of, word_count}
use Rattle.model.specs.Tables.Words.{Tables, devices, present, user_count}
use Rattle.tables.specs.Singles.{known}

-- a user's number is known exactly where rule 7.4 says so
known_agrees : (d : Tables) (n : ℕ) → Agrees (known d n) ((1 ≤ n × n ≤ user_count) × d.user n present ≢ 0)
unfolding known
known_agrees d n = agrees_and (agrees_and (agrees_le 1 n) (agrees_le n user_count)) (agrees_not (agrees_eq (d.user n present) 0))

pub known_yes : (d : Tables) (n : ℕ) (b : Bool) → b ≡ known d n → b ≡ true → Known d n
known_yes d n b e h = let z = (known_agrees d n).to (is_true (known d n) (sym e ∙ h)) in record { low = z.0.0; high = z.0.1; there = z.1 }

pub known_no : (d : Tables) (n : ℕ) (b : Bool) → b ≡ known d n → b ≡ false → Known d n → ⊥
known_no d n b e h k = refuted (known d n) (sym e ∙ h) ((known_agrees d n).from ((k.low, k.high), k.there))

module _ (t : List ℕ) (u : ℕ) where
  -- the check refuses
  pub barred_condemned : check t ≢ refusal.accepted → check t ≡ barred t u
  unfolding barred
  barred_condemned h = rw (ne_eqb (check t) 0 h) refl

  -- rules 7.4 and 7.6 of a request by this user
  q : Request
  q = request_of (showing u [])

  there : Fails (unknown_user (tables_of t) q) (Known (tables_of t) u)
  unfolding q request_of showing
  there = unknown_user_fails (tables_of t) (request_of (showing u []))

  on : Fails (not_logged_on (tables_of t) q) (On to_show (tables_of t) u)
  unfolding q request_of showing
  on = not_logged_on_fails (tables_of t) (request_of (showing u [])) to_show (number_op_of to_show)

  module _ (k : check t ≡ refusal.accepted) where
    -- the tables are whole
    pub checked_whole : length t ≡ word_count
    checked_whole = ((check_agrees t).to (subst (λ (n : ℕ). T (eqb n 0)) (sym k) tt)).0

    -- there is no such user
    pub barred_unknown : (Known (tables_of t) u → ⊥) → refusal.unknown_requester ≡ barred t u
    unfolding barred q
    barred_unknown h = rw (k, fails_holds (unknown_user (tables_of t) q) there h) refl

    module _ (h : Known (tables_of t) u) where
      -- the user is on no device
      pub barred_off : devices (tables_of t) u ≡ 0 → refusal.not_logged_on ≡ barred t u
      unfolding barred q
      barred_off z = rw (k, fails_no (unknown_user (tables_of t) q) there h, fails_holds (not_logged_on (tables_of t) q) on (λ f. f show_wants z)) refl

      pub barred_none : devices (tables_of t) u ≢ 0 → refusal.accepted ≡ barred t u
      unfolding barred q
      barred_none z = rw (k, fails_no (unknown_user (tables_of t) q) there h, fails_no (not_logged_on (tables_of t) q) on (λ f. z)) refl
