-- How the writer ends: refused for the words, too little room, or written.
use Rattle.std.specs.Prelude.{Bool, false, true, List, ◌≡◌, ◌<◌, ◌≤◌, ℕ, eqb, leb, length}
use Rattle.std.proofs.Common.{arith}
use Rattle.std.proofs.Math.Path.{refl}
use borrow.Author.Tests.{eqb-true, le-leb, lt-leb, ne_eqb}
use Rattle.lines.specs.Onto.{Wrote}
use Rattle.model.specs.Basics.Choice.{pick}
use Rattle.model.specs.Basics.TestLaws.{is_true}
use Rattle.model.specs.State.Agree.{well_formed_agrees}
use Rattle.model.specs.State.Check.{check, judge, secure_test, well_formed_test}
use Rattle.model.specs.State.WellFormed.{WellFormed}
use Rattle.model.specs.Tables.Layout.{tables_of, word_count}
use Rattle.model.specs.Tables.LayoutLaws.{bounded}
use Rattle.tables_text.specs.Calls.{WritesTables, text_of_tables, write_answer, write_number}
use Rattle.record_writer.specs.Writable.{Writable}
use Rattle.tables_writer.specs.Form.{form_answer}
use Rattle.names.specs.Refusals.{number_of}
use Rattle.names.specs.declared.refusal.Refusal.{Refusal}
use Rattle.names.specs.declared.refusal.Refusal.TheVariants.{BadLength, NotWellFormed, NotSecure, UnknownRequester, BadRequest, NotLoggedOn, NoSuchName}
use Rattle.names.specs.declared.refusal.Refusal.TheVariants.{NoAccess, Marked, WrongKind, NoSuchUser, RoleMissing, LevelOrRoles, NoRoom, Arrangement}
use Rattle.names.specs.declared.refusal.Refusal.TheVariants.{NotAcknowledged, TooShort, NotARequest}
use Rattle.model.specs.Request.Refusals as refusal

-- what the check answers: of words that are too many or too few, that are no tables, that are not secure, and of others
abbrev answer : Bool → Bool → Bool → ℕ
answer b w s = pick b (pick w (pick s refusal.accepted refusal.not_secure) refusal.not_well_formed) refusal.bad_length

-- what the writer answers of such words
abbrev form : Bool → Bool → ℕ
form b w = pick b (pick w refusal.accepted refusal.not_well_formed) refusal.bad_length

-- no refusal has the number 0, and only one has that of tables that are not secure
apart : (r : Refusal) → (number_of r ≡ refusal.accepted → ⊥) × ((r ≡ NotSecure → ⊥) → number_of r ≡ refusal.not_secure → ⊥)
apart NotSecure = (λ q. omega arith, λ n q. n refl)
apart BadLength = (λ q. omega arith, λ n q. omega arith)
apart NotWellFormed = (λ q. omega arith, λ n q. omega arith)
apart UnknownRequester = (λ q. omega arith, λ n q. omega arith)
apart BadRequest = (λ q. omega arith, λ n q. omega arith)
apart NotLoggedOn = (λ q. omega arith, λ n q. omega arith)
apart NoSuchName = (λ q. omega arith, λ n q. omega arith)
apart NoAccess = (λ q. omega arith, λ n q. omega arith)
apart Marked = (λ q. omega arith, λ n q. omega arith)
apart WrongKind = (λ q. omega arith, λ n q. omega arith)
apart NoSuchUser = (λ q. omega arith, λ n q. omega arith)
apart RoleMissing = (λ q. omega arith, λ n q. omega arith)
apart LevelOrRoles = (λ q. omega arith, λ n q. omega arith)
apart NoRoom = (λ q. omega arith, λ n q. omega arith)
apart Arrangement = (λ q. omega arith, λ n q. omega arith)
apart NotAcknowledged = (λ q. omega arith, λ n q. omega arith)
apart TooShort = (λ q. omega arith, λ n q. omega arith)
apart NotARequest = (λ q. omega arith, λ n q. omega arith)

fine_of : (b w s : Bool) → refusal.accepted ≡ answer b w s → refusal.accepted ≡ form b w
fine_of true true s h = refl
fine_of true false s h = h
fine_of false w s h = h

insecure_of : (b w s : Bool) → refusal.not_secure ≡ answer b w s → refusal.accepted ≡ form b w
insecure_of true true s h = refl
insecure_of true false s h = absurd (omega arith)
insecure_of false w s h = absurd (omega arith)

other_of : (b w s : Bool) (r : Refusal) → (r ≡ NotSecure → ⊥) → number_of r ≡ answer b w s → number_of r ≡ form b w
other_of true true true r n h = absurd ((apart r).0 h)
other_of true true false r n h = absurd ((apart r).1 n h)
other_of true false s r n h = h
other_of false w s r n h = h

formed_of : (b w : Bool) → refusal.accepted ≡ form b w → (b ≡ true) × (w ≡ true)
formed_of true true h = (refl, refl)
formed_of true false h = absurd (omega arith)
formed_of false w h = absurd (omega arith)

-- words that the check does not refuse for their number or their form
abbrev pub Formed : List ℕ → Type 0
Formed t = (eqb (length t) word_count ≡ true) × (well_formed_test (tables_of t) ≡ true)

-- what the check answers, and what is refused then
module _ (t : List ℕ) where
  pub form_fine : refusal.accepted ≡ check t → refusal.accepted ≡ form_answer t
  unfolding check judge
  form_fine j = fine_of (eqb (length t) word_count) (well_formed_test (tables_of t)) (secure_test (tables_of t)) j

  pub form_insecure : refusal.not_secure ≡ check t → refusal.accepted ≡ form_answer t
  unfolding check judge
  form_insecure j = insecure_of (eqb (length t) word_count) (well_formed_test (tables_of t)) (secure_test (tables_of t)) j

  pub form_other : (r : Refusal) → (r ≡ NotSecure → ⊥) → number_of r ≡ check t → number_of r ≡ form_answer t
  unfolding check judge
  form_other r n j = other_of (eqb (length t) word_count) (well_formed_test (tables_of t)) (secure_test (tables_of t)) r n j

  pub formed : refusal.accepted ≡ form_answer t → Formed t
  formed e = formed_of (eqb (length t) word_count) (well_formed_test (tables_of t)) e

-- the words are refused
refused_of : (b w l : Bool) (r : Refusal) → number_of r ≡ form b w
    → (number_of r ≡ pick b (pick w (pick l refusal.accepted refusal.too_short) refusal.not_well_formed) refusal.bad_length)
refused_of true true l r h = absurd ((apart r).0 h)
refused_of true false l r h = h
refused_of false w l r h = h

none_of : (b w : Bool) (n : ℕ) (r : Refusal) → number_of r ≡ form b w → 0 ≡ pick b (pick w n 0) 0
none_of true true n r h = absurd ((apart r).0 h)
none_of true false n r h = refl
none_of false w n r h = refl

pub end_refused : (t room : List ℕ) (r : Refusal) → number_of r ≡ form_answer t → WritesTables t room (number_of r) 0 room
unfolding write_answer write_number
end_refused t room r h =
    record {
      answer = refused_of (eqb (length t) word_count) (well_formed_test (tables_of t)) (leb (length (text_of_tables t)) (length room)) r h;
      number = none_of (eqb (length t) word_count) (well_formed_test (tables_of t)) (length (text_of_tables t)) r h;
      bytes = rw (ne_eqb (number_of r) refusal.accepted (apart r).0);
    }

module _ (t : List ℕ) (f : Formed t) where
  well : WellFormed (tables_of t)
  well = (well_formed_agrees (tables_of t) (bounded t)).to (is_true (well_formed_test (tables_of t)) f.1)

  -- and then the writer can go through them
  pub writable : Writable t
  writable = record { long = eqb-true (length t) word_count f.0; room = λ e. (well.entities e).filled.packed.room }

  module _ (room : List ℕ) where
    -- the room is too short for the text
    pub end_short : {n : ℕ} → n ≡ length (text_of_tables t) → length room < n → WritesTables t room refusal.too_short n room
    unfolding write_answer write_number
    end_short m h =
        let s = lt-leb (length (text_of_tables t)) (length room) (rw m at h) in
        record { answer = rw (f.0, f.1, s); number = rw (f.0, f.1, m); bytes = refl }

    -- the text was written
    pub end_written : {r : List ℕ} {n : ℕ} → length (text_of_tables t) ≤ length room → Wrote (text_of_tables t) room r n
        → WritesTables t room refusal.accepted n r
    unfolding write_answer write_number
    end_written h x =
        let s = le-leb (length (text_of_tables t)) (length room) h in
        record { answer = rw (f.0, f.1, s); number = rw (f.0, f.1, x.many); bytes = x.now_is }
