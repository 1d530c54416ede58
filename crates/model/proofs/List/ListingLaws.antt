-- The disclosure list is what the walk finds: there is one list for any words, user and room, and no second (rule 10).
use Rattle.std.specs.Prelude.{Bool, false, true, List, [], ◌++◌, ◌∷◌, ◌≢◌, ◌≡◌, refl, ◌*◌, ◌<◌, ◌≤◌, ℕ, eqb, leb, drop}
use Rattle.std.proofs.Common.{◌∙◌, ap, subst, sym, arith}
use Rattle.std.proofs.Math.ListN.{length}
use Rattle.model.specs.Basics.Agree.{agrees_eq, agrees_le, agrees_not}
use Rattle.model.specs.Basics.Choice.{Same, it, other, pick, same}
use Rattle.model.specs.Basics.Fails.{fails_le}
use Rattle.model.specs.Basics.TestLaws.{pick_false, pick_same, pick_true}
use Rattle.model.proofs.List.AdmittedLaws.{barred_admitted}
use Rattle.model.specs.List.BoundLaws.{walk_bound}
use Rattle.model.specs.List.Complete.{Complete}
use Rattle.model.specs.List.CompleteLaws.{complete_none, complete_unique}
use Rattle.model.specs.List.Listing.{Lists, barred, entries, entry_words, list_answer, list_number, opens, room_after}
use Rattle.model.specs.List.Reach.{most_entries}
use Rattle.model.proofs.List.ShowLaws.{barred_opens, shown_reached}
use Rattle.model.specs.List.WalkLaws.{walk_complete}
use Rattle.model.specs.List.Ways.{found, showable, ways}
use Rattle.model.specs.Request.Ladder.{bars}
use Rattle.model.specs.Request.Reference.{standing}
use Rattle.model.specs.State.WellFormed.{WellFormed}
use Rattle.model.specs.Tables.Layout.{tables_of}
use Rattle.model.specs.Tables.Words.{Tables, clearance, entity_count, place_count, used_places}
use Rattle.model.specs.Request.Refusals as refusal

-- Rule 10.4: an entry is five words.
pub entries_length : (l : List (List ℕ)) → length (entries l) ≡ entry_words * length l
unfolding entries
entries_length [] = refl
entries_length (r ∷ l) = omega (arith, entries_length l)

-- Rules 10.3 to 10.6: where the list is not refused, the walk makes the complete list.
pub found_complete : (t : List ℕ) (u : ℕ) → barred t u ≡ refusal.accepted → Complete (opens t u) (found (tables_of t) u)
unfolding found
found_complete t u h = walk_complete (ways (tables_of t) u) (standing (tables_of t)) (showable (tables_of t) u) entity_count (opens t u)
    (λ r low high. shown_reached t u r low high h)

-- Where it is, no reference opens.
pub none_complete : (t : List ℕ) (u : ℕ) → barred t u ≢ refusal.accepted → Complete (opens t u) []
none_complete t u h = complete_none (opens t u) (λ r low high. barred_opens t u r low high h)

-- No more places lead on than are used,
pub ways_used : (d : Tables) (u e : ℕ) → ways d u e ≤ used_places d e
unfolding ways
ways_used d u e = go (bars d (d.user u clearance) (e ∷ []))
  where
    go : (b : Bool) → pick b 0 (used_places d e) ≤ used_places d e
    go true = omega arith
    go false = omega arith

-- which are at most eight,
pub ways_few : (d : Tables) → WellFormed d → (u e : ℕ) → ways d u e ≤ place_count
ways_few d w u e = omega (arith, ways_used d u e, (w.entities e).filled.packed.room)

-- so no list is longer than 37,440.
pub found_bound : (t : List ℕ) (u : ℕ) → barred t u ≡ refusal.accepted → length (found (tables_of t) u) ≤ most_entries
unfolding found
found_bound t u h = walk_bound (ways (tables_of t) u) (standing (tables_of t)) (showable (tables_of t) u)
    (ways_few (tables_of t) (barred_admitted t u h).good.0 u) entity_count

module _ {t : List ℕ} {u : ℕ} {room : List ℕ} where
  -- What the list gives, it gives of any list that is complete.
  pub lists_any : {a n : ℕ} {r : List ℕ} → Lists t u room a n r → (l : List (List ℕ)) → Complete (opens t u) l
      → (a ≡ list_answer (barred t u) l (length room)) × (n ≡ list_number (barred t u) l) × (r ≡ room_after a l room)
  lists_any {a} x l c =
      let e = complete_unique (opens t u) x.list l x.complete c in (
        x.answer ∙ ap (λ (k : List (List ℕ)). list_answer (barred t u) k (length room)) e,
        x.number ∙ ap (list_number (barred t u)) e,
        x.words ∙ ap (λ (k : List (List ℕ)). room_after a k room) e,
      )

  -- No second answer, number or room is the list's.
  pub lists_unique : {a b n m : ℕ} {r s : List ℕ} → Lists t u room a n r → Lists t u room b m s → (a ≡ b) × (n ≡ m) × (r ≡ s)
  lists_unique x y =
      let z = lists_any x y.list y.complete in
      let e = z.0 ∙ sym y.answer in
      (e, z.1 ∙ sym y.number, z.2 ∙ ap (λ (k : ℕ). room_after k y.list room) e ∙ sym y.words)

  -- Its number is a small one.
  pub lists_small : {a n : ℕ} {r : List ℕ} → Lists t u room a n r → n ≤ most_entries
  lists_small {a} {n} x = go (eqb (barred t u) refusal.accepted) (same (barred t u) refusal.accepted)
    where
      go : (b : Bool) → Same (barred t u) refusal.accepted b → n ≤ most_entries
      go true (it h) = omega (
        arith,
        (lists_any x (found (tables_of t) u) (found_complete t u h)).1,
        ap (λ (k : ℕ). list_number k (found (tables_of t) u)) h,
        found_bound t u h,
      )
      go false (other h) = omega (arith, (lists_any x [] (none_complete t u h)).1, pick_same {A = ℕ} (eqb (barred t u) refusal.accepted) 0)

module _ (t : List ℕ) (u : ℕ) (room : List ℕ) where
  -- Rule 10.2: a refusal 1 to 6 has the number 0, and leaves the room.
  pub lists_refused : barred t u ≢ refusal.accepted → Lists t u room (barred t u) refusal.accepted room
  lists_refused h =
      let f = (agrees_not (agrees_eq (barred t u) refusal.accepted)).from h in record {
        list = [];
        complete = none_complete t u h;
        answer = sym (pick_false (eqb (barred t u) refusal.accepted) (pick (leb 0 (length room)) refusal.accepted refusal.too_short) (barred t u) f);
        number = sym (pick_same (eqb (barred t u) refusal.accepted) 0);
        words = sym (pick_false (eqb (barred t u) refusal.accepted) (entries [] ++ drop (length (entries [])) room) room f);
      }

  l : List (List ℕ)
  l = found (tables_of t) u

  -- with room or without, the number is of what is found
  counted : barred t u ≡ refusal.accepted → length l ≡ list_number (barred t u) l
  counted h = sym (pick_true (eqb (barred t u) refusal.accepted) (length l) 0 ((agrees_eq (barred t u) refusal.accepted).from h))

  answered : (a : ℕ) → barred t u ≡ refusal.accepted
      → pick (leb (entry_words * length l) (length room)) refusal.accepted refusal.too_short ≡ a → a ≡ list_answer (barred t u) l (length room)
  answered a h e =
      let f = (agrees_eq (barred t u) refusal.accepted).from h in
      sym (pick_true (eqb (barred t u) refusal.accepted) (pick (leb (entry_words * length l) (length room)) refusal.accepted refusal.too_short)
      (barred t u) f ∙ e)

  -- Too little room is answered 17, with the number of entries that there are, and stays as it was.
  pub lists_short : barred t u ≡ refusal.accepted → length room < entry_words * length (found (tables_of t) u)
      → Lists t u room refusal.too_short (length (found (tables_of t) u)) room
  unfolding l
  lists_short h k = record {
    list = l;
    complete = found_complete t u h;
    answer = answered refusal.too_short h
        (pick_false (leb (entry_words * length l) (length room)) refusal.accepted refusal.too_short ((fails_le (entry_words * length l) (length room)).from k));
    number = counted h;
    words = refl;
  }

  -- Rule 10.7: with room enough the entries stand at its front, and the words after them stay.
  pub lists_written : (r : List ℕ) → barred t u ≡ refusal.accepted → entry_words * length (found (tables_of t) u) ≤ length room
      → r ≡ entries (found (tables_of t) u) ++ drop (length (entries (found (tables_of t) u))) room
      → Lists t u room refusal.accepted (length (found (tables_of t) u)) r
  unfolding l
  lists_written r h k e = record {
    list = l;
    complete = found_complete t u h;
    answer = answered refusal.accepted h (pick_true (leb (entry_words * length l) (length room)) refusal.accepted refusal.too_short
        ((agrees_le (entry_words * length l) (length room)).from k));
    number = counted h;
    words = e;
  }

  -- The same of a list that the walk is known to find.
  pub lists_found : (l : List (List ℕ)) → barred t u ≡ refusal.accepted → found (tables_of t) u ≡ l → entry_words * length l ≤ length room
      → Lists t u room refusal.accepted (length l) (entries l ++ drop (length (entries l)) room)
  lists_found l h e =
      subst (λ (k : List (List ℕ)). entry_words * length k ≤ length room
      → Lists t u room refusal.accepted (length k) (entries k ++ drop (length (entries k)) room)) e
      (λ k. lists_written (entries (found (tables_of t) u) ++ drop (length (entries (found (tables_of t) u))) room) h k refl)

  pub lists_found_short : (l : List (List ℕ)) → barred t u ≡ refusal.accepted → found (tables_of t) u ≡ l → length room < entry_words * length l
      → Lists t u room refusal.too_short (length l) room
  lists_found_short l h e =
      subst (λ (k : List (List ℕ)). length room < entry_words * length k → Lists t u room refusal.too_short (length k) room) e (lists_short h)
