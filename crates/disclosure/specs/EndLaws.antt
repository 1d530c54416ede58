-- How the list ends: refused, too little room, or written.
use mathlib.Core.List.{List, [], ◌++◌, ◌∷◌}
use Rattle.std.specs.Prelude.{◌≢◌, ◌≡◌, refl, ◌*◌, ◌<◌, ◌≤◌, ℕ, drop, length}
use Rattle.std.proofs.Common.{◌∙◌, ap, subst, sym, zero-add, arith}
use Rattle.std.proofs.lemmas.List.Edits.{sets, sets-eq}
use Rattle.verdicts.specs.VerdictLaws.{judged_found}
use Rattle.verdicts.specs.Verdicts.{Judged}
use Rattle.verdicts.specs.declared.Verdict.{Verdict}
use Rattle.disclosure.specs.Visited.{Fits, followed}
use Rattle.model.proofs.List.AdmittedLaws.{barred_admitted}
use Rattle.model.specs.List.Listing.{Lists, barred, entries, entry_words}
use Rattle.model.proofs.List.ListingLaws.{entries_length, lists_found, lists_refused, lists_short, lists_written}
use Rattle.model.specs.List.Ways.{found}
use Rattle.model.specs.Request.Refusals as refusal
use Rattle.model.specs.Tables.Layout.{tables_of}
use Rattle.model.specs.Tables.Words.{entity_count}

-- the refusals before the walk
pub end_refused : (t : List ℕ) (u n : ℕ) (room : List ℕ) → n ≡ barred t u → n ≢ 0 → Lists t u room n 0 room
end_refused t u n room e h = subst (λ (m : ℕ). Lists t u room m 0 room) (sym e) (lists_refused t u room (λ q. h (e ∙ q)))

-- entries from the front of a room that they fit into
stored_front : (l room : List ℕ) → length l ≤ length room → sets room 0 l ≡ l ++ drop (length l) room
stored_front l room h = sets-eq l room 0 (rw zero-add h) ∙ ap (λ (k : ℕ). l ++ drop k room) (zero-add (length l))

empty : (l : List (List ℕ)) → length l ≡ 0 → l ≡ []
empty [] h = refl
empty (r ∷ l) h = absurd (omega arith)

module _ (t : List ℕ) (u : ℕ) (v : List Verdict) (b : barred t u ≡ 0) (j : Judged (tables_of t) u entity_count v) where
  same_list : followed t v entity_count ≡ found (tables_of t) u
  same_list = judged_found t u v (barred_admitted t u b) j

  module _ (n : ℕ) (y : n ≡ length (followed t v entity_count)) where
    count_is : length (found (tables_of t) u) ≡ n
    count_is = sym (y ∙ ap length same_list)

    -- there is nothing to list, and any room is enough
    pub end_none : (room : List ℕ) → n ≡ 0 → Lists t u room refusal.accepted 0 room
    unfolding entries
    end_none room z = lists_found t u room [] b (empty (found (tables_of t) u) (count_is ∙ z)) (omega arith)

    -- the room is too short
    pub end_short : (room : List ℕ) → length room < n * entry_words → Lists t u room refusal.too_short n room
    end_short room h = subst (λ (m : ℕ). Lists t u room refusal.too_short m room) count_is (lists_short t u room b (omega (arith, count_is)))

    -- the room suffices
    pub end_fits : (room : List ℕ) → n * entry_words ≤ length room → Fits room 0 (followed t v entity_count)
    end_fits room h = omega (arith, y)

    -- the walk over the room has written the entries
    pub end_written : (room s : List ℕ) → n * entry_words ≤ length room → s ≡ sets room 0 (entries (followed t v entity_count))
        → Lists t u room refusal.accepted n s
    end_written room s h z = subst (λ (k : ℕ). Lists t u room refusal.accepted k s) count_is (lists_written t u room s b (omega (arith, count_is)) put)
      where
        put : s ≡ entries (found (tables_of t) u) ++ drop (length (entries (found (tables_of t) u))) room
        put = z ∙ ap (λ (l : List (List ℕ)). sets room 0 (entries l)) same_list
            ∙ stored_front (entries (found (tables_of t) u)) room (omega (arith, entries_length (found (tables_of t) u), count_is))
