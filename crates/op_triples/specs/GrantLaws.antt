-- Rules 6.8 and 7: a request to grant, test by test, as its function climbs the ladder.
use Rattle.std.specs.Prelude.{Bool, ◌&&◌, false, true, List, ◌≡◌, ◌<◌, ◌≤◌, ℕ, leb}
use Rattle.std.proofs.Common.{◌∙◌, ap, arith}
use Rattle.std.proofs.Math.Path.{refl, sym}
use borrow.Author.Tests.{le-leb, le-ltb, lt-leb, lt-ltb}
use Rattle.ladder.specs.Contract.{First, Judged, Passed, Taking}
use Rattle.ladder.specs.JudgeLaws.{accepted, asked_of, free, kind_right, kind_wrong, pass, skip, stop}
use Rattle.model.specs.Basics.Choice.{pick}
use Rattle.model.specs.Basics.Tests.{every}
use Rattle.model.specs.Effect.Triples.{grant, granted}
use Rattle.model.specs.Request.Asked.{asked, named_triple}
use Rattle.model.specs.Request.Conditions.{grant_no_room, is_any}
use Rattle.model.specs.Request.Ladder.{refused}
use Rattle.model.specs.Request.Operations.{to_grant}
use Rattle.model.specs.Request.Words.{request_of}
use Rattle.model.specs.Tables.Edits.{on_entity, row, word}
use Rattle.model.specs.Tables.Layout.{tables_of}
use Rattle.model.specs.Tables.Rows.{replace, seek}
use Rattle.model.specs.Tables.Words.{Tables, place_count, triple, triples}
use Rattle.op_triples.specs.Named.{triple_in}
use Rattle.rows.specs.EditLaws.{row_unedited, row_one}
use Rattle.rows.specs.NameLaws.{triple_row}
use Rattle.model.specs.Request.Refusals as refusal

-- the effect on a row that has the triple, and on one that has not
there_same : (d : Tables) (e x : ℕ) → seek x (triples d e) place_count < place_count → d ≡ grant e x d
there_same d e x h = sym (row_unedited triple triple_row e d (granted x (triples d e))
    (ap (λ (b : Bool). pick b (triples d e) (replace (seek 0 (triples d e) place_count) x (triples d e))) (lt-ltb _ _ h)))

new_last : (d : Tables) (e x : ℕ) → place_count ≤ seek x (triples d e) place_count
    → on_entity e (word (triple (seek 0 (triples d e) place_count)) x) d ≡ grant e x d
new_last d e x h = row_one triple triple_row e d (seek 0 (triples d e) place_count) x
    ∙ ap (λ (b : Bool). on_entity e (row triple (pick b (triples d e) (replace (seek 0 (triples d e) place_count) x (triples d e)))) d) (sym (le-ltb _ _ h))

module _ (t q : List ℕ) (u e : ℕ) (k : Taking to_grant t q u × First t q e) (b : Bool) (hb : b ≡ is_any (tables_of t) e) where
  pub grant_wrong : b ≡ false → Judged t q refusal.wrong_kind t
  grant_wrong = kind_wrong k.0 e k.1 is_any refl b hb

  module _ (yes : b ≡ true) (x p : ℕ) (hx : x ≡ triple_in q) (hp : p ≡ seek x (triples (tables_of t) e) place_count) where
    up : Passed refusal.level_or_roles (tables_of t) (request_of q)
    unfolding every free
    up = skip k.0 3 refusal.wrong_kind (omega arith) (omega arith) (kind_right k.0 e k.1 is_any refl b hb yes) tt

    -- what is asked, as it was read
    first_is : (asked_of t q).first ≡ e
    first_is = k.1.is

    triple_is : named_triple (asked_of t q) ≡ x
    unfolding asked
    triple_is = sym hx

    room_is : grant_no_room (tables_of t) (asked_of t q) ≡ (leb place_count p && leb place_count (seek 0 (triples (tables_of t) e) place_count))
    unfolding grant_no_room
    room_is = rw (first_is, triple_is, hp)

    done : (n : List ℕ) → Passed refusal.no_room (tables_of t) (request_of q) → tables_of n ≡ grant e x (tables_of t) → Judged t q refusal.accepted n
    unfolding every free
    done n w z = accepted k.0 n (skip k.0 2 refusal.no_room (omega arith) (omega arith) w tt) (z ∙ rw (first_is, triple_is))

    -- the triple is there
    pub grant_there : p < place_count → Judged t q refusal.accepted t
    unfolding refused
    grant_there h = done t (pass k.0 refusal.level_or_roles (omega arith) (omega arith) up (room_is ∙ rw (lt-leb place_count p h)))
        (there_same (tables_of t) e x (omega arith))

    module _ (new : place_count ≤ p) (n : ℕ) (hn : n ≡ seek 0 (triples (tables_of t) e) place_count) where
      pub grant_full_lem : place_count ≤ n → Judged t q refusal.no_room t
      unfolding refused
      grant_full_lem h = stop k.0 refusal.level_or_roles (omega arith) (omega arith) up (room_is ∙ rw (le-leb place_count p new, ← hn, le-leb place_count n h))

      pub grant_new : (s : List ℕ) → n < place_count → tables_of s ≡ on_entity e (word (triple n) x) (tables_of t) → Judged t q refusal.accepted s
      unfolding refused
      grant_new s h z = done s (pass k.0 refusal.level_or_roles (omega arith) (omega arith) up
          (room_is ∙ rw (le-leb place_count p new, ← hn, lt-leb place_count n h)))
          (z ∙ rw hn (new_last (tables_of t) e x (omega arith)))
