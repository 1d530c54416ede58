-- Edits one after another as one edit, and two edits that leave the same: stores, as an effect says them.
use Rattle.std.specs.Prelude.{Bool, false, true, ◌≡◌, refl, ℕ, eqb}
use Rattle.std.proofs.Common.{◌∙◌, sym}
use Rattle.std.proofs.Math.Path.{fun_ext}
use Rattle.model.specs.Basics.Choice.{Same, it, other, pick, same}
use Rattle.model.specs.Basics.TestLaws.{pick_same}
use Rattle.model.specs.Tables.Edits.{Edit, ◌and◌, edited, on_entity, on_user, written}
use Rattle.model.specs.Tables.Words.{EntityWord, Tables, UserWord}

-- an edit after an edit of the same records, of any words W, is one edit: the later one stands in front
pub edited_twice : {W : Type 0} (test : ℕ → Bool) (A B : ℕ → Edit W) (r : ℕ → W → ℕ)
    → edited test A (edited test B r) ≡ edited test (λ x. A x and B x) r
edited_twice test A B r = fun_ext λ x. fun_ext λ f. go ((A x).touched f) ((B x).touched f) (test x) ((A x).value f) ((B x).value f) (r x f)
  where
    go : (a b c : Bool) (u v w : ℕ)
        → pick a (pick c u (pick b (pick c v w) w)) (pick b (pick c v w) w) ≡ pick (pick a true b) (pick c (pick a u v) w) w
    go true true true u v w = refl
    go true true false u v w = refl
    go true false true u v w = refl
    go true false false u v w = refl
    go false true c u v w = refl
    go false false c u v w = refl

-- two edits that leave the same in every word of record e are the same edit of it
pub edited_alike : {W : Type 0} (e : ℕ) (A B : Edit W) (r : ℕ → W → ℕ) → ((f : W) → written A (r e) f ≡ written B (r e) f)
    → edited (λ x. eqb x e) (λ x. A) r ≡ edited (λ x. eqb x e) (λ x. B) r
edited_alike {W} e A B r h = fun_ext λ x. fun_ext λ f. go x f (eqb x e) (same x e)
  where
    go : (x : ℕ) (f : W) (c : Bool) → Same x e c
        → pick (A.touched f) (pick c (A.value f) (r x f)) (r x f) ≡ pick (B.touched f) (pick c (B.value f) (r x f)) (r x f)
    go x f true (it q) = rw q (h f)
    go x f false (other q) = pick_same (A.touched f) (r x f) ∙ sym (pick_same (B.touched f) (r x f))

-- an edit after an edit of the same entity is one edit
pub twice : (e : ℕ) (A B : Edit EntityWord) (d : Tables) → on_entity e A (on_entity e B d) ≡ on_entity e (A and B) d
twice e A B d = λ i. record { user = d.user; entity = edited_twice (λ x. eqb x e) (λ x. A) (λ x. B) d.entity i }

-- two edits of an entity that leave the same in each of its words
pub alike : (e : ℕ) (A B : Edit EntityWord) (d : Tables) → ((f : EntityWord) → written A (d.entity e) f ≡ written B (d.entity e) f)
    → on_entity e A d ≡ on_entity e B d
alike e A B d h = λ i. record { user = d.user; entity = edited_alike e A B d.entity h i }

-- an edit after an edit of the same user is one edit
pub user_twice : (u : ℕ) (A B : Edit UserWord) (d : Tables) → on_user u A (on_user u B d) ≡ on_user u (A and B) d
user_twice u A B d = λ i. record { user = edited_twice (λ x. eqb x u) (λ x. A) (λ x. B) d.user i; entity = d.entity }

-- two edits of a user that leave the same in each of its words
pub user_alike : (u : ℕ) (A B : Edit UserWord) (d : Tables) → ((f : UserWord) → written A (d.user u) f ≡ written B (d.user u) f)
    → on_user u A d ≡ on_user u B d
user_alike u A B d h = λ i. record { user = edited_alike u A B d.user h i; entity = d.entity }
