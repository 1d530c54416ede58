-- Rule 5.4: the form of a request as the code asks for it.
use Rattle.std.specs.Prelude.{Bool, ◌&&◌, false, true, [], ◌∷◌, ◌≡◌, ℕ, refl, eqb}
use Rattle.std.proofs.Math.Dec.{leb}
use Rattle.ladder.specs.Shape.{none_form, one_form, spare_form, two_form}
use Rattle.model.specs.Request.Conditions.{Kind}
use Rattle.model.specs.Request.Ladder.{fits, length_fits, names_fit, range_at}
use Rattle.model.specs.Request.Operations.{Op, row_of}
use Rattle.model.specs.Request.Words.{Request, name_count}

-- the form, then the arguments: the model asks for the spare word last
regroup : (l m a b z x y w : Bool) → ((l && (m && (a && (b && z)))) && (x && (y && w))) ≡ (l && (m && (a && (b && (x && (y && (w && z)))))))
regroup true true true true true true true true = refl
regroup true true true true true true true false = refl
regroup true true true true true true false w = refl
regroup true true true true true false y w = refl
regroup true true true true false true true true = refl
regroup true true true true false true true false = refl
regroup true true true true false true false w = refl
regroup true true true true false false y w = refl
regroup true true true false z x y w = refl
regroup true true false b z x y w = refl
regroup true false a b z x y w = refl
regroup false m a b z x y w = refl

module _ (q : Request) (x y w : Bool) where
  pub none_form_lem : (none_form q && (x && (y && w)))
      ≡ (eqb q.first.length 0 && (eqb q.second.length 0 && (names_fit q.first && (names_fit q.second && (x && (y && (w && eqb q.last 0)))))))
  unfolding none_form spare_form
  none_form_lem = regroup (eqb q.first.length 0) (eqb q.second.length 0) (names_fit q.first) (names_fit q.second) (eqb q.last 0) x y w

  pub one_form_lem : (one_form q && (x && (y && w)))
      ≡ ((leb 1 q.first.length && leb q.first.length name_count)
      && (eqb q.second.length 0 && (names_fit q.first && (names_fit q.second && (x && (y && (w && eqb q.last 0)))))))
  unfolding one_form spare_form
  one_form_lem = regroup (leb 1 q.first.length && leb q.first.length name_count) (eqb q.second.length 0) (names_fit q.first) (names_fit q.second)
      (eqb q.last 0) x y w

  pub two_form_lem : (two_form q && (x && (y && w)))
      ≡ ((leb 1 q.first.length && leb q.first.length name_count) && ((leb 1 q.second.length && leb q.second.length name_count)
      && (names_fit q.first && (names_fit q.second && (x && (y && (w && eqb q.last 0)))))))
  unfolding two_form spare_form
  two_form_lem = regroup (leb 1 q.first.length && leb q.first.length name_count) (leb 1 q.second.length && leb q.second.length name_count)
      (names_fit q.first) (names_fit q.second) (eqb q.last 0) x y w

-- An operation's row chooses the form: of a request whose arguments a, b and c were read, f says whether it has the form but for them, and x, y and w
-- whether they lie in their ranges.
module _ (o : Op) (q : Request) {a b c : ℕ} (ha : a ≡ q.a) (hb : b ≡ q.b) (hc : c ≡ q.c) {f x y w : Bool}
    (hx : x ≡ range_at 0 (row_of o).arguments a) (hy : y ≡ range_at 1 (row_of o).arguments b) (hw : w ≡ range_at 2 (row_of o).arguments c) where
  pub none_made : (row_of o).operands ≡ [] → f ≡ none_form q → (f && (x && (y && w))) ≡ fits o q
  unfolding fits length_fits
  none_made e h = rw (h, hx, hy, hw, ha, hb, hc, e)
      (none_form_lem q (range_at 0 (row_of o).arguments q.a) (range_at 1 (row_of o).arguments q.b) (range_at 2 (row_of o).arguments q.c))

  pub one_made : {k : Kind} → (row_of o).operands ≡ k ∷ [] → f ≡ one_form q → (f && (x && (y && w))) ≡ fits o q
  unfolding fits length_fits
  one_made e h = rw (h, hx, hy, hw, ha, hb, hc, e)
      (one_form_lem q (range_at 0 (row_of o).arguments q.a) (range_at 1 (row_of o).arguments q.b) (range_at 2 (row_of o).arguments q.c))

  pub two_made : {k m : Kind} → (row_of o).operands ≡ k ∷ m ∷ [] → f ≡ two_form q → (f && (x && (y && w))) ≡ fits o q
  unfolding fits length_fits
  two_made e h = rw (h, hx, hy, hw, ha, hb, hc, e)
      (two_form_lem q (range_at 0 (row_of o).arguments q.a) (range_at 1 (row_of o).arguments q.b) (range_at 2 (row_of o).arguments q.c))
