-- A property of all records after an edit: the question "is this the record that was edited" is put once, here.
use Rattle.std.specs.Prelude.{Bool, false, not, true, ◌≢◌, ◌⊎◌, ◌≡◌, refl, ℕ, T, eqb}
use Rattle.std.proofs.Common.{inl, inr, ◌∙◌, ap, subst, sym, arith, eqb→eq}
use Rattle.std.proofs.Math.Path.{fun_ext}
use Rattle.std.proofs.Math.Dec.{eqb_refl, not_T}
use Rattle.model.specs.Basics.Choice.{Same, it, other, pick, same}
use Rattle.model.specs.Basics.TestLaws.{pick_false, pick_same, pick_true}
use Rattle.model.specs.Tables.Edits.{Edit, edited, written}
use Rattle.model.specs.Tables.Rows.{Member}

-- a property of a record holds of all of them after an edit, if it holds of all before and of those edited
pub all : {W : Type 0} (P : (W → ℕ) → Type 0) (test : ℕ → Bool) (E : ℕ → Edit W) (r : ℕ → W → ℕ) → ((x : ℕ) → P (r x))
    → ((x : ℕ) → T (test x) → P (written (E x) (r x))) → (x : ℕ) → P (edited test E r x)
all P test E r old new x = go (test x) (new x)
  where
    go : (b : Bool) → (T b → P (written (E x) (r x))) → P (λ f. pick ((E x).touched f) (pick b ((E x).value f) (r x f)) (r x f))
    go true f = f tt
    go false f = subst P (fun_ext (λ f. sym (pick_same ((E x).touched f) (r x f)))) (old x)

-- the same where one record is edited
pub each : {W : Type 0} (P : (W → ℕ) → Type 0) (E : Edit W) (e : ℕ) (r : ℕ → W → ℕ) → ((x : ℕ) → P (r x)) → P (written E (r e)) → (x : ℕ)
    → P (edited (λ x. eqb x e) (λ x. E) r x)
each P E e r old new = all P (λ x. eqb x e) (λ x. E) r old (λ x t. subst (λ (y : ℕ). P (written E (r y))) (sym (eqb→eq x e t)) new)

-- a column's value at the edited record, or elsewhere
pub case : (P : ℕ → Type 0) (x e a b : ℕ) → (x ≡ e → P a) → (x ≢ e → P b) → P (pick (eqb x e) a b)
case P x e a b f g = go (eqb x e) (same x e)
  where
    go : (t : Bool) → Same x e t → P (pick t a b)
    go true (it q) = f q
    go false (other q) = g q

-- what stands in record x after the row of record e and the number of its used places were set
pub member_cases : (x e c n m : ℕ) (r s : ℕ → ℕ) → Member (λ i. pick (eqb x e) (r i) (s i)) (pick (eqb x e) n m) c
    → ((x ≡ e) × Member r n c) ⊎ ((x ≢ e) × Member s m c)
member_cases x e c n m r s = go (eqb x e) (same x e)
  where
    go : (b : Bool) → Same x e b → Member (λ i. pick b (r i) (s i)) (pick b n m) c → ((x ≡ e) × Member r n c) ⊎ ((x ≢ e) × Member s m c)
    go true (it q) h = inl (q, h)
    go false (other q) h = inr (q, h)

-- another record's value is as it was
pub elsewhere : (x e v a : ℕ) → x ≢ e → pick (eqb x e) v a ≡ a
elsewhere x e v a n = case (λ (y : ℕ). y ≡ a) x e v a (λ q. absurd (n q)) (λ q. refl)

-- what stands in record x after record e was emptied stood there before
pub member_emptied : (x e c m : ℕ) (s : ℕ → ℕ) → Member (λ i. pick (eqb x e) 0 (s i)) (pick (eqb x e) 0 m) c → Member s m c
member_emptied x e c m s h = go (member_cases x e c 0 m (λ i. 0) s h)
  where
    go : ((x ≡ e) × Member (λ i. 0) 0 c) ⊎ ((x ≢ e) × Member s m c) → Member s m c
    go (inl q) = absurd (omega (arith, q.1.1))
    go (inr q) = q.1

-- the record of a number that passes the test is the one that the edit writes
pub edited_on : {W : Type 0} (test : ℕ → Bool) (E : ℕ → Edit W) (r : ℕ → W → ℕ) (x : ℕ) → T (test x) → edited test E r x ≡ written (E x) (r x)
edited_on test E r x t = fun_ext λ f. ap (λ (y : ℕ). pick ((E x).touched f) y (r x f)) (pick_true (test x) ((E x).value f) (r x f) t)

-- every other record is as it was
pub edited_off : {W : Type 0} (test : ℕ → Bool) (E : ℕ → Edit W) (r : ℕ → W → ℕ) (x : ℕ) → T (not (test x)) → edited test E r x ≡ r x
edited_off test E r x t = fun_ext λ f. ap (λ (y : ℕ). pick ((E x).touched f) y (r x f)) (pick_false (test x) ((E x).value f) (r x f) t)
    ∙ pick_same ((E x).touched f) (r x f)

-- the same where one record is edited
pub edited_here : {W : Type 0} (E : Edit W) (e : ℕ) (r : ℕ → W → ℕ) → edited (λ x. eqb x e) (λ x. E) r e ≡ written E (r e)
edited_here E e r = edited_on (λ x. eqb x e) (λ x. E) r e (eqb_refl e)

pub edited_away : {W : Type 0} (E : Edit W) (e : ℕ) (r : ℕ → W → ℕ) (x : ℕ) → x ≢ e → edited (λ x. eqb x e) (λ x. E) r x ≡ r x
edited_away E e r x n = edited_off (λ x. eqb x e) (λ x. E) r x (not_T (eqb x e) (λ t. n (eqb→eq x e t)))
