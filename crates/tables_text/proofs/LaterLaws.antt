-- A record whose first line does not come next is absent (rule 16.3): the texts of later records do not begin with it.
use Rattle.std.specs.Prelude.{List, ◌++◌, ◌≡◌, ◌+◌, ◌<◌, ◌≤◌, suc, zero, ℕ}
use Rattle.std.proofs.Common.{append_assoc, ◌∙◌, ap, arith}
use Rattle.model.specs.Basics.Cases.{cases}
use Rattle.model.specs.Tables.Words.{Tables}
use Rattle.model.specs.Text.Lines.{behind}
use Rattle.model.specs.Text.Numbers.{bad, most}
use Rattle.model.specs.Text.Wording.{user_key}
use Rattle.tables_text.proofs.EntityLaws.{entity_rest}
use Rattle.tables_text.specs.Keys.{entity_key, user_fields}
use Rattle.tables_text.specs.StageLaws.{head_first}
use Rattle.tables_text.specs.TextOf.{entity_text, field_lines, series, user_text, user_words}
use Rattle.tables_text.proofs.ToldLaws.{entity_either, user_either}
use Rattle.tables_text.proofs.ValueLaws.{heads_apart, user_not_end, user_not_entity}
use Rattle.tables_text.specs.Values.{number_line}

-- Rule 16.3: a text of users from v on does not begin with a lower user's first line,
pub users_later : (d : Tables) (u : ℕ) (x : List ℕ) → u ≤ most → behind (number_line user_key u) x ≡ bad → (k v : ℕ) → u < v → v + k ≤ suc most
    → behind (number_line user_key u) (series k v (user_text d) ++ x) ≡ bad
unfolding series
users_later d u x m n zero v h l = n
users_later d u x m n (suc k) v h l =
    let t : List ℕ = series k (suc v) (user_text d) in
    let f : List ℕ = field_lines user_fields 1 (user_words d v) in
    cases (user_either d v)
    (λ q. ap (λ w. behind (number_line user_key u) ((w ++ t) ++ x)) q ∙ users_later d u x m n k (suc v) (omega arith) (omega arith))
    (λ q. ap (λ w. behind (number_line user_key u) ((w ++ t) ++ x)) q ∙ ap (behind (number_line user_key u)) (head_first (number_line user_key v) f t x)
    ∙ heads_apart user_key u v (f ++ (t ++ x)) m (omega arith) (λ z. omega arith))

-- one of entities from e on not with a lower entity's,
pub entities_later : (d : Tables) (u : ℕ) (x : List ℕ) → u ≤ most → behind (number_line entity_key u) x ≡ bad → (k e : ℕ) → u < e → e + k ≤ suc most
    → behind (number_line entity_key u) (series k e (entity_text d) ++ x) ≡ bad
unfolding series
entities_later d u x m n zero e h l = n
entities_later d u x m n (suc k) e h l =
    let t : List ℕ = series k (suc e) (entity_text d) in
    cases (entity_either d e)
    (λ q. ap (λ w. behind (number_line entity_key u) ((w ++ t) ++ x)) q ∙ entities_later d u x m n k (suc e) (omega arith) (omega arith))
    (λ q. ap (λ w. behind (number_line entity_key u) ((w ++ t) ++ x)) q
    ∙ ap (behind (number_line entity_key u)) (head_first (number_line entity_key e) (entity_rest d e) t x)
    ∙ heads_apart entity_key u e (entity_rest d e ++ (t ++ x)) m (omega arith) (λ z. omega arith))

-- and one of entities with no user's.
pub users_over : (d : Tables) (u k e : ℕ) → behind (number_line user_key u) (series k e (entity_text d)) ≡ bad
unfolding series
users_over d u zero e = user_not_end u
users_over d u (suc k) e =
    let t : List ℕ = series k (suc e) (entity_text d) in
    cases (entity_either d e)
    (λ q. ap (λ w. behind (number_line user_key u) (w ++ t)) q ∙ users_over d u k (suc e))
    (λ q. ap (λ w. behind (number_line user_key u) (w ++ t)) q ∙ ap (behind (number_line user_key u))
    (append_assoc (number_line entity_key e) (entity_rest d e) t)
    ∙ user_not_entity u e (entity_rest d e ++ t))
