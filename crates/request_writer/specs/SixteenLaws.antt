-- Words that some text has are sixteen, and their references have at most four names (rule 11.3).
use Rattle.std.specs.Prelude.{true, List, ◌≡◌, ℕ, leb, length}
use Rattle.std.proofs.Common.{leb-true}
use Rattle.laws.specs.Bools.{and_l, and_r}
use Rattle.model.specs.Request.Words.{name_count, request_of, request_words}
use Rattle.model.specs.Text.Writing.{has_text}
use Rattle.request_writer.specs.Sixteen.{Sixteen}

-- words that some text has
pub has_sixteen : (w : List ℕ) → length w ≡ request_words → has_text (request_of w) ≡ true → Sixteen w
unfolding has_text
has_sixteen w l e =
    let n : ℕ = (request_of w).first.length in
    let m : ℕ = (request_of w).second.length in
    record {
      long = l;
      first = leb-true n name_count (and_l (leb n name_count) _ e);
      second = leb-true m name_count (and_l (leb m name_count) _ (and_r (leb n name_count) _ e));
    }
