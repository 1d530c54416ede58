-- How many bytes the text of sixteen words takes.
use Rattle.std.specs.Prelude.{List, ◌≡◌, ◌+◌, ◌<◌, ◌≤◌, ℕ, length}
use Rattle.std.proofs.Common.{arith}
use Rattle.model.specs.Request.Words.{Reference, name_count, names, request_of}
use Rattle.model.proofs.Text.BothWays.{text_longest}
use Rattle.model.proofs.Text.GivenLaws.{names_few}
use Rattle.model.specs.Text.LineLaws.{length_line}
use Rattle.model.specs.Text.NumberLaws.{length_most}
use Rattle.model.specs.Text.Numbers.{digit_count, digits}
use Rattle.model.specs.Text.References.{joined}
use Rattle.model.specs.Text.Unfinished.{line_total, longest}
use Rattle.model.specs.Text.Wording.{Wording, a_key, b_key, c_key, op_key, ref2_key, ref_key, text_of, user_key, wording_of}
use Rattle.model.specs.Text.WordingLaws.{text_length}
use Rattle.model.specs.Text.Writing.{text_of_words}
use Rattle.request_writer.specs.NameLaws.{dotted_most, joined_most}
use Rattle.request_writer.specs.Sixteen.{Sixteen}

-- the keys and line ends of a text
abbrev key_bytes : ℕ
key_bytes = length user_key + length op_key + length ref_key + length ref2_key + length a_key + length b_key + length c_key + line_total

-- they take these bytes, and the values the others
pub need_values : (m : Wording)
    → key_bytes + ((length (joined m.first) + length (joined m.second))
    + ((length (digits m.user) + length (digits m.operation)) + (length (digits m.a) + (length (digits m.b) + length (digits m.c)))))
    ≡ length (text_of m)
need_values m =
    omega (
      arith,
      text_length m,
      length_line user_key (digits m.user),
      length_line op_key (digits m.operation),
      length_line ref_key (joined m.first),
      length_line ref2_key (joined m.second),
      length_line a_key (digits m.a),
      length_line b_key (digits m.b),
      length_line c_key (digits m.c),
    )

-- what was counted is small
pub digits_bound : {r : ℕ} (n : ℕ) → r ≡ length (digits n) → r ≤ digit_count
digits_bound {r} n e = omega (arith, length_most n)

pub names_bound : {r : ℕ} {ns : List ℕ} (q : Reference) → r ≡ length (joined ns) → ns ≡ names q → q.length ≤ name_count → r < dotted_most
names_bound {r} {ns} q e f h =
    let l : length (joined (names q)) < dotted_most = joined_most (names q) (names_few q h) in
    omega (arith, rw f at e)

-- Rule 11.2: no text of such words is longer than 166 bytes.
pub need_most : (w : List ℕ) → Sixteen w → length (text_of_words w) ≤ longest
need_most w x = text_longest (wording_of (request_of w)) (names_few (request_of w).first x.first) (names_few (request_of w).second x.second)
