-- What reading seven lines at an index of some bytes answers, and which words it leaves.
use Rattle.std.specs.Prelude.{List, ◌≡◌, Result, Ok, Err, ◌-◌, ℕ, drop, length, replicate}
use Rattle.model.specs.Request.Words.{request_words}
use Rattle.model.specs.Text.Reading.{words_in}
use Rattle.model.specs.Text.Wording.{Lines, bad_line, lines, read_seven}
use Rattle.request_reader.specs.declared.BadLine.{BadLine}

-- the answer for a reading of n bytes: the index of those that are left over, or the line
abbrev pub seven_of : ℕ → Lines → Result ℕ BadLine
seven_of n (lines m x) = Ok (n - length x)
seven_of n (bad_line k) = Err (record { 0 = k })

-- Rules 11.1 and 12.2: the answer r for the next seven lines of the bytes s from an index on, and the words w, which are now v.
pub record SevenAt (s : List ℕ) (at : ℕ) (w v : List ℕ) (r : Result ℕ BadLine) : Type 0 where
  pub answer : r ≡ seven_of (length s) (read_seven (drop at s))
  pub words : v ≡ words_in (read_seven (drop at s)) w

-- the words of a room that nothing was read into
abbrev pub fresh : List ℕ
fresh = replicate request_words 0
