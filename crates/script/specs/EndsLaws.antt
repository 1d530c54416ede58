-- The lines that end in some bytes, counted byte by byte, and when bytes may be unfinished.
use Rattle.std.specs.Prelude.{Bool, false, true, List, ◌≡◌, ◌+◌, ◌-◌, ◌<◌, ◌≤◌, ℕ, eqb, ltb, drop, get_or, length}
use Rattle.std.proofs.Math.Path.{refl}
use Rattle.std.proofs.Common.{arith, add-one, drop_of_length-le, length-drop, drop-cons}
use borrow.Author.Tests.{le-ltb, lt-ltb}
use Rattle.model.specs.Basics.Choice.{pick}
use Rattle.model.specs.Text.Lines.{line_end}
use Rattle.model.specs.Text.Unfinished.{ends, line_total, longest, unfinished}

module _ (s : List ℕ) (i : ℕ) where
  -- one byte less
  pub ends_more : i < length s → ends (drop i s) ≡ pick (eqb (get_or s i 0) line_end) 1 0 + ends (drop (i + 1) s)
  ends_more h = rw (add-one i, drop-cons s i 0 h) refl

  -- none left
  pub ends_none : length s ≤ i → ends (drop i s) ≡ 0
  ends_none h = rw (drop_of_length-le s {i = i} h) refl

  -- as many bytes as the longest request has
  pub unfinished_long : longest ≤ length s - i → unfinished (drop i s) ≡ false
  unfolding unfinished
  unfinished_long h = rw (length-drop i s, le-ltb (length s - i) longest h) refl

  -- fewer bytes: then the lines decide
  pub unfinished_short : length s - i < longest → ltb (ends (drop i s)) line_total ≡ unfinished (drop i s)
  unfolding unfinished
  unfinished_short h = rw (length-drop i s, lt-ltb (length s - i) longest h) refl

-- no byte ends more than one line
pub ends_line_one : (b : ℕ) → pick (eqb b line_end) 1 0 ≤ 1
ends_line_one b = go (eqb b line_end)
  where
    go : (t : Bool) → pick t 1 0 ≤ 1
    go true = omega arith
    go false = omega arith
