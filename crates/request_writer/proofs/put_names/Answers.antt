use Rattle.std.proofs.Common.{List, add-one, ap, arith, get_or, length, take, take_all, ℕ, ◌+◌, ◌<◌, ◌≡◌, ◌≤◌, ◌∷◌}
use Rattle.lines.specs.Adds.{Adds, Room}
use Rattle.lines.specs.AddsLaws.{adds_after, adds_none}
use Rattle.lines.specs.PutsLaws.{room_after_lem}
use Rattle.lines.specs.OntoLaws.{empty}
use Rattle.lines.specs.declared.putting.Output.{Output}
use Rattle.model.specs.Text.Numbers.{digits}
use Rattle.model.specs.Text.References.{dot_byte, joined}
use Rattle.request_writer.specs.NameLaws.{first_long, joined_first, joined_next, joined_room}
use Rattle.request_writer.proofs.put_names.Goals as goal

-- the names ns are n and the others
module _ {ns others : List ℕ} {n : ℕ} (e : ns ≡ n ∷ others) where
  some : 0 < length ns
  some = omega (arith, ap length e)

  first_is : get_or ns 0 0 ≡ n
  first_is = rw e

  module _ (i : ℕ) (h : i < length others) where
    inside : i + 1 < length ns
    inside = omega (arith, h, ap length e)

    next_is : get_or ns (i + 1) 0 ≡ get_or others i 0
    next_is = rw (e, add-one)

    next_fits : length (joined (take (i + 1) ns)) + length (dot_byte ∷ digits (get_or others i 0)) ≤ length (joined ns)
    next_fits = rw next_is at (joined_room ns (i + 1) (omega arith) inside)

  -- where all have room, the first of them has room, and then it is written
  first_room : (o : Output) → Room (joined ns) o → Room (digits n) o
  first_room o r = omega (arith, r, rw first_is at (first_long ns some))

  first_adds : {o p : Output} → Adds (digits n) o p → Adds (joined (take 1 ns)) o p
  first_adds a = rw (joined_first ns some, first_is) a

  -- after it and i others the next has room, and then one more is written
  module _ (i : ℕ) (h : i < length others) {o p : Output} (r : Room (joined ns) o) (a : Adds (joined (take (i + 1) ns)) o p) where
    next_room : Room (dot_byte ∷ digits (get_or others i 0)) p
    next_room = room_after_lem (dot_byte ∷ digits (get_or others i 0)) a.puts (omega (arith, r, next_fits i h))

    next_adds : {q : Output} → Adds (dot_byte ∷ digits (get_or others i 0)) p q → Adds (joined (take (i + 1 + 1) ns)) o q
    next_adds b = rw (joined_next ns (i + 1) (omega arith) (inside i h), next_is i h) (adds_after (omega (arith, r, next_fits i h)) a b)

  -- after all others, all are written
  last_adds : {o p : Output} (i : ℕ) → length others ≤ i → Adds (joined (take (i + 1) ns)) o p → Adds (joined ns) o p
  last_adds i h a = rw (take_all (i + 1) ns (omega (arith, h, ap length e))) at a

pub returns-in_default : goal.returns-in_default
returns-in_default c = rw (empty c.args.names.now c.in_default.ensures.cases) (adds_none _)

pub put_number-requires : goal.put_number-requires
put_number-requires c = first_room c.in-Some.ensures.cases.0 c.args.out.now c.requires

pub loop-name-init : goal.loop-name-init
loop-name-init c = first_adds c.in-Some.ensures.cases.0 c.put_number.ensures

pub put_part-requires : goal.put_part-requires
put_part-requires c = next_room c.in-Some.ensures.cases.0 c.loop-name.name-index c.loop-name-test.true c.requires c.loop-name.invariant

pub loop-name-preserved : goal.loop-name-preserved
loop-name-preserved c =
    next_adds c.in-Some.ensures.cases.0 c.loop-name.name-index c.loop-name-test.true c.requires c.loop-name.invariant c.put_part.ensures

pub returns : goal.returns
returns c = last_adds c.in-Some.ensures.cases.0 c.loop-name.name-index c.loop-name-test.false c.loop-name.invariant
