-- The seven lines of a text, one written after another: each has room after those before it, and after the last all are written.
use Rattle.std.specs.Prelude.{List, ◌++◌, ℕ}
use Rattle.lines.specs.Adds.{Adds, Room}
use Rattle.lines.specs.AddsLaws.{adds_both, adds_room}
use Rattle.lines.specs.PutsLaws.{room_first}
use Rattle.lines.specs.declared.putting.Output.{Output}
use Rattle.model.specs.Text.Lines.{line}
use Rattle.model.specs.Text.Numbers.{digits}
use Rattle.model.specs.Text.References.{joined}
use Rattle.model.specs.Text.Wording.{Wording, a_key, b_key, c_key, op_key, ref2_key, ref_key, text_of, user_key}

-- the lines of a text from one of them on
abbrev from7 : Wording → List ℕ
from7 m = line c_key (digits m.c)

abbrev from6 : Wording → List ℕ
from6 m = line b_key (digits m.b) ++ from7 m

abbrev from5 : Wording → List ℕ
from5 m = line a_key (digits m.a) ++ from6 m

abbrev from4 : Wording → List ℕ
from4 m = line ref2_key (joined m.second) ++ from5 m

abbrev from3 : Wording → List ℕ
from3 m = line ref_key (joined m.first) ++ from4 m

abbrev from2 : Wording → List ℕ
from2 m = line op_key (digits m.operation) ++ from3 m

module _ (m : Wording) (o : Output) (r : Room (text_of m) o) where
  all1 : Room (line user_key (digits m.user) ++ from2 m) o
  unfolding text_of
  all1 = r

  pub room1 : Room (line user_key (digits m.user)) o
  room1 = room_first (line user_key (digits m.user)) (from2 m) _ all1

  module _ {o1 : Output} (w1 : Adds (line user_key (digits m.user)) o o1) where
    all2 : Room (line op_key (digits m.operation) ++ from3 m) o1
    all2 = adds_room (from2 m) all1 w1

    pub room2 : Room (line op_key (digits m.operation)) o1
    room2 = room_first (line op_key (digits m.operation)) (from3 m) _ all2

    module _ {o2 : Output} (w2 : Adds (line op_key (digits m.operation)) o1 o2) where
      all3 : Room (line ref_key (joined m.first) ++ from4 m) o2
      all3 = adds_room (from3 m) all2 w2

      pub room3 : Room (line ref_key (joined m.first)) o2
      room3 = room_first (line ref_key (joined m.first)) (from4 m) _ all3

      module _ {o3 : Output} (w3 : Adds (line ref_key (joined m.first)) o2 o3) where
        all4 : Room (line ref2_key (joined m.second) ++ from5 m) o3
        all4 = adds_room (from4 m) all3 w3

        pub room4 : Room (line ref2_key (joined m.second)) o3
        room4 = room_first (line ref2_key (joined m.second)) (from5 m) _ all4

        module _ {o4 : Output} (w4 : Adds (line ref2_key (joined m.second)) o3 o4) where
          all5 : Room (line a_key (digits m.a) ++ from6 m) o4
          all5 = adds_room (from5 m) all4 w4

          pub room5 : Room (line a_key (digits m.a)) o4
          room5 = room_first (line a_key (digits m.a)) (from6 m) _ all5

          module _ {o5 : Output} (w5 : Adds (line a_key (digits m.a)) o4 o5) where
            all6 : Room (line b_key (digits m.b) ++ from7 m) o5
            all6 = adds_room (from6 m) all5 w5

            pub room6 : Room (line b_key (digits m.b)) o5
            room6 = room_first (line b_key (digits m.b)) (from7 m) _ all6

            module _ {o6 : Output} (w6 : Adds (line b_key (digits m.b)) o5 o6) where
              pub room7 : Room (line c_key (digits m.c)) o6
              room7 = adds_room (from7 m) all6 w6

              pub all_written : {o7 : Output} → Adds (line c_key (digits m.c)) o6 o7 → Adds (text_of m) o o7
              unfolding text_of
              all_written w7 = adds_both all1 w1 (adds_both all2 w2 (adds_both all3 w3 (adds_both all4 w4 (adds_both all5 w5 (adds_both all6 w6 w7)))))
