-- Lines and records written piece by piece: after each piece there is room for the next, and after the last all is written.
use Rattle.std.specs.Prelude.{List, [], ◌++◌, ◌∷◌, ◌≡◌, ℕ}
use Rattle.std.proofs.Common.{arith}
use Rattle.lines.specs.Adds.{Adds, Room}
use Rattle.lines.specs.AddsLaws.{adds_both, adds_room}
use Rattle.lines.specs.PutsLaws.{room_first}
use Rattle.lines.specs.declared.putting.Output.{Output}
use Rattle.model.specs.Tables.Layout.{tables_of}
use Rattle.model.specs.Tables.Words.{Tables, absent_kind, entity_count, kinds, operation_in, position_of, present, used_places, user_count, who_of}
use Rattle.model.specs.Text.Lines.{line_end}
use Rattle.model.specs.Text.Numbers.{digits}
use Rattle.model.specs.Text.Wording.{user_key}
use Rattle.tables_text.specs.Calls.{text_of_tables}
use Rattle.tables_text.specs.Keys.{content_key, entity_fields, entity_key, triple_key, triples_key, user_fields}
use Rattle.tables_text.specs.TextOf.{entity_text, entity_words, field_lines, place_at, series, tables_text, triple_at, triple_count, user_text, user_words}
use Rattle.tables_text.proofs.ToldLaws.{entity_present, user_present}
use Rattle.tables_text.specs.Values.{number_line, place_line, triple_line}
use Rattle.record_writer.specs.LineLaws.{part, place_is, place_rest, triple_is, triple_rest}

-- ---- the line of a place: its key, a number, a dot and a number, LF
module _ (e s : ℕ) (o : Output) (h : Room (place_line (record { entity = e; sum = s })) o) where
  place_all : Room (content_key ++ (digits e ++ place_rest s)) o
  place_all = rw (place_is e s) at h

  pub place_room : Room content_key o
  place_room = room_first content_key (digits e ++ place_rest s) _ place_all

  module _ {o1 : Output} (p : Adds content_key o o1) where
    place_all2 : Room (digits e ++ place_rest s) o1
    place_all2 = adds_room (digits e ++ place_rest s) place_all p

    pub place_room2 : Room (digits e) o1
    place_room2 = room_first (digits e) (place_rest s) _ place_all2

    module _ {o2 : Output} (q : Adds (digits e) o1 o2) where
      place_all3 : Room (place_rest s) o2
      place_all3 = adds_room (place_rest s) place_all2 q

      pub place_room3 : Room (part s) o2
      place_room3 = room_first (part s) (line_end ∷ []) _ place_all3

      module _ {o3 : Output} (u : Adds (part s) o2 o3) where
        pub place_room4 : Room (line_end ∷ []) o3
        place_room4 = adds_room (line_end ∷ []) place_all3 u

        pub place_puts : {done : Output} → Adds (line_end ∷ []) o3 done → Adds (place_line (record { entity = e; sum = s })) o done
        place_puts w = rw (place_is e s) (adds_both place_all p (adds_both place_all2 q (adds_both place_all3 u w)))

-- ---- the line of a triple: its key, a number, twice a dot and a number, LF
module _ (t : ℕ) (o : Output) (h : Room (triple_line t) o) where
  triple_all : Room (triple_key ++ (digits (who_of t) ++ triple_rest t)) o
  triple_all = rw (triple_is t) at h

  pub triple_room : Room triple_key o
  triple_room = room_first triple_key (digits (who_of t) ++ triple_rest t) _ triple_all

  module _ {o1 : Output} (p : Adds triple_key o o1) where
    triple_all2 : Room (digits (who_of t) ++ triple_rest t) o1
    triple_all2 = adds_room (digits (who_of t) ++ triple_rest t) triple_all p

    pub triple_room2 : Room (digits (who_of t)) o1
    triple_room2 = room_first (digits (who_of t)) (triple_rest t) _ triple_all2

    module _ {o2 : Output} (q : Adds (digits (who_of t)) o1 o2) where
      triple_all3 : Room (triple_rest t) o2
      triple_all3 = adds_room (triple_rest t) triple_all2 q

      pub triple_room3 : Room (part (operation_in t)) o2
      triple_room3 = room_first (part (operation_in t)) (part (position_of t) ++ (line_end ∷ [])) _ triple_all3

      module _ {o3 : Output} (u : Adds (part (operation_in t)) o2 o3) where
        triple_all4 : Room (part (position_of t) ++ (line_end ∷ [])) o3
        triple_all4 = adds_room (part (position_of t) ++ (line_end ∷ [])) triple_all3 u

        pub triple_room4 : Room (part (position_of t)) o3
        triple_room4 = room_first (part (position_of t)) (line_end ∷ []) _ triple_all4

        module _ {o4 : Output} (w : Adds (part (position_of t)) o3 o4) where
          pub triple_room5 : Room (line_end ∷ []) o4
          triple_room5 = adds_room (line_end ∷ []) triple_all4 w

          pub triple_puts : {done : Output} → Adds (line_end ∷ []) o4 done → Adds (triple_line t) o done
          triple_puts k =
              rw (triple_is t) (adds_both triple_all p (adds_both triple_all2 q (adds_both triple_all3 u (adds_both triple_all4 w k))))

-- ---- a user who is there: the number, and the fields
user_is_lem : (m : Tables) (u : ℕ) → (m.user u present ≡ 0 → ⊥) → user_text m u ≡ number_line user_key u ++ field_lines user_fields 1 (user_words m u)
user_is_lem m u n = user_present m u (omega arith)

module _ (m : Tables) (u : ℕ) (o : Output) (n : m.user u present ≡ 0 → ⊥) (h : Room (user_text m u) o) where
  user_all : Room (number_line user_key u ++ field_lines user_fields 1 (user_words m u)) o
  user_all = rw (user_is_lem m u n) at h

  pub user_room : Room (number_line user_key u) o
  user_room = room_first (number_line user_key u) (field_lines user_fields 1 (user_words m u)) _ user_all

  module _ {o1 : Output} (p : Adds (number_line user_key u) o o1) where
    pub user_room2 : Room (field_lines user_fields 1 (user_words m u)) o1
    user_room2 = adds_room (field_lines user_fields 1 (user_words m u)) user_all p

    pub user_puts : {done : Output} → Adds (field_lines user_fields 1 (user_words m u)) o1 done → Adds (user_text m u) o done
    user_puts q = rw (user_is_lem m u n) (adds_both user_all p q)

-- ---- an entity that is there: the number, the fields, the places, the number of triples, and those
module _ (m : Tables) (e : ℕ) where
  -- its parts, each with all that follows
  abbrev last5 : List ℕ
  last5 = series (triple_count m e) 0 (triple_at m e)

  abbrev last4 : List ℕ
  last4 = number_line triples_key (triple_count m e) ++ last5

  abbrev last3 : List ℕ
  last3 = series (used_places m e) 0 (place_at m e) ++ last4

  abbrev last2 : List ℕ
  last2 = field_lines entity_fields 0 (entity_words m e) ++ last3

  entity_is_lem : (kinds m e ≡ absent_kind → ⊥) → entity_text m e ≡ number_line entity_key e ++ last2
  entity_is_lem n = entity_present m e (omega arith)

  module _ (o : Output) (n : kinds m e ≡ absent_kind → ⊥) (h : Room (entity_text m e) o) where
    entity_all : Room (number_line entity_key e ++ last2) o
    entity_all = rw (entity_is_lem n) at h

    pub entity_room : Room (number_line entity_key e) o
    entity_room = room_first (number_line entity_key e) last2 _ entity_all

    module _ {o1 : Output} (p : Adds (number_line entity_key e) o o1) where
      entity_all2 : Room last2 o1
      entity_all2 = adds_room last2 entity_all p

      pub entity_room2 : Room (field_lines entity_fields 0 (entity_words m e)) o1
      entity_room2 = room_first (field_lines entity_fields 0 (entity_words m e)) last3 _ entity_all2

      module _ {o2 : Output} (q : Adds (field_lines entity_fields 0 (entity_words m e)) o1 o2) where
        entity_all3 : Room last3 o2
        entity_all3 = adds_room last3 entity_all2 q

        pub entity_room3 : Room (series (used_places m e) 0 (place_at m e)) o2
        entity_room3 = room_first (series (used_places m e) 0 (place_at m e)) last4 _ entity_all3

        module _ {o3 : Output} (u : Adds (series (used_places m e) 0 (place_at m e)) o2 o3) where
          entity_all4 : Room last4 o3
          entity_all4 = adds_room last4 entity_all3 u

          pub entity_room4 : Room (number_line triples_key (triple_count m e)) o3
          entity_room4 = room_first (number_line triples_key (triple_count m e)) last5 _ entity_all4

          module _ {o4 : Output} (w : Adds (number_line triples_key (triple_count m e)) o3 o4) where
            pub entity_room5 : Room last5 o4
            entity_room5 = adds_room last5 entity_all4 w

            pub entity_puts : {done : Output} → Adds last5 o4 done → Adds (entity_text m e) o done
            entity_puts k = rw (entity_is_lem n) (adds_both entity_all p (adds_both entity_all2 q (adds_both entity_all3 u (adds_both entity_all4 w k))))

-- ---- a whole text: users, then entities
module _ (t : List ℕ) (o : Output) (h : Room (text_of_tables t) o) where
  text_all : Room (series user_count 1 (user_text (tables_of t)) ++ series entity_count 1 (entity_text (tables_of t))) o
  unfolding tables_text
  text_all = h

  pub text_room : Room (series user_count 1 (user_text (tables_of t))) o
  text_room = room_first (series user_count 1 (user_text (tables_of t))) (series entity_count 1 (entity_text (tables_of t))) _ text_all

  module _ {o1 : Output} (p : Adds (series user_count 1 (user_text (tables_of t))) o o1) where
    pub text_room2 : Room (series entity_count 1 (entity_text (tables_of t))) o1
    text_room2 = adds_room (series entity_count 1 (entity_text (tables_of t))) text_all p

    pub text_adds : {done : Output} → Adds (series entity_count 1 (entity_text (tables_of t))) o1 done → Adds (text_of_tables t) o done
    unfolding tables_text
    text_adds q = adds_both text_all p q
