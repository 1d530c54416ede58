-- A word is known by its tag and its place in a row, and by its offset in the record; every offset is that of a word.
use Rattle.std.proofs.Common.{◌∙◌, ap₂, sym, arith, eqb→eq, ltb→lt}
use Rattle.std.specs.Prelude.{◌≡◌, refl, ◌%◌, ◌+◌, ◌-◌, ◌/◌, ◌<◌, min, ℕ, eqb, ltb}
use Rattle.model.specs.Basics.Agree.{every_at}
use Rattle.model.specs.Basics.Tests.{every}
use Rattle.model.specs.Tables.Layout.{entity_width, offset, user_offset, user_width}
use Rattle.model.specs.Tables.WordAt.{entity_word_at, entity_word_of, user_word_at, user_word_of}
use Rattle.model.specs.Tables.Words.{EntityWord, UserWord, authorised, clearance, current, device, held, held_op, index, kind, level}
use Rattle.model.specs.Tables.Words.{mark, maximum, missed, place, place_count, present, releaser, shown, spare, tag, triple, type}
use Rattle.model.specs.Tables.Words.{used, user_index, user_tag, value}

-- a user's word is the word of its tag and place
user_word_of_lem : (f : UserWord) → user_word_of (user_tag f) (user_index f) ≡ f
unfolding user_word_of
user_word_of_lem present = refl
user_word_of_lem clearance = refl
user_word_of_lem authorised = refl
user_word_of_lem current = refl
user_word_of_lem device = refl
user_word_of_lem held = refl
user_word_of_lem held_op = refl
user_word_of_lem missed = refl
user_word_of_lem (spare i) = refl

-- an entity's word is the word of its tag and place
entity_word_of_lem : (f : EntityWord) → entity_word_of (tag f) (index f) ≡ f
unfolding entity_word_of
entity_word_of_lem kind = refl
entity_word_of_lem type = refl
entity_word_of_lem level = refl
entity_word_of_lem mark = refl
entity_word_of_lem value = refl
entity_word_of_lem releaser = refl
entity_word_of_lem maximum = refl
entity_word_of_lem used = refl
entity_word_of_lem (place i) = refl
entity_word_of_lem (shown i) = refl
entity_word_of_lem (triple i) = refl

-- two words of a user with one tag and one place are one word
pub user_word_same : (g f : UserWord) → user_tag g ≡ user_tag f → user_index g ≡ user_index f → g ≡ f
user_word_same g f p q = sym (user_word_of_lem g) ∙ ap₂ user_word_of p q ∙ user_word_of_lem f

-- the same of an entity's words
pub entity_word_same : (g f : EntityWord) → tag g ≡ tag f → index g ≡ index f → g ≡ f
entity_word_same g f p q = sym (entity_word_of_lem g) ∙ ap₂ entity_word_of p q ∙ entity_word_of_lem f

-- the tag and the place of a user's word, from its offset
user_parts : (f : UserWord) → (min (user_offset f) 8 ≡ user_tag f) × (user_offset f - 8 ≡ user_index f)
user_parts present = omega arith
user_parts clearance = omega arith
user_parts authorised = omega arith
user_parts current = omega arith
user_parts device = omega arith
user_parts held = omega arith
user_parts held_op = omega arith
user_parts missed = omega arith
user_parts (spare i) = omega arith

-- the same of an entity's word among the first eight places of its row, and that it stands within the width of the record
entity_parts : (f : EntityWord) → index f < place_count
    → (min (offset f) (offset f / 8 + 7) ≡ tag f) × ((offset f - 8) % 8 ≡ index f) × (offset f < entity_width)
entity_parts kind h = omega arith
entity_parts type h = omega arith
entity_parts level h = omega arith
entity_parts mark h = omega arith
entity_parts value h = omega arith
entity_parts releaser h = omega arith
entity_parts maximum h = omega arith
entity_parts used h = omega arith
entity_parts (place i) h = omega arith
entity_parts (shown i) h = omega arith
entity_parts (triple i) h = omega arith

-- a word among the first eight places of its row stands within the width of the record
pub offset_below : (f : EntityWord) → index f < place_count → offset f < entity_width
offset_below f h = (entity_parts f h).2

-- the word at the offset of a user's word is that word
pub user_word_back : (f : UserWord) → user_word_at (user_offset f) ≡ f
unfolding user_word_at
user_word_back f = ap₂ user_word_of (user_parts f).0 (user_parts f).1 ∙ user_word_of_lem f

-- the same of an entity's word among the first eight places of its row
pub entity_word_back : (f : EntityWord) → index f < place_count → entity_word_at (offset f) ≡ f
unfolding entity_word_at
entity_word_back f h = ap₂ entity_word_of (entity_parts f h).0 (entity_parts f h).1 ∙ entity_word_of_lem f

-- every offset below a user's width is that of the word at it
pub user_offset_at : (m : ℕ) → m < user_width → user_offset (user_word_at m) ≡ m
unfolding every user_word_at user_word_of
user_offset_at m h = eqb→eq (user_offset (user_word_at m)) m (every_at user_width (λ i. eqb (user_offset (user_word_at i)) i) tt m h)

-- every offset below an entity's width is that of the word at it
pub offset_at : (m : ℕ) → m < entity_width → offset (entity_word_at m) ≡ m
unfolding every entity_word_at entity_word_of
offset_at m h = eqb→eq (offset (entity_word_at m)) m (every_at entity_width (λ i. eqb (offset (entity_word_at i)) i) tt m h)

-- and that word is among the first eight places of its row
pub index_below : (m : ℕ) → m < entity_width → index (entity_word_at m) < place_count
unfolding every entity_word_at entity_word_of
index_below m h = ltb→lt (index (entity_word_at m)) place_count (every_at entity_width (λ i. ltb (index (entity_word_at i)) place_count) tt m h)
