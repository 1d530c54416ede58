-- Document 01, "The tables"; rules 3.1 to 3.5, 3.7 to 3.12, 3.17 and 3.19 to 3.22: the tests of a record by itself, each over the words that it
-- speaks of. That a user's device is 0 to 64 (rule 3.2) is not among them: rule 3.15, in State/Check, asks more of it.
use Rattle.std.specs.Prelude.{Bool, ◌&&◌, ◌||◌, not, ℕ, eqb, leb, ltb}
use Rattle.model.specs.Basics.Tests.{every, imp}
use Rattle.model.specs.Level.{level_count, role_sets}
use Rattle.model.specs.Tables.Kinds.{screen}
use Rattle.model.specs.Tables.Rows.{seek}
use Rattle.model.specs.Tables.Words.{EntityWord, UserWord, absent_kind, authorised, clearance, container_kind, current, device}
use Rattle.model.specs.Tables.Words.{device_kind, first_noticed, held, held_op, kind, last_noticed, level, mark, maximum, missed}
use Rattle.model.specs.Tables.Words.{missed_most, object_kind, operation_count, operation_in, place, place_count, plain_type, position_count}
use Rattle.model.specs.Tables.Words.{position_of, present, released_type, releaser, shown, spare, spare_count, sum_most, triple, type}
use Rattle.model.specs.Tables.Words.{used, user_count, value, who_most, who_of}

-- Rules 3.4 and 3.5: the first n places used, distinct, the rest zero.
unfoldable pub packed_test : (ℕ → ℕ) → ℕ → Bool
packed_test r n = leb n place_count && (every place_count (λ i. imp (ltb i n) (leb 1 (r i))) && (every place_count (λ i. imp (leb n i) (eqb (r i) 0))
    && every place_count (λ i. every place_count (λ j. imp (ltb i n) (imp (ltb j n) (imp (eqb (r i) (r j)) (eqb i j)))))))

-- Rules 3.3 and 3.8 to 3.11: words 0 to 6 of an entity.
unfoldable pub shape_test : (k t l m v r x : ℕ) → Bool
shape_test k t l m v r x =
    leb k device_kind && (leb t released_type && (ltb l level_count && (leb m 1 && (ltb x level_count
    && (imp (not (eqb t plain_type)) (eqb k container_kind) && (imp (not (eqb m 0)) (eqb k container_kind)
    && (imp (eqb t released_type) (leb 1 r && leb r user_count) && (imp (not (eqb t released_type)) (eqb r 0)
    && (imp (not (screen k)) (eqb x 0) && imp (screen k) (eqb v 0))))))))))

-- Rules 3.4, 3.7 and 3.12: contents and what is shown of them.
unfoldable pub filled_test : ℕ → ℕ → (ℕ → ℕ) → (ℕ → ℕ) → Bool
filled_test k n at sum = packed_test at n && (imp (eqb k object_kind) (eqb n 0)
    && (imp (screen k) (every place_count (λ i. imp (ltb i n) (leb 1 (sum i) && leb (sum i) sum_most)))
    && (imp (not (screen k)) (every place_count (λ i. eqb (sum i) 0)) && every place_count (λ i. imp (leb n i) (eqb (sum i) 0)))))

-- Rule 3.22: what a triple may name.
unfoldable pub triple_test : ℕ → Bool
triple_test t = (leb 1 (who_of t) && leb (who_of t) who_most)
    && ((leb 1 (operation_in t) && leb (operation_in t) operation_count) && (leb 1 (position_of t) && leb (position_of t) position_count))

-- Rules 3.5 and 3.22: the triples before the first zero.
unfoldable pub access_test : (ℕ → ℕ) → Bool
access_test r = packed_test r (seek 0 r place_count) && every place_count (λ i. imp (ltb i (seek 0 r place_count)) (triple_test (r i)))

-- Rule 3.1: an absent entity's record.
unfoldable pub none_test : (EntityWord → ℕ) → Bool
none_test w = eqb (w kind) 0 && (eqb (w type) 0 && (eqb (w level) 0 && (eqb (w mark) 0
    && (eqb (w value) 0 && (eqb (w releaser) 0 && (eqb (w maximum) 0 && (eqb (w used) 0
    && (every place_count (λ i. eqb (w (place i)) 0)
    && (every place_count (λ i. eqb (w (shown i)) 0)
    && every place_count (λ i. eqb (w (triple i)) 0))))))))))

-- The rules above together: an entity's record by itself.
unfoldable pub entity_test : (EntityWord → ℕ) → Bool
entity_test w = imp (eqb (w kind) absent_kind) (none_test w) && (shape_test (w kind) (w type) (w level) (w mark) (w value) (w releaser) (w maximum)
    && (filled_test (w kind) (w used) (λ i. w (place i)) (λ i. w (shown i)) && access_test (λ i. w (triple i))))

-- Rules 3.2 and 3.19 to 3.21: a notice.
unfoldable pub notice_test : ℕ → ℕ → ℕ → Bool
notice_test h o n = (eqb h 0 || (leb first_noticed h && leb h last_noticed)) && (leb o operation_count && (leb n missed_most
    && (imp (eqb h 0) (eqb n 0) && (imp (eqb n 0) (eqb h 0) && imp (eqb h 0) (eqb o 0)))))

-- Rule 3.1: an absent user's record, but for the spare words, which are zero anyway.
unfoldable pub nobody_test : (UserWord → ℕ) → Bool
nobody_test w = eqb (w present) 0 && (eqb (w clearance) 0 && (eqb (w authorised) 0 && (eqb (w current) 0
    && (eqb (w device) 0 && (eqb (w held) 0 && (eqb (w held_op) 0 && eqb (w missed) 0))))))

-- Rules 3.2 and 3.17, with 3.1 and those of the notice: a user's record by itself.
unfoldable pub user_test : (UserWord → ℕ) → Bool
user_test w = imp (eqb (w present) 0) (nobody_test w)
    && (leb (w present) 1 && (ltb (w clearance) level_count && (ltb (w authorised) role_sets && (ltb (w current) role_sets
    && (every spare_count (λ i. eqb (w (spare i)) 0) && (imp (eqb (w device) 0) (eqb (w current) 0) && notice_test (w held) (w held_op) (w missed)))))))
