-- Document 01, "The refusal ladder"; rule 8.2: the notice that a refusal leaves.
use Rattle.std.specs.Prelude.{Bool, false, true, suc, ℕ, eqb, ltb}
use Rattle.model.specs.Tables.Edits.{Edit, ◌and◌, on_user, user_word}
use Rattle.model.specs.Tables.Words.{Tables, UserWord, held, held_op, missed, missed_most}

-- A word of the notice: the new one where nothing was held, else the old one.
abbrev pub keep_first : Bool → ℕ → ℕ → ℕ
keep_first true new old = new
keep_first false new old = old

-- The number missed: one more while it is under its greatest, and then it stays there.
abbrev pub missed_more : Bool → ℕ → ℕ
missed_more true m = suc m
missed_more false m = missed_most

-- The notice of u after a refusal r of an operation o.
abbrev pub noticing : ℕ → ℕ → ℕ → Tables → Edit UserWord
noticing u r o d = user_word held (keep_first (eqb (d.user u held) 0) r (d.user u held))
    and user_word held_op (keep_first (eqb (d.user u held) 0) o (d.user u held_op))
    and user_word missed (missed_more (ltb (d.user u missed) missed_most) (d.user u missed))

abbrev pub notice : ℕ → ℕ → ℕ → Tables → Tables
notice u r o d = on_user u (noticing u r o d) d
