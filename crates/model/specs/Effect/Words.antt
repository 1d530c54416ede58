-- Document 01, "The request and its operations"; rules 6.4 to 6.7 and 6.14 to 6.20: the effects that set words of one record and touch no place.
use Rattle.std.specs.Prelude.{ℕ}
use Rattle.model.specs.Tables.Edits.{Edit, ◌and◌, on_entity, on_user, user_word, word}
use Rattle.model.specs.Tables.Words.{Tables, UserWord, authorised, clearance, current, held, held_op, level, mark, maximum, missed}
use Rattle.model.specs.Tables.Words.{released_type, releaser, type, value}

-- Rule 6.4: the value of e is v.
abbrev pub edit : ℕ → ℕ → Tables → Tables
edit e v = on_entity e (word value v)

-- Rule 6.5: the value of b is that of a.
abbrev pub copy : ℕ → ℕ → Tables → Tables
copy a b d = edit b (d.entity a value) d

-- Rules 6.6 and 6.18: the level of e is v.
abbrev pub set_level : ℕ → ℕ → Tables → Tables
set_level e v = on_entity e (word level v)

-- Rule 6.7: the mark of e is v.
abbrev pub set_mark : ℕ → ℕ → Tables → Tables
set_mark e v = on_entity e (word mark v)

-- Rule 6.14: the current roles of u are v.
abbrev pub set_current : ℕ → ℕ → Tables → Tables
set_current u v = on_user u (user_word current v)

-- Rule 6.15: the clearance of u is v.
abbrev pub set_clearance : ℕ → ℕ → Tables → Tables
set_clearance u v = on_user u (user_word clearance v)

-- Rule 6.16: the authorised roles of u are v.
abbrev pub set_authorised : ℕ → ℕ → Tables → Tables
set_authorised u v = on_user u (user_word authorised v)

-- Rule 6.17: the maximum of the device e is v.
abbrev pub set_maximum : ℕ → ℕ → Tables → Tables
set_maximum e v = on_entity e (word maximum v)

-- Rule 6.19: e is released, and its releaser is u.
abbrev pub release : ℕ → ℕ → Tables → Tables
release u e = on_entity e (word type released_type and word releaser u)

-- Rule 6.20: the notice of u is empty.
abbrev pub quieting : Edit UserWord
quieting = user_word held 0 and user_word held_op 0 and user_word missed 0

abbrev pub acknowledge : ℕ → Tables → Tables
acknowledge u = on_user u quieting
