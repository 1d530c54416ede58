-- Document 01, "The request and its operations"; rules 6.10 to 6.13: the effects on devices and on who is on them.
use Rattle.std.specs.Prelude.{suc, ℕ, ltb}
use Rattle.model.specs.Basics.Choice.{pick}
use Rattle.model.specs.Tables.Edits.{Edit, ◌and◌, on_entity, on_user, row, user_word, word}
use Rattle.model.specs.Tables.Rows.{replace, seek}
use Rattle.model.specs.Tables.Words.{EntityWord, Tables, UserWord, current, device, devices, place, places, shown, sums, used}
use Rattle.model.specs.Tables.Words.{used_places}

-- the place of e on the device v, or the next free one
abbrev pub spot : ℕ → ℕ → Tables → ℕ
spot v e d = seek e (places d v) (used_places d v)

abbrev pub placing : ℕ → ℕ → ℕ → Tables → ℕ → ℕ → Edit EntityWord
placing v e s d k n = word used n and row place (replace k e (places d v)) and row shown (replace k s (sums d v))

-- Rule 6.10: the device v shows e with the sum s: last, or in its place, where it has one.
abbrev pub show : ℕ → ℕ → ℕ → Tables → Tables
show v e s d = on_entity v (placing v e s d (spot v e d) (pick (ltb (spot v e d) (used_places d v)) (used_places d v) (suc (used_places d v)))) d

-- Rule 6.11: the device v shows nothing.
abbrev pub clearing : Edit EntityWord
clearing = word used 0 and row place (λ i. 0) and row shown (λ i. 0)

abbrev pub clear : ℕ → Tables → Tables
clear v = on_entity v clearing

-- Rule 6.12: u is on the device v.
abbrev pub login : ℕ → ℕ → Tables → Tables
login u v = on_user u (user_word device v)

-- u is on no device and has no current roles
abbrev pub departing : Edit UserWord
departing = user_word device 0 and user_word current 0

abbrev pub off : ℕ → Tables → Tables
off u = on_user u departing

-- Rule 6.13: the screen of u is emptied, and u is off.
abbrev pub logout : ℕ → Tables → Tables
logout u d = off u (clear (devices d u) d)
