-- Document 01, "The refusal ladder"; rule 7: the answers by name. One list for the model, the code, the header and the crate: `no_room` is NO_ROOM
-- and NoRoom there. A file that cites them says `use .. as refusal`, so that a refusal's number is never taken for the test of the same name.
use Rattle.std.specs.Prelude.{ℕ}

-- done
abbrev pub accepted : ℕ
accepted = 0

-- 7.1: tables or a request of another length
abbrev pub bad_length : ℕ
bad_length = 1

-- 7.2: the tables are not well-formed
abbrev pub not_well_formed : ℕ
not_well_formed = 2

-- 7.3: the tables are not secure
abbrev pub not_secure : ℕ
not_secure = 3

-- 7.4: who asks is no present user
abbrev pub unknown_requester : ℕ
unknown_requester = 4

-- 7.5: no such operation, or words that it does not take
abbrev pub bad_request : ℕ
bad_request = 5

-- 7.6: the requester is logged off
abbrev pub not_logged_on : ℕ
not_logged_on = 6

-- 7.7: a reference leads nowhere
abbrev pub no_such_name : ℕ
no_such_name = 7

-- 7.8: an operand has no triple that permits this
abbrev pub no_access : ℕ
no_access = 8

-- 7.9: a marked container on the way is above the requester's clearance
abbrev pub marked : ℕ
marked = 9

-- 7.10: an operand is of the wrong kind or type
abbrev pub wrong_kind : ℕ
wrong_kind = 10

-- 7.11: the user spoken of is absent, or logged off and to have roles
abbrev pub no_such_user : ℕ
no_such_user = 11

-- 7.12: the requester lacks a role
abbrev pub role_missing : ℕ
role_missing = 12

-- 7.13: a level or a set of roles stands in the way
abbrev pub level_or_roles : ℕ
level_or_roles = 13

-- 7.14: there is no room in the tables
abbrev pub no_room : ℕ
no_room = 14

-- 7.15: the arrangement does not allow it
abbrev pub arrangement : ℕ
arrangement = 15

-- 7.16: the acknowledgement is not of what is held
abbrev pub not_acknowledged : ℕ
not_acknowledged = 16

-- 7.17: the room lent for output is too short
abbrev pub too_short : ℕ
too_short = 17

-- 7.18: the text is no request, or no text of tables
abbrev pub not_a_request : ℕ
not_a_request = 18
