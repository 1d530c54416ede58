-- Document 01, "The tables"; rules 2.1 to 2.5: the words of the tables by name, and the numbers that they are counted and told apart by.
use Rattle.std.specs.Prelude.{◌%◌, ◌*◌, ◌+◌, ◌/◌, suc, ℕ}
use Rattle.model.specs.Level.{role_count}
use Rattle.model.specs.Request.Refusals as refusal

-- Rule 2.1: sixteen users and sixty-four entities, both numbered from 1; rows of eight places, and eight spare words of a user.
abbrev pub user_count : ℕ
user_count = 16

abbrev pub entity_count : ℕ
entity_count = 64

abbrev pub place_count : ℕ
place_count = 8

abbrev pub spare_count : ℕ
spare_count = 8

-- Rule 2.2: the words of a user. `held`, `held_op` and `missed` are the notice; the spare words are zero.
pub data UserWord : Type 0 where
  present clearance authorised current device held held_op missed : UserWord
  spare : ℕ → UserWord

-- Rule 2.3: the words of an entity. `used` is the number of places in use; the three rows are numbered from 0.
pub data EntityWord : Type 0 where
  kind type level mark value releaser maximum used : EntityWord
  place shown triple : ℕ → EntityWord

-- Rule 2.1: one word of one record. Whatever stands outside the records and their rows is zero.
pub record Tables : Type 0 where
  pub user : ℕ → UserWord → ℕ
  pub entity : ℕ → EntityWord → ℕ

-- The kinds (rule 2.3); 0 is an absent entity.
abbrev pub absent_kind : ℕ
absent_kind = 0

abbrev pub object_kind : ℕ
object_kind = 1

abbrev pub container_kind : ℕ
container_kind = 2

abbrev pub device_kind : ℕ
device_kind = 3

-- The types (rule 2.3).
abbrev pub plain_type : ℕ
plain_type = 0

abbrev pub draft_type : ℕ
draft_type = 1

abbrev pub released_type : ℕ
released_type = 2

-- What a screen shows of an entity (rule 2.4): the value, the label and the ID are bits 0, 1 and 2 of a sum.
abbrev pub value_bit : ℕ
value_bit = 0

abbrev pub label_bit : ℕ
label_bit = 1

abbrev pub id_bit : ℕ
id_bit = 2

abbrev pub sum_most : ℕ
sum_most = 7

-- Rule 2.5: an access triple is one number of three parts: who, operation and operand position. The first two have these weights.
abbrev pub operation_weight : ℕ
operation_weight = 256

abbrev pub who_weight : ℕ
who_weight = 65536

abbrev pub triple_of : ℕ → ℕ → ℕ → ℕ
triple_of w o p = w * who_weight + o * operation_weight + p

abbrev pub who_of : ℕ → ℕ
who_of t = t / who_weight

abbrev pub operation_in : ℕ → ℕ
operation_in t = t / operation_weight % operation_weight

abbrev pub position_of : ℕ → ℕ
position_of t = t % operation_weight

-- Rule 2.5: who is a user's number, or 17 + r for the role of bit r.
abbrev pub who_role : ℕ → ℕ
who_role r = suc user_count + r

abbrev pub who_most : ℕ
who_most = user_count + role_count

-- Rule 3.22: operations are 1 to 20, positions 1 and 2.
abbrev pub operation_count : ℕ
operation_count = 20

abbrev pub position_count : ℕ
position_count = 2

-- Rule 3.19: the refusals of which a notice is kept; rule 3.21: where the number missed stops.
abbrev pub first_noticed : ℕ
first_noticed = refusal.bad_request

abbrev pub last_noticed : ℕ
last_noticed = refusal.not_acknowledged

abbrev pub missed_most : ℕ
missed_most = 65535

-- Columns: one word of every record.
abbrev pub kinds : Tables → ℕ → ℕ
kinds d e = d.entity e kind

abbrev pub used_places : Tables → ℕ → ℕ
used_places d e = d.entity e used

abbrev pub places : Tables → ℕ → ℕ → ℕ
places d e i = d.entity e (place i)

abbrev pub sums : Tables → ℕ → ℕ → ℕ
sums d e i = d.entity e (shown i)

abbrev pub triples : Tables → ℕ → ℕ → ℕ
triples d e i = d.entity e (triple i)

abbrev pub devices : Tables → ℕ → ℕ
devices d u = d.user u device

-- Words are told apart by a tag and, in a row, by their place. Both are literal numbers, so that the question computes.
abbrev pub user_tag : UserWord → ℕ
user_tag present = 0
user_tag clearance = 1
user_tag authorised = 2
user_tag current = 3
user_tag device = 4
user_tag held = 5
user_tag held_op = 6
user_tag missed = 7
user_tag (spare i) = 8

abbrev pub user_index : UserWord → ℕ
user_index present = 0
user_index clearance = 0
user_index authorised = 0
user_index current = 0
user_index device = 0
user_index held = 0
user_index held_op = 0
user_index missed = 0
user_index (spare i) = i

abbrev pub tag : EntityWord → ℕ
tag kind = 0
tag type = 1
tag level = 2
tag mark = 3
tag value = 4
tag releaser = 5
tag maximum = 6
tag used = 7
tag (place i) = 8
tag (shown i) = 9
tag (triple i) = 10

abbrev pub index : EntityWord → ℕ
index kind = 0
index type = 0
index level = 0
index mark = 0
index value = 0
index releaser = 0
index maximum = 0
index used = 0
index (place i) = i
index (shown i) = i
index (triple i) = i
